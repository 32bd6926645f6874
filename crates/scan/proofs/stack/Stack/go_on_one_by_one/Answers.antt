use Rattle.std.proofs.Common.{rules, sym, ap, ◌∙◌, ◌≡◌, ◌≢◌, ◌++◌, [], List, arith, subst, take}
use Rattle.std.proofs.lemmas.List.{length-take-le}
use Rattle.page_table.specs.Stacks.{StackItem}
use Rattle.page_table.specs.Trees.{page_at}
use Rattle.scan.proofs.Visiting.{room_popped, goes_on_made}
use Rattle.scan.specs.Scanning.{IsNext, child_items}
use Rattle.scan.proofs.Growing.{on_err, pushes_some}
use Rattle.scan.proofs.stack.Stack.go_on_one_by_one.Goals as goal

pub push_children-requires : goal.push_children-requires
push_children-requires g c =
    let n = c.up_to_wanted-count.result in
    let same : c.args.self.now ≡ c.make_room.new.items.items = sym c.self.view_is ∙ sym c.make_room.ensures.items in
    record {
      within = c.up_to_wanted-count.ensures.within;
      room = c.push_link.ensures.room n
          (room_popped c.make_room.new.items c.pop.new.self n c.args.item (search rules) (subst (λ (xs : List StackItem). IsNext xs c.args.item) same c.requires.next) c.pop.ensures.rest c.pop.ensures.capacity);
    }

pub returns-clause-ok : goal.returns-clause-ok
returns-clause-ok g c =
    let old : List StackItem = c.args.self.now in
    let wants = g.T.BranchTest.wants c.args.test.now in
    let counter = c.args.table.now.counter in
    let pushed : c.push_children.new.items.items ≡ c.push_link.new.items.items ++ child_items wants counter (take c.up_to_wanted-count.result c.branches-branches.result.now) = search rules in
    goes_on_made (g.T.BranchTest.wants c.args.test.now) c.args.table.now old c.make_room.new.items.items c.pop.new.self.items c.push_link.new.items.items c.push_children.new.items.items c.args.item c.item.inside.memo _ c.page-page.result.now
    c.requires.next (c.make_room.ensures.items ∙ c.self.view_is) c.pop.ensures.rest (ap (λ i. i.memo) c.item.view_is) (search rules) c.push_link.ensures.pushed (search rules)
    (pushed ∙ ap (λ l. c.push_link.new.items.items ++ l) (c.up_to_wanted-count.ensures.same counter ∙ ap (λ bs. child_items wants counter bs) c.branches-branches.ensures))

pub returns-in_err-make_room-clause-memory : goal.returns-in_err-make_room-clause-memory
returns-in_err-make_room-clause-memory g c =
    let wants = g.T.BranchTest.wants c.args.test.now in
    let counter = c.args.table.now.counter in
    let some = c.up_to_wanted-count.ensures.wanted counter (omega (arith, c.in_err-make_room.ensures.some, length-take-le c.up_to_wanted-count.result c.branches-branches.result.now c.up_to_wanted-count.ensures.within)) in
    on_err c.from_residual.result (pushes_some wants c.args.table.now c.args.self.now c.args.item c.requires.next
    (subst (λ p. child_items wants counter (page_at c.args.table.now p).branches ≢ []) (ap (λ i. i.page) c.item.view_is)
    (subst (λ page. child_items wants counter page.branches ≢ []) c.page-page.ensures (subst (λ bs. child_items wants counter bs ≢ []) c.branches-branches.ensures some))))
