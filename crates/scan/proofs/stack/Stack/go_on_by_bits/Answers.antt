use Rattle.std.proofs.Common.{rules, length, sym, ap, ◌∙◌, ◌≡◌, ◌≢◌, ◌++◌, ◌≤◌, ◌<◌, [], List, map, reverse, subst, arith}
use Rattle.std.proofs.lemmas.List.{length-map, length-reverse}
use Rattle.std.specs.Prelude.{count_ones}
use Rattle.smallvec.specs.SmallVec.{HasRoomFor}
use Rattle.page_table.specs.Stacks.{StackItem}
use Rattle.page_table.specs.Trees.{page_at}
use Rattle.scan.proofs.Visiting.{room_popped, goes_on_made}
use Rattle.scan.specs.Scanning.{IsNext, child_items, item_of_child}
use Rattle.scan.proofs.Growing.{on_err, pushes_some}
use Rattle.scan.proofs.Pushing.{wanted_items}
use Rattle.search.proofs.Picking.{ones_picked}
use Rattle.search.specs.Picks.{picked}
use Rattle.scan.proofs.stack.Stack.go_on_by_bits.Goals as goal

pub push_picked-requires : goal.push_picked-requires
push_picked-requires g c =
    let bits = c.wanted_bits-wanted.result in
    let branches = c.branches-branches.result.now in
    let n = length (picked bits branches) in
    let same : c.args.self.now ≡ c.make_room.new.items.items = sym c.self.view_is ∙ sym c.make_room.ensures.items in
    let made : HasRoomFor c.make_room.new.items (count_ones bits) = search rules in
    let enough = subst (HasRoomFor c.make_room.new.items) (ones_picked branches bits c.wanted_bits-wanted.ensures.within) made in record {
      few = subst (λ bs. length bs ≤ 64) (sym (c.branches-branches.ensures ∙ ap (λ page. page.branches) c.page-page.ensures ∙ ap (λ i. (page_at c.args.table.now i.page).branches) c.item.view_is)) c.requires.few;
      within = c.wanted_bits-wanted.ensures.within;
      room = c.push_link.ensures.room n (room_popped c.make_room.new.items c.pop.new.self n c.args.item enough (subst (λ (xs : List StackItem). IsNext xs c.args.item) same c.requires.next) c.pop.ensures.rest c.pop.ensures.capacity);
    }

pub returns-clause-ok : goal.returns-clause-ok
returns-clause-ok g c =
    let old : List StackItem = c.args.self.now in
    let wants = g.T.BranchTest.wants c.args.test.now in
    let counter = c.args.table.now.counter in
    let branches = c.branches-branches.result.now in
    let bits = c.wanted_bits-wanted.result in
    let before = c.push_link.new.items.items in
    let pushed =
    c.push_picked.ensures ∙ ap (λ n. before ++ map (item_of_child n) (reverse (picked bits branches))) c.counter-memo.ensures
    ∙ ap (λ l. before ++ map (item_of_child counter) (reverse l)) c.wanted_bits-wanted.ensures.wanted
    ∙ ap (λ l. before ++ l) (wanted_items wants counter branches) in
    goes_on_made wants c.args.table.now old c.make_room.new.items.items c.pop.new.self.items before c.push_picked.new.items.items c.args.item c.item.inside.memo _ c.page-page.result.now
    c.requires.next (c.make_room.ensures.items ∙ c.self.view_is) c.pop.ensures.rest (ap (λ i. i.memo) c.item.view_is) (search rules) c.push_link.ensures.pushed (search rules)
    (pushed ∙ ap (λ bs. before ++ child_items wants counter bs) c.branches-branches.ensures)

pub returns-in_err-make_room-clause-memory : goal.returns-in_err-make_room-clause-memory
returns-in_err-make_room-clause-memory g c =
    let wants = g.T.BranchTest.wants c.args.test.now in
    let counter = c.args.table.now.counter in
    let branches = c.branches-branches.result.now in
    let bits = c.wanted_bits-wanted.result in
    let told = ones_picked branches bits c.wanted_bits-wanted.ensures.within in
    let asked : 0 < count_ones bits = c.in_err-make_room.ensures.some in
    let items = ap (λ l. map (item_of_child counter) (reverse l)) c.wanted_bits-wanted.ensures.wanted ∙ wanted_items wants counter branches in
    let some : child_items wants counter branches ≢ [] = λ none. omega (arith, asked, told, ap length (items ∙ none), length-map (reverse (picked bits branches)) (item_of_child counter), length-reverse (picked bits branches)) in
    on_err c.from_residual.result (pushes_some wants c.args.table.now c.args.self.now c.args.item c.requires.next
    (subst (λ p. child_items wants counter (page_at c.args.table.now p).branches ≢ []) (ap (λ i. i.page) c.item.view_is)
    (subst (λ page. child_items wants counter page.branches ≢ []) c.page-page.ensures (subst (λ bs. child_items wants counter bs ≢ []) c.branches-branches.ensures some))))
