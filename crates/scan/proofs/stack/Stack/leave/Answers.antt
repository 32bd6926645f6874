use Rattle.std.proofs.Common.{rules, sym, ap, ◌∙◌, ◌≡◌, ◌++◌, append-nil, subst, List}
use Rattle.page_table.specs.Stacks.{StackItem}
use Rattle.page_table.specs.Trees.{page_at}
use Rattle.scan.proofs.Visiting.{room_popped, goes_on_made}
use Rattle.scan.specs.Scanning.{IsNext, child_items}
use Rattle.scan.proofs.stack.Stack.leave.Goals as goal

pub push_link-requires : goal.push_link-requires
push_link-requires g c =
    room_popped c.self.inside.items c.pop.new.self 0 c.args.item (search rules) (subst (λ (xs : List StackItem). IsNext xs c.args.item) (sym c.self.view_is) c.requires.next) c.pop.ensures.rest c.pop.ensures.capacity

pub returns : goal.returns
returns g c wanted =
    let t = c.args.table.now in
    let after = c.push_link.new.items.items in
    let page = c.page.result.now in
    let is_page : page ≡ page_at t c.args.item.page = search rules in
    goes_on_made wanted t c.args.self.now c.self.inside.items.items c.pop.new.self.items after after c.args.item c.item.inside.memo _ page
    c.requires.next c.self.view_is c.pop.ensures.rest (ap (λ i. i.memo) c.item.view_is) is_page c.push_link.ensures.pushed (search rules)
    (sym (append-nil after) ∙ ap (λ bs. after ++ child_items wanted t.counter bs) (sym (ap (λ p. p.branches) is_page ∙ c.requires.leaf)))
