use Rattle.std.proofs.Common.{rules, length, sym, ◌∙◌, ◌≡◌, List, subst}
use Rattle.key_class.specs.Queries.{consistent_with_query, matches_query}
use Rattle.page_table.specs.Stacks.{StackItem}
use Rattle.scan.specs.Scanning.{IsNext}
use Rattle.scan.proofs.Growing.{on_err}
use Rattle.scan.proofs.Preparing.{prepared_made, prepared_pushes}
use Rattle.scan.proofs.Visiting.{room_popped}
use Rattle.scan.proofs.stack.Stack.visit_prepared.Goals as goal

pub push_pages-requires : goal.push_pages-requires
push_pages-requires g c =
    let n = length c.deref.result.now in
    let same : c.args.self.now ≡ c.make_room.new.items.items = sym c.self.view_is ∙ sym c.make_room.ensures.items in
    c.push_link.ensures.room n
    (room_popped c.make_room.new.items c.pop.new.self n c.args.visit.item (search rules) (subst (λ (xs : List StackItem). IsNext xs c.args.visit.item) same c.requires.next) c.pop.ensures.rest c.pop.ensures.capacity)

pub returns-clause-visited : goal.returns-clause-visited
returns-clause-visited g c = λ table e_counter e_page.
    let K = g.C.KeyClass in
    let v = c.args.visit in
    let found = rw c.in-Some.is at c.visit.invariant in
    prepared_made (matches_query K.rules.is_match v.query) (consistent_with_query K.rules.is_consistent v.query) v.opened c.args.counter c.args.self.now c.make_room.new.items.items c.pop.new.self.items c.push_link.new.items.items c.push_pages.new.items.items
    v.item c.item.inside.memo _ c.in-Some.found.children.items v.page c.in-Some.found.rows.items
    c.requires.next (c.make_room.ensures.items ∙ c.self.view_is) c.pop.ensures.rest (search rules) c.push_link.ensures.pushed (search rules) (search rules) (search rules) (search rules)
    c.item.inside.page (search rules) table e_counter e_page

pub returns-in_err-make_room-clause-memory : goal.returns-in_err-make_room-clause-memory
returns-in_err-make_room-clause-memory g c =
    let K = g.C.KeyClass in
    let v = c.args.visit in
    let found = rw c.in-Some.is at c.visit.invariant in
    on_err c.from_residual.result (λ table e_counter e_page. prepared_pushes (consistent_with_query K.rules.is_consistent v.query) c.args.self.now v.item v.page c.in-Some.found.children.items
    c.requires.next (search rules) (search rules) table e_page)
