use Rattle.std.proofs.Common.{◌≡◌, ◌∙◌, [], ◌∷◌, ◌++◌, map, subst, sym, ap}
use Rattle.std.proofs.lemmas.List.{map-append}
use Rattle.std.proofs.lemmas.Map.Iter.{rest_more, rest_so_far}
use Rattle.std.specs.Prelude.{nat_eq}
use Rattle.std.specs.FinMap.{from_entries, insert}
use Rattle.std.specs.List.{IsDistinct}
use Rattle.std.specs.Map.{keys_of}
use Rattle.std.specs.Map.Iter.{deref_pair}
use Rattle.ids.proofs.OneMap.{one_moved}
use Rattle.ids.proofs.shards.Shards.from_map.Goals as goal

pub loop-id-preserved : goal.loop-id-preserved
loop-id-preserved c =
    let id = c.in-Some.id.now in
    let number = c.in-Some.number.now in
    let moved = map deref_pair c.loop-id.yielded in
    let rest = c.next.new.self in
    let left : c.loop-id.id-iterator ≡ (id, number) ∷ rest = rest_more deref_pair c.loop-id.id-iterator rest c.next.result (c.in-Some.id, c.in-Some.number) c.in-Some.is c.next.ensures.steps in
    let all : c.args.numbers.now.entries ≡ moved ++ (id, number) ∷ rest =
    sym (c.into_iter-id-iterator.ensures.into_iter_gives ∙ c.iter-id-items.ensures.rest)
    ∙ rest_so_far deref_pair c.loop-id.yielded c.into_iter-id-iterator.result c.loop-id.id-iterator c.loop-id.yielded_by
    ∙ ap (λ l. moved ++ l) left in
    let distinct = subst (λ l. IsDistinct nat_eq (keys_of l)) all c.iter-id-items.ensures.unique in
    c.in_ok-insert.ensures.ok ∙ ap (λ numbers. insert numbers id number) c.loop-id.invariant
    ∙ one_moved moved rest id number distinct
    ∙ ap from_entries (sym (map-append deref_pair c.loop-id.yielded ((c.in-Some.id, c.in-Some.number) ∷ [])))
