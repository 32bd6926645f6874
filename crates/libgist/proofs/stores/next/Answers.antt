use Rattle.std.proofs.Common.{◌≡◌, ◌+◌, [], ◌∷◌, ◌++◌, length, map, Some, refl, ap, ◌∙◌, subst, length-append, arith}
use Rattle.std.proofs.lemmas.List.{length-map, map-append, nil_from_length}
use Rattle.store.specs.States.{Gave, Nexts, RefusesNext, StoreState}
use Rattle.store.proofs.Cursors.{gave_push}
use Rattle.libgist.specs.Shown.{shown_item}
use Rattle.libgist.proofs.Writing.{push_more}
use Rattle.libgist.proofs.stores.next.Goals as goal

pub returns-in-Err : goal.returns-in-Err
returns-in-Err g c =
    let i = c.loop-place.invariant in
    let matching = g.C.KeyClass.rules.is_match in
    let none : i.0 ≡ [] = nil_from_length i.0 (i.1 ∙ c.if-place-eq0.true) in
    let same : c.loop-place.store ≡ c.args.store.now = subst (λ given. Gave matching c.args.store.now c.args.cursor given c.loop-place.store) none i.3 in
    record {
      ok = tt;
      err = subst (λ s. RefusesNext matching s c.args.cursor c.in-Err.why c.next.new.self) same c.in-Err.ensures.err;
      unfilled = i.2 ∙ rw (none, c.if-place-eq0.true) refl;
    }

pub loop-place-preserved : goal.loop-place-preserved
loop-place-preserved g c =
    let i = c.loop-place.invariant in
    let matching = g.C.KeyClass.rules.is_match in
    let given = c.in-Ok-Some.given in
    let show = shown_item g.C.Crossing.words_of c.args.store.now.commits in
    let next : Nexts matching c.loop-place.store c.args.cursor (Some given) c.next.new.self = rw c.in-Ok-Some.field-0-is at c.in-Ok-Some.ensures.ok in
    let stays : c.next.new.self.commits ≡ c.args.store.now.commits = ap (λ (s : StoreState _ _). s.commits) next.is ∙ i.4 in
    let shown : c.item.result ≡ show given = c.item.ensures ∙ ap (λ commits. shown_item g.C.Crossing.words_of commits given) stays in
    let n : length (map show i.0) ≡ c.loop-place.place = length-map i.0 show ∙ i.1 in (
      i.0 ++ given ∷ [],
      length-append i.0 (given ∷ []) ∙ ap (λ k. k + 1) i.1,
      rw (i.2, shown, map-append show i.0 (given ∷ [])) (push_more (map show i.0) c.args.items.now (show given) c.loop-place.place n (omega (arith, c.loop-place-test.true))),
      gave_push matching c.args.store.now c.loop-place.store c.next.new.self c.args.cursor i.0 given i.3 next,
      stays,
    )
