use Rattle.std.proofs.Common.{◌≡◌, ◌<◌, ◌^◌, rules, length, refl, sym, ap, subst, ◌∙◌}
use Rattle.std.specs.Prelude.{Err, IfErr, IsPermutation, OnOk, Ok, Result}
use Rattle.key_class.specs.Rules.{satisfies}
use Rattle.scan.proofs.Arranged.{same_rows_arranged}
use Rattle.search.proofs.Filling.{FilledBy, filled_by}
use Rattle.snapshot.specs.Finds.{live_after}
use Rattle.snapshot.specs.Snapshots.{found_in}
use Rattle.libgist.specs.Reading.{IsFindAny, StandsInAnyOrder}
use Rattle.libgist.specs.Shown.{shown_row}
use Rattle.libgist.proofs.reading.find_any.Goals as goal

-- what never ends with an error ends well
surely : {A E P : Type 0} (r : Result A E) → OnOk r P → IfErr r (λ e. ⊥) → P
surely (Ok x) p never = p
surely (Err e) p never = absurd never

pub returns : goal.returns
returns g c =
    let rules_of = g.C.KeyClass.rules in
    let words_of = g.C.Crossing.words_of in
    let commits = c.args.snapshot.now in
    let before = c.args.rows.now in
    let called = c.search-never_stops in
    let new = called.new.sink in
    let all = live_after (satisfies rules_of c.in_ok-query.query) commits in
    let same : all ≡ found_in rules_of c.args.query.now commits = ap (λ q. live_after (satisfies rules_of q) commits) c.in_ok-query.ensures.ok in
    let taken = surely called.result called.ensures.all called.ensures.why in
    let n = c.total.ensures.total in
    let by : FilledBy (shown_row words_of) all before new.places.now new.found = filled_by (shown_row words_of) all before _ new refl refl refl (subst (λ m. m < 2 ^ 64) n c.total.ensures.within) called.ensures.few taken in
    let is : new.places.now ≡ c.rows-1.given.0 = search rules in
    record {
      counted = n ∙ by.counted ∙ ap length same;
      written = record {
        given = by.given;
        arranged = subst (λ l. IsPermutation by.given l) same (same_rows_arranged g.C.Key.PartialEq.eq g.met.C.KeyClass.lawful.equal_keys_are_same by.given all by.same);
        written = sym is ∙ by.is;
      };
      unfilled = tt;
      depth = search rules;
      refusals = tt;
    }
