-- What a sink took of the rows below the root, as what it took of a snapshot.
use Rattle.std.proofs.Common.{◌≡◌, ℕ, ◌^◌, ◌<◌, ◌≤◌, Bool, List, [], ◌∷◌, ◌++◌, length, map, refl, ap, ◌∙◌, arith}
use Rattle.std.specs.Prelude.{IfErr, IsPermutation, OnErr, OnOk, Ok, Err, Result, Vec}
use Rattle.change_list.specs.declared.item.Row.{Row}
use Rattle.change_list.specs.declared.write.Write.{Write}
use Rattle.key_class.specs.Limits.{most_commits}
use Rattle.page_table.specs.Trees.{Tree}
use Rattle.page_table.specs.Weights.{Same, weigh}
use Rattle.scan.specs.Agreement.{Agrees}
use Rattle.search.proofs.Filling.{filled_by}
use Rattle.search.proofs.Sizes.{same_length, some_fewer}
use Rattle.search.specs.Counts.{counts}
use Rattle.search.specs.Fills.{fills, written_over}
use Rattle.search.specs.Limited.{keeps}
use Rattle.search.specs.Searches.{IsSearchable, rows_below}
use Rattle.search.specs.Sinks.{TakesAll, TakesSome, appends}
use Rattle.search.specs.declared.at_most.AtMost.{AtMost}
use Rattle.search.specs.declared.sinks.Counter.{Counter}
use Rattle.search.specs.declared.slots.Slots.{Slots}
use Rattle.snapshot.proofs.Counting.{countable}
use Rattle.snapshot.proofs.Live.{live_find}
use Rattle.snapshot.specs.Finds.{AreFirst, AreWritten, live_after}

-- what never ends with an error ends well
pub surely : {A E P : Type 0} (r : Result A E) → OnOk r P → IfErr r (λ e. ⊥) → P
surely (Ok x) p never = p
surely (Err e) p never = absurd never

-- what follows from what holds where a call went well, or where it didn't
pub ok_weaker : {A E P Q : Type 0} (r : Result A E) → (P → Q) → OnOk r P → OnOk r Q
ok_weaker (Ok x) f p = f p
ok_weaker (Err e) f p = tt

pub err_weaker : {A E P Q : Type 0} (r : Result A E) → (P → Q) → OnErr r P → OnErr r Q
err_weaker (Ok x) f p = tt
err_weaker (Err e) f p = f p

same_each : {X : Type 0} (xs : List X) → map (λ x. x) xs ≡ xs
same_each [] = refl
same_each (x ∷ xs) = ap (λ l. x ∷ l) (same_each xs)

module _ {K : Type 0} (is_cover : K → K → Bool) (t : Tree K) (searchable : IsSearchable is_cover t) (wanted : K → Bool) (commits : List (Write K)) (agrees : Agrees t commits) where
  live : Same (rows_below wanted t 0) (live_after wanted commits)
  live = live_find is_cover t searchable.fan searchable.sound commits agrees wanted

  module _ {S : Type 0} (takes : S → List (Row K) → S → Type 0) (old new : S) where
    pub all_live : TakesAll takes (rows_below wanted t 0) old new → TakesAll takes (live_after wanted commits) old new
    all_live taken = record { given = taken.given; taken = taken.taken; all = λ w. taken.all w ∙ live w }

    pub some_live : TakesSome takes (rows_below wanted t 0) old new → TakesSome takes (live_after wanted commits) old new
    some_live taken = record { given = taken.given; taken = taken.taken; some = λ w. omega (arith, taken.some w, live w) }

  -- a list that was empty
  pub appended : {Z : Type 0} (old new : Vec (Row K) Z) → old.items ≡ [] → TakesAll appends (rows_below wanted t 0) old new → Same new.items (live_after wanted commits)
  appended old new none taken w = ap (weigh w) (taken.taken ∙ ap (λ l. l ++ taken.given) none) ∙ taken.all w ∙ live w

  -- a counter that began at 0
  pub counted : (old new : Counter) → old.rows ≡ 0 → new.rows < 2 ^ 64 → length commits ≤ most_commits → TakesAll counts (rows_below wanted t 0) old new → new.rows ≡ length (live_after wanted commits)
  counted old new none within few taken =
      let number = same_length taken.given (live_after wanted commits) (λ w. taken.all w ∙ live w) in
      omega (arith, taken.taken, none, within, number, countable wanted commits few)

  module _ (limit : ℕ) (old new : AtMost K) (none : old.rows.items ≡ []) (most : old.most ≡ limit) where
    within : length old.rows.items ≤ old.most
    within = omega (arith, ap length none)

    -- a list of limited length that took all
    pub limited : TakesAll keeps (rows_below wanted t 0) old new → AreFirst (live_after wanted commits) limit new.rows.items
    limited taken =
        let all = all_live keeps old new taken in
        let items : new.rows.items ≡ all.given = all.taken.items ∙ ap (λ l. l ++ all.given) none in record {
          number = omega (arith, ap length items, same_length all.given (live_after wanted commits) all.all, all.taken.within within, all.taken.most, most);
          some = λ w. omega (arith, ap (weigh w) items, all.all w);
        }

    -- one that has enough
    pub full : TakesSome keeps (rows_below wanted t 0) old new → new.most ≤ length new.rows.items → AreFirst (live_after wanted commits) limit new.rows.items
    full taken enough =
        let some = some_live keeps old new taken in
        let items : new.rows.items ≡ some.given = some.taken.items ∙ ap (λ l. l ++ some.given) none in record {
          number = omega (arith, ap length items, some_fewer some.given (live_after wanted commits) some.some, some.taken.within within, some.taken.most, most, enough);
          some = λ w. omega (arith, ap (weigh w) items, some.some w);
        }

  -- the places of a slice
  pub written : {F : Type 0} → ((xs ys : List (Row K)) → Same xs ys → IsPermutation xs ys) → (buffer : List (Row K)) (old new : Slots (Row K) F) → old.places.now ≡ buffer → old.filled ≡ 0 → old.found ≡ 0
      → new.found < 2 ^ 64 → length commits ≤ most_commits → TakesAll (fills (λ row. row)) (rows_below wanted t 0) old new → AreWritten (live_after wanted commits) buffer new.places.now new.found
  written arranged buffer old new places filled found within few taken =
      let all = live_after wanted commits in
      let by = filled_by (λ row. row) all buffer old new places filled found within (countable wanted commits few) (all_live (fills (λ row. row)) old new taken) in record {
        given = by.given;
        arranged = arranged by.given all by.same;
        is = by.is ∙ ap (λ l. written_over l buffer) (same_each by.given);
        counted = by.counted;
      }
