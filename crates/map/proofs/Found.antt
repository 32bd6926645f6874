-- What is found in a snapshot of a map, and the items that it appends.
use Rattle.std.proofs.Common.{◌≡◌, ◌⊎◌, inl, inr, ◌+◌, ◌-◌, ◌<◌, ◌≤◌, ℕ, zero, suc, Bool, true, false, cond, List, [], ◌∷◌, ◌++◌, length, map, take, filter, get_or, refl, sym, ap, ◌∙◌, arith, subst}
use Rattle.std.specs.Prelude.{IsPermutation}
use Rattle.std.specs.List.{AllByRecursion}
use Rattle.std.proofs.lemmas.List.{length-map, map-append, take_more}
use Rattle.std.proofs.lemmas.List.Sorted.{IsPermutation-map}
use Rattle.std.proofs.Math.Seq.{take-length}
use Rattle.key_class.specs.Queries.{query_of}
use Rattle.key_class.specs.Rules.{Rules, satisfies}
use Rattle.key_class.specs.declared.pred.Pred.{Pred}
use Rattle.change_list.specs.declared.item.Item.{Item}
use Rattle.change_list.specs.declared.item.Row.{Row}
use Rattle.change_list.specs.declared.write.Write.{Write}
use Rattle.change_list.specs.Changes.{changes, rows}
use Rattle.snapshot.specs.Snapshots.{Appends, found_in}
use Rattle.revisions.specs.declared.entry.MapEntry.{MapEntry}
use Rattle.revisions.specs.declared.item.MapItem.{MapItem}
use Rattle.revisions.specs.Items.{items_between, matching}
use Rattle.revisions.specs.Maps.{entries_of, revision_of}
use Rattle.map.specs.Generations.{IsMapList, entries_from, entry_of, map_of}
use Rattle.map.specs.Items.{AreWithin, map_item, number_of}
use Rattle.map.specs.Snapshots.{AppendsItems, found_in_map}
use Rattle.map.proofs.Faithful.{entries_now, revision_is}
use Rattle.map.proofs.Itemizing.{items_between_are}
use Rattle.map.proofs.Reading.{changes_within}

-- an element of which something holds, as of all
pub each_at : {X : Type 0} (P : X → Type 0) (xs : List X) (i : ℕ) (x : X) → AllByRecursion P xs → i < length xs → x ≡ get_or xs i x → P x
each_at P [] i x all within at = absurd (omega (arith, within))
each_at P (y ∷ ys) zero x all within at = subst P (sym at) all.0
each_at P (y ∷ ys) (suc i) x all within at = each_at P ys i x all.1 (omega (arith, within)) at

-- one element more
pub mapped_more : {X Y : Type 0} (f : X → Y) (xs : List X) (i : ℕ) (x : X) → i < length xs → x ≡ get_or xs i x → map f (take (i + 1) xs) ≡ map f (take i xs) ++ f x ∷ []
mapped_more f xs i x within at = ap (map f) (take_more xs i x within ∙ ap (λ y. take i xs ++ y ∷ []) (sym at)) ∙ map-append f (take i xs) (x ∷ [])

module _ {K : Type 0} (wanted : K → Bool) where
  matching_from : (rs : List (Row K)) → entries_from (filter (λ r. wanted r.key) rs) ≡ matching wanted (entries_from rs)
  matching_from [] = refl
  matching_from (r ∷ rs) = by_test (wanted r.key) (matching_from rs)
    where
      by_test : (b : Bool) → entries_from (filter (λ r. wanted r.key) rs) ≡ matching wanted (entries_from rs)
          → entries_from (cond b (r ∷ filter (λ r. wanted r.key) rs) (filter (λ r. wanted r.key) rs)) ≡ cond b (entry_of r ∷ matching wanted (entries_from rs)) (matching wanted (entries_from rs))
      by_test true rest = ap (λ l. entry_of r ∷ l) rest
      by_test false rest = rest

module _ {K A : Type 0} (rules : Rules K A) (query : Pred A) (oldest begun : ℕ) (commits : List (Write K)) (list : IsMapList begun commits) where
  abbrev wanted : K → Bool
  wanted = satisfies rules (query_of query)

  -- the rows that are found, as entries
  pub found_are : entries_from (found_in rules query commits) ≡ found_in_map rules query (map_of oldest begun commits)
  found_are =
      ap (λ l. entries_from (filter (λ r. wanted r.key) (rows l))) (take-length commits)
      ∙ matching_from wanted (rows commits)
      ∙ ap (matching wanted) (sym (entries_now oldest begun commits list))

  pub found_arranged : (rs : List (Row K)) → IsPermutation rs (found_in rules query commits) → IsPermutation (entries_from rs) (found_in_map rules query (map_of oldest begun commits))
  found_arranged rs arranged = subst (λ es. IsPermutation (entries_from rs) es) found_are (IsPermutation-map entry_of rs (found_in rules query commits) arranged)

  pub found_number : length (found_in rules query commits) ≡ length (found_in_map rules query (map_of oldest begun commits))
  found_number = sym (length-map (found_in rules query commits) entry_of) ∙ ap length found_are

  module _ (from most upto : ℕ) (items : List (Item K)) (appends : Appends rules query (begun + (from - oldest)) most commits [] items upto) where
    -- the items are those of commits
    pub all_within : AreWithin (length commits) items
    all_within =
        let c = appends.changes in
        let first = begun + (from - oldest) in
        let e : (begun + (from - oldest)) + (upto - (begun + (from - oldest))) ≡ upto = omega (arith, c.from_before) in
        subst (λ is. AreWithin (length commits) is) (sym (appends.is ∙ c.is))
        (subst (λ n. AreWithin (length commits) (changes wanted first n commits)) e (changes_within wanted commits (upto - first) first (omega (arith, c.within, e))))

    -- as the map's they are its items
    pub appended : oldest ≤ from → (old new : List (MapItem K)) → new ≡ old ++ map (map_item oldest begun commits) items → AppendsItems wanted from most (map_of oldest begun commits) old new (oldest + (upto - begun))
    appended known old new made =
        let c = appends.changes in
        let there : begun + (oldest + (upto - begun) - oldest) ≡ upto = omega (arith, c.from_before) in
        let last = revision_is oldest begun commits list in
        let number : length (map (map_item oldest begun commits) items) ≡ length appends.given = length-map items (map_item oldest begun commits) ∙ ap length appends.is in
        record {
          given = map (map_item oldest begun commits) items;
          is = made;
          items = record {
            known = known;
            from_before = omega (arith, c.from_before, known);
            within = omega (arith, last, c.within, list.begins);
            is =
                ap (map (map_item oldest begun commits)) (appends.is ∙ c.is ∙ ap (λ n. changes wanted (begun + (from - oldest)) n commits) (sym there))
                ∙ items_between_are wanted oldest begun commits list from (oldest + (upto - begun)) known (omega (arith, c.from_before, known)) (omega (arith, there, c.within));
          };
          few = omega (arith, number, appends.few);
          ends = elim appends.ends [
            | inl e ↦ inl (ap (λ n. oldest + (n - begun)) e ∙ sym last)
            | inr e ↦ inr (number ∙ e)
          ];
        }
