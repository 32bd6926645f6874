-- Commits that are passed, since nobody asks for the keys that they insert.
use Rattle.std.proofs.Common.{◌≡◌, ℕ, zero, suc, ◌+◌, ◌<◌, ◌≤◌, Bool, true, false, List, [], ◌∷◌, ◌++◌, length, take, Option, Some, None, not, refl, sym, ap, ap₂, ◌∙◌, arith}
use Rattle.std.specs.Prelude.{option_and_then, option_map, option_to_list, slice_get}
use Rattle.std.proofs.lemmas.List.{append-nil, length-map}
use Rattle.std.proofs.lemmas.Option.{slice_get-map}
use Rattle.change_list.specs.declared.recorded.Recorded.{Recorded}
use Rattle.change_list.specs.declared.recorded.Recorded.TheVariants as recorded
use Rattle.change_list.specs.declared.write.Write.{Write}
use Rattle.change_list.specs.declared.item.Item.{Item}
use Rattle.change_list.specs.Changes.{changes, if_wanted, item_at, item_of}
use Rattle.change_list.specs.Listings.{AreChanges}
use Rattle.change_list.specs.Records.{BeginsUnasked, is_unasked, write_of, writes_of}
use Rattle.change_list.specs.Segments.{IsRun}
use Rattle.change_list.proofs.Lists.{slice_get_found, slice_get_within}
use Rattle.change_list.proofs.Pushing.{changes_more, changes_none}

module _ {K : Type 0} (wanted : K → Bool) where
  -- the insert of a key that isn't asked for has no item
  not_wanted : (b : Bool) (item : Item K) → not b ≡ true → if_wanted b item ≡ None
  not_wanted true item h = absurd (cc)
  not_wanted false item h = refl

  no_item : (before : List (Write K)) (number : ℕ) (r : Recorded K) → is_unasked wanted r ≡ true → item_of wanted before number (write_of r) ≡ None
  no_item before number (recorded.Insert key tag) h = not_wanted (wanted key) _ h
  no_item before number (recorded.Delete row) h = absurd (cc)
  no_item before number (recorded.Move key row origin) h = absurd (cc)

  module _ (commits : List (Write K)) (place : ℕ) (run : List (Recorded K)) (stands : IsRun commits place (writes_of run)) where
    here : (i : ℕ) (r : Recorded K) → slice_get run i ≡ Some r → slice_get commits (place + i) ≡ Some (write_of r)
    here i r is = stands i (omega (arith, slice_get_within run i r is, length-map run write_of)) ∙ slice_get-map write_of run i ∙ ap (λ o. option_map write_of o) is

    within : (n : ℕ) → place < length commits → n ≤ length run → place + n ≤ length commits
    within zero l h = omega (arith, l)
    within (suc n) l h = let r = slice_get_found run n (omega (arith, h)) in omega (arith, slice_get_within commits (place + n) (write_of r.0) (here n r.0 r.1))

    none : (n m : ℕ) → BeginsUnasked wanted run n → m ≤ n → changes wanted place (place + m) commits ≡ []
    none n zero begins h = ap (λ upto. changes wanted place upto commits) (let same : place + 0 ≡ place = omega arith in same) ∙ changes_none wanted place commits
    none n (suc m) begins h =
        let r = slice_get_found run m (omega (arith, h, begins.within)) in
        let nothing : item_at wanted commits (place + m) ≡ None =
        ap (λ o. option_and_then (item_of wanted (take (place + m) commits) (place + m + 1)) o) (here m r.0 r.1)
        ∙ no_item (take (place + m) commits) (place + m + 1) r.0 (begins.each m r.0 (omega (arith, h)) r.1) in
        ap (λ upto. changes wanted place upto commits) (let same : place + suc m ≡ place + m + 1 = omega arith in same)
        ∙ changes_more wanted place (place + m) commits (omega arith)
        ∙ ap₂ (λ items o. items ++ option_to_list o) (none n m begins (omega (arith, h))) nothing

  pub none_asked : (commits : List (Write K)) (place : ℕ) (run : List (Recorded K)) (n : ℕ) → place < length commits → IsRun commits place (writes_of run) → BeginsUnasked wanted run n → AreChanges wanted place (place + n) commits []
  none_asked commits place run n l stands begins = record {
    from_before = omega arith;
    within = within commits place run stands n l begins.within;
    is = sym (none commits place run stands n n begins (omega arith));
  }
