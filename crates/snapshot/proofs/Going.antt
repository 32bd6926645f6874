-- What was found in a snapshot, and the changes after it, are a listing.
use Rattle.std.proofs.Common.{ℕ, Bool, false, List, ◌++◌, length, map, sym, ap, ◌∙◌, arith}
use Rattle.std.proofs.lemmas.List.{append-nil}
use Rattle.std.proofs.lemmas.List.Sorted.{IsPermutation-refl}
use Rattle.change_list.specs.declared.item.Item.{Item}
use Rattle.change_list.specs.declared.item.Item.TheVariants as item
use Rattle.change_list.specs.declared.write.Write.{Write}
use Rattle.change_list.specs.Changes.{snapshot}
use Rattle.change_list.specs.Listings.{AreChanges, IsListing}
use Rattle.change_list.proofs.Pushing.{changes_none}
use Rattle.change_list.proofs.Resuming.{goes_on, listing_stays}

module _ {K : Type 0} (wanted : K → Bool) where
  -- the rows of a snapshot are a listing up to its last commit
  found_listing : (first : List (Write K)) → IsListing wanted (length first) (length first) first (map item.Row (snapshot wanted (length first) first))
  found_listing first =
      let rows = snapshot wanted (length first) first in record {
        from_before = omega arith;
        within = omega arith;
        rows = rows;
        each_once = IsPermutation-refl rows;
        is = sym (append-nil (map item.Row rows)) ∙ ap (λ c. map item.Row rows ++ c) (sym (changes_none wanted (length first) first));
      }

  pub found_go_on : (first further : List (Write K)) (later : ℕ) (items : List (Item K)) → AreChanges wanted (length first) later (first ++ further) items
      → IsListing wanted (length first) later (first ++ further) (map item.Row (snapshot wanted (length first) first) ++ items)
  found_go_on first further later items a =
      let found = map item.Row (snapshot wanted (length first) first) in
      goes_on wanted false (length first) (length first) later (first ++ further) found items
      (listing_stays wanted false (length first) (length first) first further found (found_listing first)) a
