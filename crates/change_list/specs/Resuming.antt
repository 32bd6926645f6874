-- How a listing goes on after a mark.
use Rattle.std.specs.Prelude.{ℕ, Bool, List, ◌++◌}
use Rattle.change_list.specs.declared.write.Write.{Write}
use Rattle.change_list.specs.declared.item.Item.{Item}
use Rattle.change_list.specs.Listings.{IsListingFor, BeginsListingFor, AreChanges, BeginsChanges}

module _ (K : Type 0) where
  -- a listing up to commit n, followed by the changes after n up to a later commit, is a listing up to that one
  abbrev pub ListingsGoOn : Type 0
  ListingsGoOn = (follows : Bool) (wanted : K → Bool) (s n later : ℕ) (commits : List (Write K)) (given resumed : List (Item K))
      → IsListingFor follows wanted s n commits given → AreChanges wanted n later commits resumed → IsListingFor follows wanted s later commits (given ++ resumed)

  -- and a beginning of those changes, appended to it, begins a listing
  abbrev pub BeginningsGoOn : Type 0
  BeginningsGoOn = (follows : Bool) (wanted : K → Bool) (s n later : ℕ) (commits : List (Write K)) (given resumed : List (Item K))
      → IsListingFor follows wanted s n commits given → BeginsChanges wanted n later commits resumed → BeginsListingFor follows wanted s later commits (given ++ resumed)

  -- a listing of some commits is also a listing of these and any further ones
  abbrev pub ListingsStay : Type 0
  ListingsStay = (follows : Bool) (wanted : K → Bool) (s n : ℕ) (commits further : List (Write K)) (given : List (Item K))
      → IsListingFor follows wanted s n commits given → IsListingFor follows wanted s n (commits ++ further) given
