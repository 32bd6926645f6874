-- What several calls give together.
use Rattle.std.specs.Prelude.{ℕ, Bool, List, ◌++◌}
use Rattle.change_list.specs.declared.item.Item.{Item}
use Rattle.change_list.specs.declared.write.Write.{Write}
use Rattle.change_list.specs.Listings.{AreChanges}

module _ (K : Type 0) where
  -- the changes up to commit n of a list, followed by those after n of a list that begins with it, are the changes of that list
  abbrev pub ChangesGoOn : Type 0
  ChangesGoOn = (wanted : K → Bool) (s n later : ℕ) (commits further : List (Write K)) (given resumed : List (Item K))
      → AreChanges wanted s n commits given → AreChanges wanted n later (commits ++ further) resumed → AreChanges wanted s later (commits ++ further) (given ++ resumed)
