-- What a commit changes on leaves.
use Rattle.std.specs.Prelude.{◌≡◌, ◌≢◌, ℕ, ◌+◌, Bool, true, List, length, None}
use Rattle.change_list.specs.declared.write.Write.{Write}
use Rattle.change_list.specs.declared.write.Write.TheVariants.{Insert, Delete, Move}
use Rattle.split.specs.SearchTrees.{SearchTree, with_entry, with_death, with_move}
use Rattle.split.specs.Tests.{PlacePasses, is_leaf}
use Rattle.world.specs.declared.commit.LeafChange.{LeafChange}
use Rattle.world.specs.declared.commit.LeafChange.TheVariants as change

module _ {K : Type 0} where
  -- the commit that records this change of leaves
  abbrev pub write_of_change : LeafChange K → Write K
  write_of_change (change.Place leaf key tag) = Insert key tag
  write_of_change (change.Bury leaf row) = Delete row
  write_of_change (change.Move leaf row other key tag) = Move row key

  -- the pages named as leaves are leaves, and the one that gets a row takes it
  abbrev pub TakesChange : (K → K → Bool) → SearchTree K → LeafChange K → Type 0
  TakesChange is_cover search (change.Place leaf key tag) = PlacePasses is_cover search leaf key
  TakesChange is_cover search (change.Bury leaf row) = is_leaf search.tree leaf ≡ true
  TakesChange is_cover search (change.Move leaf row other key tag) = (is_leaf search.tree leaf ≡ true) × PlacePasses is_cover search other key

  -- the row that dies has another number
  abbrev pub IsOfEarlier : ℕ → LeafChange K → Type 0
  IsOfEarlier n (change.Place leaf key tag) = Unit {0}
  IsOfEarlier n (change.Bury leaf row) = Unit {0}
  IsOfEarlier n (change.Move leaf row other key tag) = n ≢ row

  -- with the change by commit n: one more row at the end of a leaf, a row that is dead from then on, or both
  abbrev pub with_change : SearchTree K → ℕ → LeafChange K → SearchTree K
  with_change search n (change.Place leaf key tag) = with_entry search leaf (record { key = key; row = n; tag = tag; died = None })
  with_change search n (change.Bury leaf row) = with_death search leaf row n
  with_change search n (change.Move leaf row other key tag) = with_move search leaf row n other (record { key = key; row = n; tag = tag; died = None })

  -- the next commit changes the leaves in this way
  abbrev pub ChangesNext : SearchTree K → List (Write K) → LeafChange K → SearchTree K → Type 0
  ChangesNext old commits change new = new ≡ with_change old (length commits + 1) change
