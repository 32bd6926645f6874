-- The tests of each step, in order. The first that fails gives the refusal.
use Rattle.std.specs.Prelude.{◌≡◌, ◌⊎◌, ℕ, ◌+◌, ◌/◌, Bool, true, false, not, ◌&&◌, ◌||◌, nat_eq, nat_lt, nat_le, List, [], ◌∷◌, length, count_by, Option, Some, None}
use Rattle.key_class.specs.Limits.{least_fan, least_part, most_fan, most_pages}
use Rattle.key_class.specs.Splits.{is_left, is_right}
use Rattle.key_class.specs.declared.sides.Side.{Side}
use Rattle.key_class.specs.declared.refusal.Refusal.{Refusal}
use Rattle.key_class.specs.declared.refusal.Refusal.TheVariants as refusal
use Rattle.std.specs.List.{list_any}
use Rattle.row_version.specs.Entries.{is_needed}
use Rattle.node.specs.Pages.{Page, entries_of, names, is_within}
use Rattle.page_table.specs.Trees.{Tree, page_at}
use Rattle.split.specs.SearchTrees.{SearchTree}

-- the refusal of the first test that fails; a test is true if it fails
abbrev pub first_failing : List (Bool × Refusal) → Option Refusal
first_failing [] = None
first_failing ((true, why) ∷ tests) = Some why
first_failing ((false, why) ∷ tests) = first_failing tests

-- no test fails
abbrev pub NoneFails : List (Bool × Refusal) → Type 0
NoneFails tests = first_failing tests ≡ None

-- refused by the first test that fails, or for lack of memory after all tests
abbrev pub IsRefusedBy : List (Bool × Refusal) → Refusal → Type 0
IsRefusedBy tests why = (first_failing tests ≡ Some why) ⊎ ((first_failing tests ≡ None) × (why ≡ refusal.OutOfMemory))

-- each limit of a tree is in range
abbrev pub config_tests : ℕ → ℕ → ℕ → List (Bool × Refusal)
config_tests fan least limit =
    (nat_lt fan least_fan || (nat_lt most_fan fan || (nat_lt least least_part || (nat_lt (fan / 2) least || (nat_lt limit 1 || nat_lt most_pages limit)))), refusal.BadConfig)
    ∷ []

-- there is a side for each of so many entries, and each half has at least the fewest entries
abbrev pub sides_well : ℕ → ℕ → List Side → Bool
sides_well least entries sides = nat_eq (length sides) entries && (nat_le least (count_by is_left sides) && nat_le least (count_by is_right sides))

-- this many sides are left, and this many right
abbrev pub CountsSides : List Side → ℕ × ℕ → Type 0
CountsSides sides counts = (counts.0 ≡ count_by is_left sides) × (counts.1 ≡ count_by is_right sides)

module _ {K : Type 0} where
  abbrev pub is_leaf : Tree K → ℕ → Bool
  is_leaf t p = nat_lt p (length t.pages) && nat_eq (page_at t p).level 0

  abbrev pub is_inner : Tree K → ℕ → Bool
  is_inner t p = nat_lt p (length t.pages) && nat_lt 0 (page_at t p).level

  -- there is a side for each entry, and each half has at least the fewest entries
  abbrev pub parts_well : ℕ → Page K → List Side → Bool
  parts_well least page sides = sides_well least (entries_of page) sides

  abbrev pub place_tests : (K → K → Bool) → SearchTree K → ℕ → K → List (Bool × Refusal)
  place_tests is_cover s p key =
      (not (is_leaf s.tree p), refusal.NotHere)
      ∷ (not (is_within is_cover (page_at s.tree p).cover key), refusal.Uncovered)
      ∷ (nat_le s.fan (entries_of (page_at s.tree p)), refusal.NodeFull)
      ∷ []

  abbrev pub enlarge_tests : (K → K → Bool) → SearchTree K → ℕ → ℕ → K → List (Bool × Refusal)
  enlarge_tests is_cover s p c key =
      (not (is_inner s.tree p && names c (page_at s.tree p)), refusal.NotHere)
      ∷ (not (is_within is_cover (page_at s.tree p).cover key), refusal.Uncovered)
      ∷ []

  abbrev pub split_tests : SearchTree K → ℕ → List Side → List (Bool × Refusal)
  split_tests s p sides =
      (nat_eq p 0 || nat_le (length s.tree.pages) p, refusal.NotHere)
      ∷ ((page_at s.tree p).owed, refusal.Owed)
      ∷ (not (page_at s.tree p).hung, refusal.Unhung)
      ∷ (nat_lt (entries_of (page_at s.tree p)) s.fan, refusal.TooFew)
      ∷ (not (parts_well s.least (page_at s.tree p) sides), refusal.BadSides)
      ∷ (nat_le s.limit (length s.tree.pages), refusal.PagesFull)
      ∷ []

  abbrev pub post_tests : SearchTree K → ℕ → ℕ → List (Bool × Refusal)
  post_tests s p c =
      (not (is_inner s.tree p && (names c (page_at s.tree p) && (page_at s.tree c).owed)), refusal.NotHere)
      ∷ (nat_le s.fan (entries_of (page_at s.tree p)), refusal.NodeFull)
      ∷ []

  abbrev pub grow_tests : SearchTree K → List Side → List (Bool × Refusal)
  grow_tests s sides =
      (nat_lt (entries_of (page_at s.tree 0)) s.fan, refusal.TooFew)
      ∷ (not (parts_well s.least (page_at s.tree 0) sides), refusal.BadSides)
      ∷ (nat_lt s.limit (length s.tree.pages + 2), refusal.PagesFull)
      ∷ []

  abbrev pub sweep_tests : SearchTree K → ℕ → List (Bool × Refusal)
  sweep_tests s p = (not (is_leaf s.tree p), refusal.NotHere) ∷ []

  -- some dead entry of the page isn't needed, so a sweep removes it
  abbrev pub HasUnneeded : ℕ → Tree K → ℕ → Type 0
  HasUnneeded horizon t p = list_any (λ e. not (is_needed horizon e)) (page_at t p).rows ≡ true

  -- the refusal of a placing, if a test fails; of an enlargement
  abbrev pub refusal_to_place : (K → K → Bool) → SearchTree K → ℕ → K → Option Refusal
  refusal_to_place is_cover s p key = first_failing (place_tests is_cover s p key)

  abbrev pub refusal_to_enlarge : (K → K → Bool) → SearchTree K → ℕ → ℕ → K → Option Refusal
  refusal_to_enlarge is_cover s p c key = first_failing (enlarge_tests is_cover s p c key)

  -- no test of a placing fails; none of an enlargement
  abbrev pub PlacePasses : (K → K → Bool) → SearchTree K → ℕ → K → Type 0
  PlacePasses is_cover s p key = NoneFails (place_tests is_cover s p key)

  abbrev pub EnlargePasses : (K → K → Bool) → SearchTree K → ℕ → ℕ → K → Type 0
  EnlargePasses is_cover s p c key = NoneFails (enlarge_tests is_cover s p c key)

  -- a placing is refused by its tests; an enlargement is
  abbrev pub RefusesPlace : (K → K → Bool) → SearchTree K → ℕ → K → Refusal → Type 0
  RefusesPlace is_cover s p key why = IsRefusedBy (place_tests is_cover s p key) why

  abbrev pub RefusesEnlarge : (K → K → Bool) → SearchTree K → ℕ → ℕ → K → Refusal → Type 0
  RefusesEnlarge is_cover s p c key why = IsRefusedBy (enlarge_tests is_cover s p c key) why

  -- lack of memory refuses a sweep only if there is something to remove
  abbrev pub WantsMemoryToSweep : ℕ → Tree K → ℕ → Refusal → Type 0
  WantsMemoryToSweep horizon t p why = why ≡ refusal.OutOfMemory → HasUnneeded horizon t p
