-- A sound tree, with its limits.
use Rattle.std.specs.Prelude.{◌≡◌, ℕ, suc, ◌*◌, ◌≤◌, Bool, List, length, Some}
use Rattle.key_class.specs.Limits.{least_part, most_fan, most_pages}
use Rattle.key_class.specs.Rules.{Rules}
use Rattle.key_class.specs.declared.sides.Side.{Side}
use Rattle.row_version.specs.Entries.{Entry}
use Rattle.page_table.specs.LeafChanges.{after_place, after_bury, after_move, after_sweep}
use Rattle.page_table.specs.Trees.{Tree, page_at, new_tree}
use Rattle.page_table.specs.Soundness.{IsSound}
use Rattle.split.specs.Steps.{after_split, after_post, after_grow, after_enlarge}

pub record SearchTree (K : Type 0) : Type 0 where
  pub tree : Tree K
  -- the most entries of a page
  pub fan : ℕ
  -- the fewest entries of each half of a split page
  pub least : ℕ
  -- the most pages
  pub limit : ℕ

abbrev pub with_tree : {K : Type 0} → SearchTree K → Tree K → SearchTree K
with_tree s tree = record s { tree = tree }

pub record IsSearchTree {K : Type 0} (is_cover : K → K → Bool) (tree : Tree K) (fan least limit : ℕ) : Type 0 where
  pub sound : IsSound is_cover fan tree
  pub two_least : least_part ≤ least
  pub two_parts : 2 * least ≤ fan
  pub fan_limit : fan ≤ most_fan
  pub page_limit : limit ≤ most_pages
  pub within : length tree.pages ≤ limit

-- a new tree with its limits
abbrev pub empty_tree : {K : Type 0} → ℕ → ℕ → ℕ → SearchTree K
empty_tree fan least limit = record { tree = new_tree; fan = fan; least = least; limit = limit }

module _ {K A : Type 0} (rules : Rules K A) where
  -- after Enlarge(p, c, key)
  abbrev pub extended : SearchTree K → ℕ → ℕ → K → SearchTree K
  extended s p c key = with_tree s (after_enlarge rules.union_of s.tree p c key)

  -- after Split(p, sides)
  abbrev pub divided : SearchTree K → ℕ → List Side → SearchTree K
  divided s p sides = with_tree s (after_split rules.union_of s.tree p sides)

  -- after Grow(sides)
  abbrev pub with_growth : SearchTree K → List Side → SearchTree K
  with_growth s sides = with_tree s (after_grow rules.union_of s.tree sides)

  -- the same for tables
  abbrev pub table_wider : Tree K → ℕ → ℕ → K → Tree K
  table_wider t p c key = after_enlarge rules.union_of t p c key

  abbrev pub table_divided : Tree K → ℕ → List Side → Tree K
  table_divided t p sides = after_split rules.union_of t p sides

module _ {K : Type 0} where
  -- after Post(p, c), of the right sibling of c
  abbrev pub PostsSibling : SearchTree K → ℕ → ℕ → SearchTree K → Type 0
  PostsSibling old p c new = (sibling : ℕ) × ((page_at old.tree c).right ≡ Some sibling) × (new ≡ with_tree old (after_post old.tree p c sibling))

  -- with one more entry in a leaf
  abbrev pub with_entry : SearchTree K → ℕ → Entry K → SearchTree K
  with_entry s leaf entry = with_tree s (after_place s.tree leaf entry)

  -- with a row of a leaf dead since commit n
  abbrev pub with_death : SearchTree K → ℕ → ℕ → ℕ → SearchTree K
  with_death s leaf row n = with_tree s (after_bury s.tree leaf row n)

  -- with a row of the leaf `from` dead since commit n, and the entry in the leaf `to`
  abbrev pub with_move : SearchTree K → ℕ → ℕ → ℕ → ℕ → Entry K → SearchTree K
  with_move s from row n to entry = with_tree s (after_move s.tree from row n to entry)

  -- without the dead rows of a leaf that no scan opened at the horizon or later needs
  abbrev pub without_unneeded : SearchTree K → ℕ → ℕ → SearchTree K
  without_unneeded s leaf horizon = with_tree s (after_sweep s.tree leaf horizon)

  -- the numbers of the next two pages
  abbrev pub AreNextTwo : Tree K → ℕ × ℕ → Type 0
  AreNextTwo t pages = (pages.0 ≡ length t.pages) × (pages.1 ≡ suc (length t.pages))
