-- The next step for inserting a key when the way down has come to page p.
use Rattle.std.specs.Prelude.{◌≡◌, ◌⊎◌, ◌≢◌, ℕ, suc, ◌<◌, ◌≤◌, Bool, true, false, List, length, Some, None}
use Rattle.key_class.specs.Rules.{Rules}
use Rattle.key_class.specs.Splits.{IsSplit}
use Rattle.key_class.specs.declared.sides.Side.{Side}
use Rattle.key_class.specs.declared.refusal.Refusal.{Refusal}
use Rattle.key_class.specs.declared.refusal.Refusal.TheVariants as refusal
use Rattle.node.specs.Pages.{entries_of, is_within, keys_of}
use Rattle.page_table.specs.Trees.{page_at}
use Rattle.split.specs.SearchTrees.{SearchTree}
use Rattle.split.specs.Tests.{first_failing, place_tests, enlarge_tests, split_tests, post_tests, grow_tests}
use Rattle.descent.specs.Choosing.{IsBest}
use Rattle.descent.specs.declared.step.Plan.{Plan}
use Rattle.descent.specs.declared.step.Plan.TheVariants as plan
use Rattle.descent.specs.declared.step.WayStep.{WayStep}
use Rattle.descent.specs.declared.step.WayStep.TheVariants.{Grow, Split, Post, Enlarge, Place, Down}

-- no test fails, or the first that does says that too few pages are left
abbrev pub OnlyPagesFull : List (Bool × Refusal) → Type 0
OnlyPagesFull tests = (first_failing tests ≡ None) ⊎ (first_failing tests ≡ Some refusal.PagesFull)

module _ {K : Type 0} where
  abbrev pub HasRoom : SearchTree K → ℕ → Type 0
  HasRoom s p = entries_of (page_at s.tree p) < s.fan

  -- page p has room, and its best branch leads to child c
  pub record IsChosen (union : K → K → K) (size : K → ℕ) (s : SearchTree K) (p : ℕ) (key : K) (c : ℕ) : Type 0 where
    pub room : HasRoom s p
    pub place : ℕ
    pub best : IsBest union size key (page_at s.tree p).branches place
    pub child : best.branch.child ≡ c

  -- page c is one level below p, owes nothing and has room
  pub record IsOpenBelow (s : SearchTree K) (p c : ℕ) : Type 0 where
    pub exists : c < length s.tree.pages
    pub not_root : c ≢ 0
    pub level : suc (page_at s.tree c).level ≡ (page_at s.tree p).level
    pub not_owed : (page_at s.tree c).owed ≡ false
    pub room : HasRoom s c

  -- page c owes nothing and has no room
  pub record IsFull (s : SearchTree K) (c : ℕ) : Type 0 where
    pub exists : c < length s.tree.pages
    pub not_owed : (page_at s.tree c).owed ≡ false
    pub full : s.fan ≤ entries_of (page_at s.tree c)

  -- the class picks these sides for the page's entries
  abbrev pub IsPick : {A : Type 0} → Rules K A → SearchTree K → ℕ → List Side → Type 0
  IsPick rules s p sides = rules.picks (keys_of (page_at s.tree p).rows (page_at s.tree p).branches) s.least sides

  module _ {A : Type 0} (rules : Rules K A) (s : SearchTree K) (p : ℕ) (key : K) where
    -- the best branch of page p leads to child c
    abbrev pub IsBestChild : ℕ → Type 0
    IsBestChild c = IsChosen rules.union_of rules.size_of s p key c

    -- the step that comes next, a growth or a split by sides that the class picks
    abbrev pub IsNextStep : WayStep → Type 0
    IsNextStep (Grow sides) = (p ≡ 0) × OnlyPagesFull (grow_tests s sides) × IsPick rules s p sides
    IsNextStep (Place leaf) = (leaf ≡ p) × (first_failing (place_tests rules.is_cover s p key) ≡ None)
    IsNextStep (Post parent c) = (parent ≡ p) × IsBestChild c × (first_failing (post_tests s p c) ≡ None)
    IsNextStep (Split c sides) = IsBestChild c × OnlyPagesFull (split_tests s c sides) × IsPick rules s c sides
    IsNextStep (Enlarge parent c) =
        (parent ≡ p) × IsBestChild c × IsOpenBelow s p c
        × (is_within rules.is_cover (page_at s.tree c).cover key ≡ false) × (first_failing (enlarge_tests rules.is_cover s p c key) ≡ None)
    IsNextStep (Down c) = IsBestChild c × IsOpenBelow s p c × (is_within rules.is_cover (page_at s.tree c).cover key ≡ true)

    -- the next step, before any sides are worked out: a page that grows or is split is full
    abbrev pub IsPlan : Plan → Type 0
    IsPlan plan.Grow = (p ≡ 0) × (s.fan ≤ entries_of (page_at s.tree p))
    IsPlan (plan.Split c) = IsBestChild c × IsFull s c
    IsPlan (plan.Place leaf) = IsNextStep (Place leaf)
    IsPlan (plan.Post parent c) = IsNextStep (Post parent c)
    IsPlan (plan.Enlarge parent c) = IsNextStep (Enlarge parent c)
    IsPlan (plan.Down c) = IsNextStep (Down c)

  -- the sides split a page's entries into two groups of at least the fewest
  abbrev pub PartsPage : SearchTree K → ℕ → List Side → Type 0
  PartsPage s p sides = IsSplit (entries_of (page_at s.tree p)) s.least sides
