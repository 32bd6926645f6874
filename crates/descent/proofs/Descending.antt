-- What a sound tree tells of the child that an insertion has chosen, and the tests that its next step passes.
use Rattle.std.proofs.Common.{◌≡◌, ◌≢◌, ◌+◌, ◌<◌, ◌≤◌, ℕ, zero, suc, Bool, true, false, not, ◌&&◌, ◌||◌, cond, eqb, leb, List, [], ◌∷◌, ◌++◌, length, Some, None, count_by, inl, inr, refl, sym, ap, arith, subst, get_or}
use Rattle.std.specs.Prelude.{slice_get, nat_lt, nat_le, nat_eq}
use Rattle.std.specs.List.{list_any}
use Rattle.std.proofs.lemmas.Bool.{and_from, or_from, not_from_true, lt-ltb, le-ltb, le-leb, lt-leb, eq-eqb, ne_eqb}
use Rattle.std.proofs.lemmas.Option.{same_Some, get_or_from_slice_get}
use Rattle.key_class.specs.Splits.{IsSplit, is_left, is_right}
use Rattle.key_class.specs.declared.refusal.Refusal.{Refusal}
use Rattle.key_class.specs.declared.refusal.Refusal.TheVariants as refusal
use Rattle.key_class.specs.declared.sides.Side.{Side}
use Rattle.node.specs.declared.branch.Branch.{Branch}
use Rattle.node.specs.Pages.{Page, entries_of, is_within, names}
use Rattle.page_table.proofs.Counting.{named-All, one-equal}
use Rattle.page_table.proofs.Facts.{hung_from}
use Rattle.page_table.proofs.Weights.{weigh-at}
use Rattle.page_table.specs.Soundness.{IsSound}
use Rattle.page_table.specs.Trees.{Falls, naming, no_page, page_at}
use Rattle.page_table.specs.Weights.{weigh, one_if_equal}
use Rattle.split.proofs.Passing.{Passes}
use Rattle.split.specs.SearchTrees.{SearchTree}
use Rattle.split.specs.Tests.{first_failing, parts_well, post_tests, split_tests, enlarge_tests, grow_tests, is_inner}
use Rattle.descent.specs.Choosing.{IsBest}
use Rattle.descent.specs.NextSteps.{OnlyPagesFull, HasRoom, IsChosen, IsOpenBelow}

-- where no test fails
none_failing : (tests : List (Bool × Refusal)) → Passes tests → first_failing tests ≡ None
none_failing [] h = refl
none_failing ((true, why) ∷ tests) h = let e : true ≡ false = h.0 in cc
none_failing ((false, why) ∷ tests) h = none_failing tests h.1

-- where none but the last may fail
only_full : (tests : List (Bool × Refusal)) (full : Bool) → Passes tests → OnlyPagesFull (tests ++ (full, refusal.PagesFull) ∷ [])
only_full [] true h = inr refl
only_full [] false h = inl refl
only_full ((true, why) ∷ tests) full h = let e : true ≡ false = h.0 in absurd cc
only_full ((false, why) ∷ tests) full h = only_full tests full h.1

named_or : (x y : Bool) (n : ℕ) → (0 < n → y ≡ true) → 0 < cond x 1 0 + n → (x || y) ≡ true
named_or true y n h l = refl
named_or false y n h l = h (omega (arith, l))

at_most_one : (b : Bool) → cond b 1 0 ≤ 1
at_most_one true = omega arith
at_most_one false = omega arith

module _ {K : Type 0} where
  -- a branch that stands in the list is counted
  naming_at : (bs : List (Branch K)) (place : ℕ) (b : Branch K) → slice_get bs place ≡ Some b → 0 < naming b.child bs
  naming_at [] place b e = absurd cc
  naming_at (x ∷ bs) zero b e = let f : x ≡ b = same_Some x b e in omega (arith, one-equal x.child b.child (ap (λ (y : Branch K). y.child) f))
  naming_at (x ∷ bs) (suc place) b e = omega (arith, naming_at bs place b e)

  naming_names : (c : ℕ) (bs : List (Branch K)) → 0 < naming c bs → list_any (λ b. eqb b.child c) bs ≡ true
  naming_names c [] l = absurd (omega (arith, l))
  naming_names c (b ∷ bs) l = named_or (eqb b.child c) (list_any (λ b. eqb b.child c) bs) (naming c bs) (naming_names c bs) l

  -- sides by the class pass the tests of sides
  parts_pass : (least : ℕ) (page : Page K) (sides : List Side) → IsSplit (entries_of page) least sides → not (parts_well least page sides) ≡ false
  parts_pass least page sides split = not_from_true (parts_well least page sides)
      (and_from (eqb (length sides) (entries_of page)) (leb least (count_by is_left sides) && leb least (count_by is_right sides)) (eq-eqb (length sides) (entries_of page) split.one_a_place)
      (and_from (leb least (count_by is_left sides)) (leb least (count_by is_right sides)) (le-leb least (count_by is_left sides) split.enough_left) (le-leb least (count_by is_right sides) split.enough_right)))

  -- a full root
  pub grow_next : (s : SearchTree K) (sides : List Side) → s.fan ≤ entries_of (page_at s.tree 0) → IsSplit (entries_of (page_at s.tree 0)) s.least sides → OnlyPagesFull (grow_tests s sides)
  grow_next s sides full split =
      only_full
      ((nat_lt (entries_of (page_at s.tree 0)) s.fan, refusal.TooFew) ∷ (not (parts_well s.least (page_at s.tree 0) sides), refusal.BadSides) ∷ [])
      (nat_lt s.limit (length s.tree.pages + 2)) (le-ltb (entries_of (page_at s.tree 0)) s.fan full, (parts_pass s.least (page_at s.tree 0) sides split, tt))

  module _ (is_cover : K → K → Bool) (union : K → K → K) (size : K → ℕ) (s : SearchTree K) (sound : IsSound is_cover s.fan s.tree) (p : ℕ) (lp : p < length s.tree.pages) (key : K) (c : ℕ) (chosen : IsChosen union size s p key c) where
    named : 0 < naming c (page_at s.tree p).branches
    named = subst (λ x. 0 < naming x (page_at s.tree p).branches) chosen.child (naming_at (page_at s.tree p).branches chosen.place chosen.best.branch chosen.best.is)

    named_in_all : 0 < weigh (λ (page : Page K). naming c page.branches) s.tree.pages
    named_in_all = omega (arith, named, weigh-at (λ (page : Page K). naming c page.branches) s.tree.pages p no_page lp)

    pub child_exists : c < length s.tree.pages
    child_exists = (named-All (λ x. Falls (length s.tree.pages) sound.rank p x) c (page_at s.tree p).branches named ((sound.ranked.links p lp).down)).0

    hung : (page_at s.tree c).hung ≡ true
    hung = hung_from (page_at s.tree c).hung (omega (arith, (sound.reached c child_exists).named, named_in_all))

    not_root : c ≢ 0
    not_root e =
        let one : one_if_equal c 0 ≡ 1 = one-equal c 0 e in
        let all : weigh (λ page. naming c page.branches) s.tree.pages + one_if_equal c 0 ≡ cond (page_at s.tree c).hung 1 0 =
        subst (λ x. weigh (λ page. naming x page.branches) s.tree.pages + one_if_equal x 0 ≡ cond (page_at s.tree x).hung 1 0) (sym e) ((sound.reached 0 sound.root_exists).named) in
        omega (arith, one, all, named_in_all, at_most_one (page_at s.tree c).hung)

    level : suc (page_at s.tree c).level ≡ (page_at s.tree p).level
    level = named-All (λ x. suc (page_at s.tree x).level ≡ (page_at s.tree p).level) c (page_at s.tree p).branches named (sound.shape p lp).level_down

    is_named : names c (page_at s.tree p) ≡ true
    is_named = naming_names c (page_at s.tree p).branches named

    inner : is_inner s.tree p ≡ true
    inner = and_from (nat_lt p (length s.tree.pages)) (nat_lt 0 (page_at s.tree p).level) (lt-ltb p (length s.tree.pages) lp) (lt-ltb 0 (page_at s.tree p).level (omega (arith, level)))

    pub post_next : (page_at s.tree c).owed ≡ true → first_failing (post_tests s p c) ≡ None
    post_next owed = none_failing (post_tests s p c) (
      not_from_true (is_inner s.tree p && (names c (page_at s.tree p) && (page_at s.tree c).owed))
          (and_from (is_inner s.tree p) (names c (page_at s.tree p) && (page_at s.tree c).owed) inner (and_from (names c (page_at s.tree p)) (page_at s.tree c).owed is_named owed)),
      (lt-leb s.fan (entries_of (page_at s.tree p)) chosen.room, tt),
    )

    pub split_next : (sides : List Side) → (page_at s.tree c).owed ≡ false → s.fan ≤ entries_of (page_at s.tree c) → IsSplit (entries_of (page_at s.tree c)) s.least sides → OnlyPagesFull (split_tests s c sides)
    split_next sides owed full split =
        only_full
        ((nat_eq c 0 || nat_le (length s.tree.pages) c, refusal.NotHere)
        ∷ ((page_at s.tree c).owed, refusal.Owed)
        ∷ (not (page_at s.tree c).hung, refusal.Unhung)
        ∷ (nat_lt (entries_of (page_at s.tree c)) s.fan, refusal.TooFew)
        ∷ (not (parts_well s.least (page_at s.tree c) sides), refusal.BadSides) ∷ [])
        (nat_le s.limit (length s.tree.pages)) (
          or_from (nat_eq c 0) (nat_le (length s.tree.pages) c) (ne_eqb c 0 not_root) (lt-leb (length s.tree.pages) c child_exists),
          (owed, (not_from_true (page_at s.tree c).hung hung, (le-ltb (entries_of (page_at s.tree c)) s.fan full, (parts_pass s.least (page_at s.tree c) sides split, tt)))),
        )

    pub enlarge_next : is_within is_cover (page_at s.tree p).cover key ≡ true → first_failing (enlarge_tests is_cover s p c key) ≡ None
    enlarge_next covered = none_failing (enlarge_tests is_cover s p c key) (
      not_from_true (is_inner s.tree p && names c (page_at s.tree p)) (and_from (is_inner s.tree p) (names c (page_at s.tree p)) inner is_named),
      (not_from_true (is_within is_cover (page_at s.tree p).cover key) covered, tt),
    )

    pub open_below : (page_at s.tree c).owed ≡ false → HasRoom s c → IsOpenBelow s p c
    open_below owed room = record { exists = child_exists; not_root = not_root; level = level; not_owed = owed; room = room }

  -- the best branch leads to the chosen child
  pub chosen_best : (union : K → K → K) (size : K → ℕ) (s : SearchTree K) (p : ℕ) (key : K) → HasRoom s p → (branches : List (Branch K)) → branches ≡ (page_at s.tree p).branches
      → (place : ℕ) → IsBest union size key branches place → (d : Branch K) → IsChosen union size s p key (get_or branches place d).child
  chosen_best union size s p key room branches e place best d =
      subst (λ (bs : List (Branch K)). IsBest union size key bs place → IsChosen union size s p key (get_or bs place d).child) (sym e)
      (λ here. record {
        room = room;
        place = place;
        best = here;
        child = ap (λ (b : Branch K). b.child) (sym (get_or_from_slice_get (page_at s.tree p).branches place here.branch d here.is));
      }) best
