-- The move of a row leaves a search tree, and raises its potential by 1 at most.
use Rattle.std.proofs.Common.{◌≡◌, ℕ, ◌+◌, ◌<◌, ◌≤◌, Bool, true, ltb, eqb, [], ◌∷◌, ◌++◌, length, map, refl, ap, arith, sym, subst, inl, inr, length-append}
use Rattle.std.proofs.lemmas.Bool.{ltb-true, and_parts}
use Rattle.std.proofs.lemmas.List.{length-map, get_or-set_same, get_or-set_other}
use Rattle.row_version.specs.Entries.{Entry, marked}
use Rattle.node.specs.Pages.{Page, entries_of}
use Rattle.page_table.specs.Trees.{Tree, page_at, no_page, after_rows}
use Rattle.page_table.specs.LeafChanges.{after_bury, after_move, with_dead}
use Rattle.page_table.proofs.PageLists.{is_or_not, replaced-length}
use Rattle.split.specs.Potential.{potential}
use Rattle.split.specs.SearchTrees.{SearchTree, IsSearchTree, with_death}
use Rattle.split.specs.Tests.{place_tests, is_leaf, PlacePasses, NoneFails}
use Rattle.split.proofs.Potential.{rows_potential}
use Rattle.split.proofs.RowsDone.{IsPlaceable, buried, placed, placeable}

module _ {K : Type 0} where
  leaf_exists : (t : Tree K) (p : ℕ) → is_leaf t p ≡ true → p < length t.pages
  leaf_exists t p here = ltb-true p (length t.pages) (and_parts (ltb p (length t.pages)) (eqb (page_at t p).level 0) here).0

  bury-length : (t : Tree K) (q row n : ℕ) → length (after_bury t q row n).pages ≡ length t.pages
  unfolding after_rows
  bury-length t q row n = replaced-length t q (with_dead (page_at t q) row n)

  -- a bury keeps what the tests of a placing ask of a page
  record KeepsPage (page page' : Page K) : Type 0 where
    level : page'.level ≡ page.level
    cover : page'.cover ≡ page.cover
    entries : entries_of page' ≡ entries_of page

  bury_page : (t : Tree K) (q row n p : ℕ) → p < length t.pages → KeepsPage (page_at t p) (page_at (after_bury t q row n) p)
  unfolding after_rows
  bury_page t q row n p l = elim (is_or_not p q) [
    | inl e ↦ subst (λ x. KeepsPage (page_at t p) (page_at (after_bury t x row n) p)) e
        (subst (λ page. KeepsPage (page_at t p) page) (sym (get_or-set_same t.pages p (with_dead (page_at t p) row n) no_page l))
        (record { level = refl; cover = refl; entries = ap (λ m. m + length (page_at t p).branches) (length-map (page_at t p).rows (marked row n)) }))
    | inr d ↦ subst (λ page. KeepsPage (page_at t p) page) (sym (get_or-set_other t.pages q p (with_dead (page_at t q) row n) no_page d))
        (record { level = refl; cover = refl; entries = refl })
  ]

  same_tests : (is_cover : K → K → Bool) (s s' : SearchTree K) (p : ℕ) (key : K) → s'.fan ≡ s.fan → length s'.tree.pages ≡ length s.tree.pages → KeepsPage (page_at s.tree p) (page_at s'.tree p) →
      place_tests is_cover s' p key ≡ place_tests is_cover s p key
  same_tests is_cover s s' p key fans lengths kept = cc

  -- the tests of a placing that passed pass after a row has died, on the same page or on another
  pub passes_after_death : (is_cover : K → K → Bool) (s : SearchTree K) (q row n p : ℕ) (key : K) → PlacePasses is_cover s p key → PlacePasses is_cover (with_death s q row n) p key
  passes_after_death is_cover s q row n p key passes =
      let l : p < length s.tree.pages = leaf_exists s.tree p (placeable is_cover s p key passes).here in
      subst (λ tests. NoneFails tests) (sym (same_tests is_cover s (with_death s q row n) p key refl (bury-length s.tree q row n) (bury_page s.tree q row n p l))) passes

  -- a leaf that takes a row exists
  pub leaf_within : (is_cover : K → K → Bool) (s : SearchTree K) (p : ℕ) (key : K) → PlacePasses is_cover s p key → p < length s.tree.pages
  leaf_within is_cover s p key passes = leaf_exists s.tree p (placeable is_cover s p key passes).here

-- a row that moves to a leaf that takes it leaves a search tree
pub moved : {K : Type 0} (is_cover : K → K → Bool) (t : Tree K) (fan least limit : ℕ) → IsSearchTree is_cover t fan least limit
    → (from row n to : ℕ) (entry : Entry K) → is_leaf t from ≡ true → PlacePasses is_cover (record { tree = t; fan = fan; least = least; limit = limit }) to entry.key
    → IsSearchTree is_cover (after_move t from row n to entry) fan least limit
moved {K} is_cover t fan least limit inv from row n to entry here passes =
    let old : SearchTree K = record { tree = t; fan = fan; least = least; limit = limit } in
    let can : IsPlaceable is_cover (with_death old from row n) to entry.key = placeable is_cover (with_death old from row n) to entry.key (passes_after_death is_cover old from row n to entry.key passes) in
    placed is_cover (after_bury t from row n) fan least limit (buried is_cover t fan least limit inv from here row n) to can.here entry can.room can.covered

-- one row more, at most
pub move_potential : {K : Type 0} (fan : ℕ) (t : Tree K) (from row n to : ℕ) (entry : Entry K) → from < length t.pages → to < length t.pages
    → potential fan (after_move t from row n to entry) ≤ potential fan t + 1
move_potential fan t from row n to entry lf lt =
    let dead = after_bury t from row n in
    let first = rows_potential fan t from (map (marked row n) (page_at t from).rows) 0 lf (omega (arith, length-map (page_at t from).rows (marked row n))) in
    let second = rows_potential fan dead to ((page_at dead to).rows ++ entry ∷ []) 1 (omega (arith, lt, bury-length t from row n)) (omega (arith, length-append (page_at dead to).rows (entry ∷ []))) in
    omega (arith, first, second)

-- the same of the tables of the code
pub move_finished : {K : Type 0} (is_cover : K → K → Bool) (table table' : Tree K) (fan least limit : ℕ) (old : SearchTree K) → record { tree = table; fan = fan; least = least; limit = limit } ≡ old → IsSearchTree is_cover table fan least limit
    → (from row n to : ℕ) (entry : Entry K) → is_leaf old.tree from ≡ true → PlacePasses is_cover old to entry.key → table' ≡ after_move table from row n to entry → IsSearchTree is_cover table' fan least limit
move_finished is_cover table table' fan least limit old view inv from row n to entry here passes made = subst (λ t. IsSearchTree is_cover t fan least limit) (sym made)
    (moved is_cover table fan least limit inv from row n to entry (subst (λ s. is_leaf s.tree from ≡ true) (sym view) here) (subst (λ s. PlacePasses is_cover s to entry.key) (sym view) passes))
