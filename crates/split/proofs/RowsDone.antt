-- A change of a leaf's rows keeps the tree sound.
use Rattle.std.proofs.Common.{◌≡◌, ℕ, ◌+◌, ◌<◌, ◌≤◌, Bool, true, false, ltb, eqb, cond, List, [], ◌∷◌, ◌++◌, length, map, filter, None, All, refl, sym, subst, arith, length-append}
use Rattle.std.proofs.lemmas.Bool.{ltb-true, leb-false, eqb-true, and_parts}
use Rattle.std.proofs.lemmas.List.{length-map}
use Rattle.std.proofs.lemmas.List.Elements.{All-append, All-cons, All-nil, All-map, All-filter, All-weaker}
use Rattle.row_version.specs.Entries.{Entry, is_needed, marked, died_at}
use Rattle.node.specs.Pages.{entries_of, is_within}
use Rattle.page_table.specs.Weights.{weigh}
use Rattle.page_table.specs.Trees.{Tree, page_at, after_rows, rows_of_tree}
use Rattle.page_table.specs.Soundness.{IsWithin}
use Rattle.page_table.proofs.RowChanges.{rows_sound, rows_length}
use Rattle.page_table.proofs.RowsOnce.{place_all}
use Rattle.page_table.proofs.Visits.{weigh-filter_le, weigh-ones}
use Rattle.split.specs.SearchTrees.{SearchTree, IsSearchTree}
use Rattle.split.specs.Tests.{first_failing, place_tests, sweep_tests, is_leaf}
use Rattle.split.proofs.Passing.{all_pass, not_false}
use Rattle.split.proofs.Naming.{within_is}

cond_key : {K : Type 0} (b : Bool) (n : ℕ) (e : Entry K) → (cond b (died_at n e) e).key ≡ e.key
cond_key true n e = refl
cond_key false n e = refl

module _ {K : Type 0} (is_cover : K → K → Bool) (t : Tree K) (fan least limit : ℕ) (inv : IsSearchTree is_cover t fan least limit) (p : ℕ) (here : is_leaf t p ≡ true) where
  exists : p < length t.pages
  exists = ltb-true p (length t.pages) (and_parts (ltb p (length t.pages)) (eqb (page_at t p).level 0) here).0

  leaf : (page_at t p).level ≡ 0
  leaf = eqb-true (page_at t p).level 0 (and_parts (ltb p (length t.pages)) (eqb (page_at t p).level 0) here).1

  few : length (page_at t p).rows ≤ fan
  few = let w = inv.sound.shape p exists in omega (arith, w.fits)

  abbrev Within : Entry K → Type 0
  Within e = IsWithin is_cover (page_at t p).cover e.key

  -- the rows written anew
  changed : (rows : List (Entry K)) → length rows ≤ fan → All Within rows → IsSearchTree is_cover (after_rows t p rows) fan least limit
  changed rows fits within = record {
    sound = rows_sound is_cover t fan inv.sound p exists rows leaf fits within;
    two_least = inv.two_least;
    two_parts = inv.two_parts;
    fan_limit = inv.fan_limit;
    page_limit = inv.page_limit;
    within = subst (λ n. n ≤ limit) (sym (rows_length is_cover t fan inv.sound p exists rows leaf fits within)) inv.within;
  }

  pub placed : (entry : Entry K) → entries_of (page_at t p) < fan → Within entry → IsSearchTree is_cover (after_rows t p ((page_at t p).rows ++ entry ∷ [])) fan least limit
  placed entry room covered = changed ((page_at t p).rows ++ entry ∷ []) (omega (arith, room, length-append (page_at t p).rows (entry ∷ [])))
      (All-append Within (page_at t p).rows (entry ∷ []) ((inv.sound.bounded p exists).rows) (All-cons Within entry [] covered (All-nil Within)))

  pub placed_once : (entry : Entry K) (f : Entry K → ℕ) → weigh f (rows_of_tree (after_rows t p ((page_at t p).rows ++ entry ∷ []))) ≡ weigh f (rows_of_tree t) + f entry
  placed_once entry f = place_all is_cover t fan inv.sound f p exists entry

  pub buried : (row n : ℕ) → IsSearchTree is_cover (after_rows t p (map (marked row n) (page_at t p).rows)) fan least limit
  buried row n = changed (map (marked row n) (page_at t p).rows) (omega (arith, few, length-map (page_at t p).rows (marked row n)))
      (All-map Within (marked row n) (page_at t p).rows
      (All-weaker Within (λ e. Within (marked row n e)) (λ e w. subst (λ k. IsWithin is_cover (page_at t p).cover k) (sym (cond_key (eqb e.row row) n e)) w) (page_at t p).rows ((inv.sound.bounded p exists).rows)))

  pub swept : (horizon : ℕ) → IsSearchTree is_cover (after_rows t p (filter (is_needed horizon) (page_at t p).rows)) fan least limit
  swept horizon = changed (filter (is_needed horizon) (page_at t p).rows)
      (omega (arith, few, weigh-filter_le (λ (e : Entry K). 1) (is_needed horizon) (page_at t p).rows, weigh-ones (page_at t p).rows, weigh-ones (filter (is_needed horizon) (page_at t p).rows)))
      (All-filter (is_needed horizon) Within (page_at t p).rows ((inv.sound.bounded p exists).rows))

-- what the tests of a placing say, in their order
pub record IsPlaceable {K : Type 0} (is_cover : K → K → Bool) (s : SearchTree K) (p : ℕ) (key : K) : Type 0 where
  pub here : is_leaf s.tree p ≡ true
  pub covered : IsWithin is_cover (page_at s.tree p).cover key
  pub room : entries_of (page_at s.tree p) < s.fan

pub placeable : {K : Type 0} (is_cover : K → K → Bool) (s : SearchTree K) (p : ℕ) (key : K) → first_failing (place_tests is_cover s p key) ≡ None → IsPlaceable is_cover s p key
placeable is_cover s p key passed =
    let h = all_pass (place_tests is_cover s p key) passed in
    record {
      here = not_false (is_leaf s.tree p) h.0;
      covered = within_is is_cover (page_at s.tree p).cover key (not_false (is_within is_cover (page_at s.tree p).cover key) h.1.0);
      room = leb-false s.fan (entries_of (page_at s.tree p)) h.1.1.0;
    }

pub sweepable : {K : Type 0} (s : SearchTree K) (p : ℕ) → first_failing (sweep_tests s p) ≡ None → is_leaf s.tree p ≡ true
sweepable s p passed = not_false (is_leaf s.tree p) (all_pass (sweep_tests s p) passed).0

module _ {K : Type 0} (is_cover : K → K → Bool) (table table' : Tree K) (fan least limit : ℕ) (old : SearchTree K) (view : record { tree = table; fan = fan; least = least; limit = limit } ≡ old) (inv : IsSearchTree is_cover table fan least limit) (p : ℕ) where
  module _ (entry : Entry K) (key : K) (passed : first_failing (place_tests is_cover old p key) ≡ None) (is : key ≡ entry.key) (made : table' ≡ after_rows table p ((page_at table p).rows ++ entry ∷ [])) where
    can_place : IsPlaceable is_cover (record { tree = table; fan = fan; least = least; limit = limit }) p entry.key
    can_place = placeable is_cover (record { tree = table; fan = fan; least = least; limit = limit }) p entry.key
        (subst (λ s. first_failing (place_tests is_cover s p entry.key) ≡ None) (sym view) (subst (λ k. first_failing (place_tests is_cover old p k) ≡ None) is passed))

    pub place_finished : IsSearchTree is_cover table' fan least limit
    place_finished = let d = can_place in subst (λ t. IsSearchTree is_cover t fan least limit) (sym made) (placed is_cover table fan least limit inv p d.here entry d.room d.covered)

    pub place_finished_once : (f : Entry K → ℕ) → weigh f (rows_of_tree table') ≡ weigh f (rows_of_tree old.tree) + f entry
    place_finished_once f = let d = can_place in subst (λ s. weigh f (rows_of_tree table') ≡ weigh f (rows_of_tree s.tree) + f entry) view
        (subst (λ t. weigh f (rows_of_tree t) ≡ weigh f (rows_of_tree table) + f entry) (sym made) (placed_once is_cover table fan least limit inv p d.here entry f))

  pub bury_finished : (row n : ℕ) → is_leaf old.tree p ≡ true → table' ≡ after_rows table p (map (marked row n) (page_at table p).rows) → IsSearchTree is_cover table' fan least limit
  bury_finished row n here made = subst (λ t. IsSearchTree is_cover t fan least limit) (sym made)
      (buried is_cover table fan least limit inv p (subst (λ s. is_leaf s.tree p ≡ true) (sym view) here) row n)

  pub sweep_finished : (horizon : ℕ) → is_leaf old.tree p ≡ true → table' ≡ after_rows table p (filter (is_needed horizon) (page_at table p).rows) → IsSearchTree is_cover table' fan least limit
  sweep_finished horizon here made = subst (λ t. IsSearchTree is_cover t fan least limit) (sym made)
      (swept is_cover table fan least limit inv p (subst (λ s. is_leaf s.tree p ≡ true) (sym view) here) horizon)
