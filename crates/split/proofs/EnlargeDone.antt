-- An enlargement whose tests pass keeps the tree sound and its rows.
use Rattle.std.proofs.Common.{◌≡◌, ◌≢◌, ℕ, ◌<◌, Bool, ◌&&◌, ltb, length, None, sym, subst, arith}
use Rattle.std.proofs.lemmas.Bool.{ltb-true, and_parts}
use Rattle.node.specs.Pages.{names, is_within}
use Rattle.page_table.specs.Trees.{Tree, page_at, naming, rows_under, Falls}
use Rattle.key_class.specs.Rules.{KeyLaws}
use Rattle.page_table.specs.Soundness.{IsWithin}
use Rattle.page_table.specs.Keeping.{StandsIn}
use Rattle.page_table.proofs.Counting.{named-All}
use Rattle.page_table.proofs.Entries.{entries_stay}
use Rattle.split.specs.SearchTrees.{SearchTree, IsSearchTree}
use Rattle.split.specs.Steps.{after_enlarge}
use Rattle.split.specs.Tests.{first_failing, enlarge_tests, is_inner}
use Rattle.split.proofs.Passing.{all_pass, not_false}
use Rattle.split.proofs.Naming.{names_naming, within_is}
use Rattle.split.proofs.EnlargeSound.{enlarge_sound, enlarge_length, enlarge_rows}
use Rattle.split.proofs.StepsKeep.{enlarge_keeps, enlarge_entries}
use Rattle.split.proofs.Potential.{enlarge_potential}
use Rattle.split.proofs.Done.{IsDone, done_as}

module _ {K : Type 0} (is_cover : K → K → Bool) (s : SearchTree K) (inv : IsSearchTree is_cover s.tree s.fan s.least s.limit) (p c : ℕ) (key : K) (passed : first_failing (enlarge_tests is_cover s p c key) ≡ None) where
  -- what the tests say, in their order
  pub record Passed : Type 0 where
    pub exists : p < length s.tree.pages
    pub named : 0 < naming c (page_at s.tree p).branches
    pub covered : IsWithin is_cover (page_at s.tree p).cover key

  pub all_passed : Passed
  all_passed =
      let h = all_pass (enlarge_tests is_cover s p c key) passed in
      let here = and_parts (is_inner s.tree p) (names c (page_at s.tree p)) (not_false (is_inner s.tree p && names c (page_at s.tree p)) h.0) in
      let inner = and_parts (ltb p (length s.tree.pages)) (ltb 0 (page_at s.tree p).level) here.0 in
      record {
        exists = ltb-true p (length s.tree.pages) inner.0;
        named = names_naming c (page_at s.tree p).branches here.1;
        covered = within_is is_cover (page_at s.tree p).cover key (not_false (is_within is_cover (page_at s.tree p).cover key) h.1.0);
      }

  falls : Falls (length s.tree.pages) inv.sound.rank p c
  falls = let d = all_passed in named-All (λ x. Falls (length s.tree.pages) inv.sound.rank p x) c (page_at s.tree p).branches d.named ((inv.sound.ranked.links p d.exists).down)

  pub child_exists : c < length s.tree.pages
  child_exists = falls.0

  pub child_apart : p ≢ c
  child_apart e = let l : inv.sound.rank p < inv.sound.rank p = subst (λ x. inv.sound.rank x < inv.sound.rank p) (sym e) falls.1 in omega arith

  pub enlarge_done : (union : K → K → K) → KeyLaws is_cover union → IsDone is_cover s.tree (after_enlarge union s.tree p c key) s.fan s.least s.limit
  enlarge_done union laws = let d = all_passed in record {
    inv = record {
      sound = enlarge_sound is_cover union laws s.tree s.fan inv.sound p c key d.exists d.named d.covered;
      two_least = inv.two_least;
      two_parts = inv.two_parts;
      fan_limit = inv.fan_limit;
      page_limit = inv.page_limit;
      within = omega (arith, enlarge_length is_cover union laws s.tree s.fan inv.sound p c key d.exists d.named d.covered, inv.within);
    };
    kept = enlarge_keeps is_cover union s.tree s.fan inv.sound laws p c key d.exists d.named d.covered;
    moved = enlarge_entries is_cover union s.tree s.fan inv.sound laws p c key d.exists d.named d.covered (λ e. StandsIn s.tree e) (entries_stay s.tree);
    no_higher = enlarge_potential is_cover union laws s.tree s.fan inv.sound p c key d.exists d.named d.covered;
  }

  -- the very lists
  pub enlarge_same : (union : K → K → K) → KeyLaws is_cover union → (q m : ℕ) → q < length s.tree.pages → rows_under (after_enlarge union s.tree p c key) q m ≡ rows_under s.tree q m
  enlarge_same union laws q m l = let d = all_passed in enlarge_rows is_cover union laws s.tree s.fan inv.sound p c key d.exists d.named d.covered q m l

module _ {K : Type 0} (is_cover : K → K → Bool) (union : K → K → K) (table table' : Tree K) (fan least limit : ℕ) (old : SearchTree K) (view : record { tree = table; fan = fan; least = least; limit = limit } ≡ old)
    (inv : IsSearchTree is_cover table fan least limit) (p c : ℕ) (key : K) (passed : first_failing (enlarge_tests is_cover old p c key) ≡ None) where
  passed_here : first_failing (enlarge_tests is_cover (record { tree = table; fan = fan; least = least; limit = limit }) p c key) ≡ None
  passed_here = subst (λ s. first_failing (enlarge_tests is_cover s p c key) ≡ None) (sym view) passed

  pub enlarge_child_exists : c < length table.pages
  enlarge_child_exists = child_exists is_cover (record { tree = table; fan = fan; least = least; limit = limit }) inv p c key passed_here

  pub enlarge_child_apart : p ≢ c
  enlarge_child_apart = child_apart is_cover (record { tree = table; fan = fan; least = least; limit = limit }) inv p c key passed_here

  pub enlarge_finished : KeyLaws is_cover union → table' ≡ after_enlarge union table p c key → IsDone is_cover old.tree table' fan least limit
  enlarge_finished laws made = done_as is_cover table (after_enlarge union table p c key) table' old fan least limit view made (enlarge_done is_cover (record { tree = table; fan = fan; least = least; limit = limit }) inv p c key passed_here union laws)

  pub enlarge_finished_same : KeyLaws is_cover union → table' ≡ after_enlarge union table p c key → (q m : ℕ) → q < length old.tree.pages → rows_under table' q m ≡ rows_under old.tree q m
  enlarge_finished_same laws made = subst (λ s. (q m : ℕ) → q < length s.tree.pages → rows_under table' q m ≡ rows_under s.tree q m) view
      (subst (λ t. (q m : ℕ) → q < length table.pages → rows_under t q m ≡ rows_under table q m) (sym made) (enlarge_same is_cover (record { tree = table; fan = fan; least = least; limit = limit }) inv p c key passed_here union laws))
