-- A posting whose tests pass keeps the tree sound and its rows.
use Rattle.std.proofs.Common.{◌≡◌, ◌≢◌, ℕ, ◌<◌, Bool, true, ◌&&◌, ltb, length, Some, None, sym, subst, arith}
use Rattle.std.proofs.lemmas.Bool.{ltb-true, leb-false, and_parts}
use Rattle.node.specs.Pages.{entries_of, names}
use Rattle.page_table.specs.Trees.{Tree, page_at, naming}
use Rattle.key_class.specs.Rules.{KeyLaws}
use Rattle.page_table.specs.Keeping.{StandsIn}
use Rattle.page_table.proofs.Entries.{entries_stay}
use Rattle.split.specs.SearchTrees.{SearchTree, IsSearchTree}
use Rattle.split.specs.Steps.{after_post, CanPost}
use Rattle.split.specs.Tests.{first_failing, post_tests, is_inner}
use Rattle.split.proofs.Passing.{all_pass, not_false}
use Rattle.split.proofs.Naming.{names_naming}
use Rattle.split.proofs.Post.{post-length}
use Rattle.split.proofs.PostUnder.{child_not_parent, sibling_not_parent, sibling_not_child, sibling_falls}
use Rattle.split.proofs.CanPost.{can_post}
use Rattle.split.proofs.PostSound.{post_sound}
use Rattle.split.proofs.StepsKeep.{post_keeps, post_entries}
use Rattle.split.proofs.Potential.{post_potential}
use Rattle.split.proofs.Done.{IsDone, done_as}

module _ {K : Type 0} (is_cover : K → K → Bool) (s : SearchTree K) (inv : IsSearchTree is_cover s.tree s.fan s.least s.limit) (p c : ℕ) (passed : first_failing (post_tests s p c) ≡ None) where
  -- what the tests say, in their order
  pub record Passed : Type 0 where
    pub exists : p < length s.tree.pages
    pub named : 0 < naming c (page_at s.tree p).branches
    pub owed : (page_at s.tree c).owed ≡ true
    pub room : entries_of (page_at s.tree p) < s.fan

  pub all_passed : Passed
  all_passed =
      let h = all_pass (post_tests s p c) passed in
      let here = and_parts (is_inner s.tree p) (names c (page_at s.tree p) && (page_at s.tree c).owed) (not_false (is_inner s.tree p && (names c (page_at s.tree p) && (page_at s.tree c).owed)) h.0) in
      let inner = and_parts (ltb p (length s.tree.pages)) (ltb 0 (page_at s.tree p).level) here.0 in
      let child = and_parts (names c (page_at s.tree p)) (page_at s.tree c).owed here.1 in
      record {
        exists = ltb-true p (length s.tree.pages) inner.0;
        named = names_naming c (page_at s.tree p).branches child.0;
        owed = child.1;
        room = leb-false s.fan (entries_of (page_at s.tree p)) h.1.0;
      }

  module _ (r : ℕ) (right : (page_at s.tree c).right ≡ Some r) where
    pub can : CanPost s.tree p c r
    can = let d = all_passed in can_post is_cover s.tree s.fan inv.sound p c r d.exists d.named d.owed right

    pub child_apart : p ≢ c
    child_apart e = child_not_parent s.tree inv.sound.rank inv.sound.ranked p c r can (λ x. x) (sym e)

    pub sibling_apart : p ≢ r
    sibling_apart e = sibling_not_parent s.tree inv.sound.rank inv.sound.ranked p c r can (λ x. x) (sym e)

    pub siblings_apart : c ≢ r
    siblings_apart e = sibling_not_child s.tree inv.sound.rank inv.sound.ranked p c r can (λ x. x) (sym e)

    pub sibling_exists : r < length s.tree.pages
    sibling_exists = (sibling_falls s.tree inv.sound.rank inv.sound.ranked p c r can).0

    pub post_done : (union : K → K → K) → KeyLaws is_cover union → IsDone is_cover s.tree (after_post s.tree p c r) s.fan s.least s.limit
    post_done union laws = record {
      inv = record {
        sound = let d = all_passed in post_sound is_cover union laws s.tree s.fan inv.sound p c r can d.room;
        two_least = inv.two_least;
        two_parts = inv.two_parts;
        fan_limit = inv.fan_limit;
        page_limit = inv.page_limit;
        within = omega (arith, post-length s.tree p c r, inv.within);
      };
      kept = post_keeps is_cover union s.tree s.fan inv.sound p c r can;
      moved = post_entries is_cover union s.tree s.fan inv.sound p c r can (λ e. StandsIn s.tree e) (entries_stay s.tree);
      no_higher = let d = all_passed in post_potential is_cover union laws s.tree s.fan inv.sound p c r can d.room;
    }

module _ {K : Type 0} (is_cover : K → K → Bool) (union : K → K → K) (table table' : Tree K) (fan least limit : ℕ) (old : SearchTree K) (view : record { tree = table; fan = fan; least = least; limit = limit } ≡ old)
    (inv : IsSearchTree is_cover table fan least limit) (p c r : ℕ) (passed : first_failing (post_tests old p c) ≡ None) (right : (page_at table c).right ≡ Some r) where
  passed_here : first_failing (post_tests (record { tree = table; fan = fan; least = least; limit = limit }) p c) ≡ None
  passed_here = subst (λ s. first_failing (post_tests s p c) ≡ None) (sym view) passed

  pub post_child_apart : p ≢ c
  post_child_apart = child_apart is_cover (record { tree = table; fan = fan; least = least; limit = limit }) inv p c passed_here r right

  pub post_sibling_apart : p ≢ r
  post_sibling_apart = sibling_apart is_cover (record { tree = table; fan = fan; least = least; limit = limit }) inv p c passed_here r right

  pub post_siblings_apart : c ≢ r
  post_siblings_apart = siblings_apart is_cover (record { tree = table; fan = fan; least = least; limit = limit }) inv p c passed_here r right

  pub post_sibling_exists : r < length table.pages
  post_sibling_exists = sibling_exists is_cover (record { tree = table; fan = fan; least = least; limit = limit }) inv p c passed_here r right

  pub post_finished : KeyLaws is_cover union → table' ≡ after_post table p c r → IsDone is_cover old.tree table' fan least limit
  post_finished laws made = done_as is_cover table (after_post table p c r) table' old fan least limit view made (post_done is_cover (record { tree = table; fan = fan; least = least; limit = limit }) inv p c passed_here r right union laws)
