-- A new tree is sound.
use Rattle.std.proofs.Common.{ℕ, zero, suc, ◌<◌, ◌≡◌, refl, arith, Bool, true, false, ◌⊎◌, inl, inr, Some, None}
use Rattle.std.proofs.lemmas.List.Elements.{All-nil}
use Rattle.page_table.proofs.Counting.{false_true}
use Rattle.page_table.specs.Soundness.{IsBounded, IsReached, IsShaped, IsSound}
use Rattle.page_table.specs.Trees.{LinksFall, new_tree, page_at, pages_under, pages_within}

abbrev Claim : {K : Type 0} → (K → K → Bool) → ℕ → ℕ → Type 0
Claim {K} is_cover fan p = IsShaped (new_tree {K = K}) fan (page_at new_tree p) × IsReached (new_tree {K = K}) p (page_at new_tree p) × IsBounded is_cover (new_tree {K = K}) (page_at new_tree p)

no_cause : (false ≡ true) ⊎ (0 < 0) → (x : ℕ) × (None ≡ Some x)
no_cause (inl e) = absurd (false_true false refl e)
no_cause (inr l) = absurd (omega arith)

claim : {K : Type 0} (is_cover : K → K → Bool) (fan p : ℕ) → p < 1 → Claim is_cover fan p
unfolding new_tree pages_under pages_within
claim {K} is_cover fan zero l = (
  record { number = omega arith; link = no_cause; level_along = All-nil _; level_down = All-nil _; leaf = λ e. refl; inner = λ k. refl; fits = omega arith; low = omega arith; branched = λ k. absurd (omega (arith, k)) },
  record { named = refl; owed_by = refl; settled = λ u. refl; linked_by = λ u. absurd (false_true true u refl); once = refl },
  record { rows = All-nil _; branches = All-nil _; below = All-nil _ },
)
claim is_cover fan (suc p) l = absurd (omega arith)

links : {K : Type 0} (p : ℕ) → p < 1 → LinksFall 1 (λ q. 0) p (page_at (new_tree {K = K}) p)
unfolding new_tree
links zero l = record { down = All-nil _; along = All-nil _ }
links (suc p) l = absurd (omega arith)

pub new_sound : {K : Type 0} (is_cover : K → K → Bool) (fan : ℕ) → IsSound is_cover fan (new_tree {K = K})
unfolding new_tree
new_sound is_cover fan = record {
  rank = λ p. 0;
  ranked = record { bounded = λ p l. omega arith; links = λ p l. links p l };
  root_exists = omega arith;
  root = record { number = refl; no_right = refl; not_owed = refl; hung = refl; no_cover = refl };
  no_link_to_root = refl;
  posted = omega arith;
  shape = λ p l. (claim is_cover fan p l).0;
  reached = λ p l. (claim is_cover fan p l).1;
  bounded = λ p l. (claim is_cover fan p l).2;
}
