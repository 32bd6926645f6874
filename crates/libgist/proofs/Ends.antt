-- Ends that are in order have a key; others have none.
use Rattle.std.proofs.Common.{◌≡◌, ℤ, ◌<ℤ◌, ◌≤ℤ◌, ⊎_elim, sym, arith}
use Rattle.std.proofs.lemmas.Int.{ints}
use Rattle.std.specs.Prelude.{Some, None, int_le, ◌⊎◌}
use Rattle.std.specs.Int.Signed.{le_z_yes}
use Rattle.interval_class.specs.declared.interval.Interval.{Interval}
use Rattle.box_class.specs.declared.boxes.BoxKey.{BoxKey}
use Rattle.query_text.specs.IntervalTexts.{interval_of}
use Rattle.query_text.specs.BoxTexts.{box_of}
use Rattle.query_text.proofs.IntervalLaws.{interval_of_ends}
use Rattle.query_text.proofs.BoxLaws.{box_of_ends}
use Rattle.query_text.proofs.KeyLaws.{when_none}

pub interval_with : (lo hi : ℤ) (key : Interval) → key.lo ≡ lo → key.hi ≡ hi → Some key ≡ interval_of lo hi
interval_with lo hi key e f = rw (← e, ← f) (sym (interval_of_ends key))

pub interval_without : (lo hi : ℤ) → hi <ℤ lo → None ≡ interval_of lo hi
interval_without lo hi bad = sym (when_none (int_le lo hi) _ (λ h. absurd (apart (le_z_yes h)))) where
  apart : lo ≤ℤ hi → ⊥
  apart h = omega (arith, ints, bad, h)

pub box_with : (x1 y1 x2 y2 : ℤ) (key : BoxKey) → key.x1 ≡ x1 → key.x2 ≡ x2 → key.y1 ≡ y1 → key.y2 ≡ y2 → Some key ≡ box_of x1 y1 x2 y2
box_with x1 y1 x2 y2 key e f g h = rw (← e, ← f, ← g, ← h) (sym (box_of_ends key))

pub box_without : (x1 y1 x2 y2 : ℤ) → (x2 <ℤ x1) ⊎ (y2 <ℤ y1) → None ≡ box_of x1 y1 x2 y2
box_without x1 y1 x2 y2 bad = sym (when_none (int_le x1 x2) _ (λ h. when_none (int_le y1 y2) _ (λ k. absurd (apart (le_z_yes h) (le_z_yes k))))) where
  apart : x1 ≤ℤ x2 → y1 ≤ℤ y2 → ⊥
  apart p q = ⊎_elim (λ h. omega (arith, ints, h, p)) (λ h. omega (arith, ints, h, q)) bad
