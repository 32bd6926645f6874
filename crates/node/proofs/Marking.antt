-- What a step leaves as it is: the branches to other children, the entries of other rows.
use Rattle.std.proofs.Common.{◌≡◌, ℕ, false, cond, ap}
use Rattle.std.specs.Prelude.{nat_eq}
use Rattle.row_version.specs.Entries.{Entry, died_at, marked}
use Rattle.node.specs.Changes.{widened}
use Rattle.node.specs.declared.branch.Branch.{Branch}

module _ {K : Type 0} where
  pub widened_idle : (union : K → K → K) (child : ℕ) (key : K) (b : Branch K) → nat_eq b.child child ≡ false → widened union child key b ≡ b
  widened_idle union child key b e = ap (λ t. cond t (record { key = union b.key key; child = b.child }) b) e

  pub marked_idle : (row n : ℕ) (x : Entry K) → nat_eq x.row row ≡ false → marked row n x ≡ x
  marked_idle row n x e = ap (λ t. cond t (died_at n x) x) e
