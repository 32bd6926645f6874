use Rattle.std.proofs.Common.{◌≡◌, ◌∙◌, ℤ, w32, to_z, of_z}
use Rattle.std.proofs.lemmas.Int.{to_z-of_z}
use mir.Val.{SFits}

-- a number that fits 32 bits is the same in 32 bits
pub narrowed : (x y : ℤ) → SFits w32 x → x ≡ y → to_z w32 (of_z w32 x) ≡ y
narrowed x y h e = to_z-of_z w32 x h ∙ e
