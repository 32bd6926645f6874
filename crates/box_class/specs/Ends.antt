-- The four ends of a box.
use Rattle.std.specs.Prelude.{◌⊎◌, ℤ, ◌<ℤ◌}

-- on one axis the higher end is below the lower
abbrev pub AreOutOfOrder : ℤ → ℤ → ℤ → ℤ → Type 0
AreOutOfOrder x1 y1 x2 y2 = (x2 <ℤ x1) ⊎ (y2 <ℤ y1)
