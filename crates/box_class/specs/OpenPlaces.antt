use Rattle.std.specs.Prelude.{◌≡◌, ◌≢◌, ℕ, ◌≤◌, true, List, length, Option, All, AllPairs}
use Rattle.key_class.specs.declared.sides.Side.{Side}
use Rattle.key_class.specs.Groupings.{IsOpenAt, opens_of}
use Rattle.box_class.specs.declared.boxes.BoxKey.{BoxKey}
use Rattle.box_class.specs.Boxes.{is_cover, size_of}

-- some box of at most that size covers all of them
abbrev pub HaveBoundWithin : ℕ → List BoxKey → Type 0
HaveBoundWithin limit keys = (bound : BoxKey) × (size_of bound ≤ limit) × All (λ k. is_cover bound k ≡ true) keys

-- these are the open places
pub record AreOpenPlaces (sides : List (Option Side)) (places : List ℕ) : Type 0 where
  pub all : length places ≡ opens_of sides
  pub each : All (IsOpenAt sides) places
  pub apart : AllPairs (λ p q. p ≢ q) places
