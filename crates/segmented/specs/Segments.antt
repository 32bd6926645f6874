-- A list kept in segments.
use Rattle.std.specs.Prelude.{◌≡◌, ℕ, ◌<◌, ◌≤◌, List, [], ◌∷◌, length, flat_map, vec_items, vec_len, vec_capacity}
use Rattle.std.specs.declared.alloc.Global.{Global}
use Rattle.std.specs.declared.vec.Vec.{Vec}

-- a list, and for how many elements there is room
pub record Segmented (X : Type 0) : Type 0 where
  pub items : List X
  pub capacity : ℕ

module _ {X : Type 0} where
  -- the elements of all segments
  abbrev pub joined : List (Vec X Global) → List X
  joined segments = flat_map vec_items segments

  -- each segment has room for 4,096 elements, and each but the last is full
  abbrev pub AreSegments : List (Vec X Global) → Type 0
  AreSegments [] = Unit {0}
  AreSegments (segment ∷ segments) = (vec_capacity segment ≡ 4096) × (0 < length segments → vec_len segment ≡ 4096) × AreSegments segments

  -- these are the segments of so many elements, of 2 ^ 32 at most
  pub record IsSegmented (segments : List (Vec X Global)) (len : ℕ) : Type 0 where
    pub are : AreSegments segments
    pub counted : len ≡ length (joined segments)
    pub few : length segments ≤ 1048576
