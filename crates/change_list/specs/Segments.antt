-- A list kept as full segments and a tail.
use Rattle.std.specs.Prelude.{◌≡◌, ℕ, ◌+◌, ◌<◌, List, ◌++◌, ◌∷◌, [], length, Option, Some, None, slice_get, vec_items}
use Rattle.std.specs.Arc.{arc_value}
use Rattle.std.specs.declared.alloc.Global.{Global}
use Rattle.std.specs.declared.sync.Arc.{Arc}
use Rattle.std.specs.declared.vec.Vec.{Vec}
use Rattle.std.specs.List.{flat_map, AllByRecursion}

-- a list, and an element for which memory is reserved
pub record Growing (X : Type 0) : Type 0 where
  pub list : List X
  pub next : X

module _ {X : Type 0} where
  -- the items of a shared list, or none
  abbrev pub items_in : Option (Arc (Vec X Global) Global) → List X
  items_in (Some items) = vec_items (arc_value items)
  items_in None = []

  -- the list with that element
  abbrev pub with_next : Growing X → List X
  with_next g = g.list ++ g.next ∷ []

  -- the segments one after the other, then the tail
  abbrev pub joined : List (List X) → List X → List X
  joined segments tail = flat_map (λ segment. segment) segments ++ tail

  -- these are in the list from a place on
  abbrev pub IsRun : List X → ℕ → List X → Type 0
  IsRun list place run = (i : ℕ) → i < length run → slice_get list (place + i) ≡ slice_get run i

  -- with one element more
  abbrev pub joined_with : List (List X) → List X → X → List X
  joined_with segments tail x = joined segments tail ++ x ∷ []

  -- each segment has 256 elements, the tail fewer
  pub record IsSegmented (segments : List (List X)) (tail : List X) : Type 0 where
    pub each_full : AllByRecursion (λ segment. length segment ≡ 256) segments
    pub short : length tail < 256

  -- the segments including the one that an element completes, if the tail is one element short of a segment
  pub record Fills (segments : List (List X)) (tail : List X) (x : X) (filled : List (List X)) : Type 0 where
    pub is : filled ≡ segments ++ (tail ++ x ∷ []) ∷ []
    pub lacks_one : length tail ≡ 255

  -- what one more element needs: the segments including the one that it completes, or a tail that stays shorter than
  -- a segment
  abbrev pub IsReady : List (List X) → List X → X → Option (List (List X)) → Type 0
  IsReady segments tail x (Some filled) = Fills segments tail x filled
  IsReady segments tail x None = length tail < 255
