-- What contracts see of a ring's consumer, and what a take does there.
use Rattle.std.specs.Prelude.{◌≡◌, List, [], ◌∷◌, ◌++◌, Option, Some, None}
use mathlib.Core.List.{IsPrefix}
use Rattle.std.specs.declared.alloc.Global.{Global}
use Rattle.rtrb.specs.declared.AnyItems.{AnyItems}
use Rattle.rtrb.specs.declared.consumer.Consumer.{Consumer}
use Rattle.rtrb.specs.Ring.{received, known_items}
use Rattle.change_list.specs.declared.item.Item.{Item}

-- what a consumer shows
pub record RingEnd (K : Type 0) : Type 0 where
  -- the items that were taken, in order
  pub taken : List (Item K)
  -- the items that were seen in the ring and will be taken next
  pub seen : List (Item K)

module _ {K : Type 0} where
  abbrev pub shown_by : Consumer (Item K) Global AnyItems → RingEnd K
  shown_by end = record { taken = received end; seen = known_items end }

  -- An item is taken: it is appended to those that were taken, and is the first of those that were seen. Or none is
  -- taken, since the ring was seen to be empty.
  abbrev pub TakesNext : RingEnd K → Option (Item K) → RingEnd K → Type 0
  TakesNext old (Some item) new = (new.taken ≡ old.taken ++ item ∷ []) × IsPrefix old.seen (item ∷ new.seen)
  TakesNext old None new = (new.taken ≡ old.taken) × (old.seen ≡ []) × (new.seen ≡ [])
