-- What contracts see of a ring and its other end.
use Rattle.std.specs.Prelude.{ℕ, ◌+◌, ◌≤◌, nat_le, true, List, length}
use Rattle.rtrb.specs.Ring.{sent, known_free, producer_capacity, IsPair, SameProducer}
use Rattle.std.specs.declared.alloc.Global.{Global}
use Rattle.rtrb.specs.declared.AnyItems.{AnyItems}
use Rattle.rtrb.specs.declared.consumer.Consumer.{Consumer}
use Rattle.rtrb.specs.declared.producer.Producer.{Producer}
use Rattle.change_list.specs.declared.item.Item.{Item}
use Rattle.mailbox.specs.Outlets.{Rule}

-- An offer to a ring may be taken at any time, since its consumer may have emptied it. It is handed back only if the
-- ring was sent as many items as it has room for: before that it can't be full.
abbrev pub ring_rule : Rule
ring_rule = record { may_take = λ room count. true; may_refuse = λ room count. nat_le room count; is_emptied_elsewhere = true }

-- a ring, as its producer sees it
abbrev pub Ring : Type 0 → Type 0
Ring K = Producer (Item K) Global AnyItems

module _ {K : Type 0} where
  -- how many items it has room for
  abbrev pub places : Ring K → ℕ
  places ring = producer_capacity ring

  -- every item that it took, whether or not the consumer has taken it
  abbrev pub items_sent : Ring K → List (Item K)
  items_sent ring = sent ring

  -- what is pushed into the ring comes out at this consumer
  abbrev pub IsOtherEnd : Consumer (Item K) Global AnyItems → Ring K → Type 0
  IsOtherEnd end ring = IsPair ring end

  -- the same places and the same consumer
  abbrev pub IsSameRing : Ring K → Ring K → Type 0
  IsSameRing before after = SameProducer before after

  -- each place is known to be free, or has taken an item
  abbrev pub CountsPlaces : Ring K → Type 0
  CountsPlaces ring = places ring ≤ known_free ring + length (items_sent ring)
