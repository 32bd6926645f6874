-- The streams of a feed's subscribers.
use Rattle.std.specs.Prelude.{◌≡◌, ◌≢◌, ℕ, ◌+◌, ◌^◌, ◌-◌, List, [], ◌∷◌, ◌++◌, Option, Some, None}
use Rattle.std.specs.BTreeMap.{is_at}
use Rattle.std.specs.Map.{lookup}
use Rattle.std.specs.Ordering.{nat_cmp}
use Rattle.key_class.specs.Queries.{Query}
use Rattle.interval_class.specs.Intervals.{interval_rules}
use Rattle.interval_class.specs.declared.interval.Interval.{Interval}
use Rattle.interval_class.specs.declared.atom.Atom.{Atom}
use Rattle.change_list.specs.declared.item.Item.{Item}
use Rattle.change_list.specs.declared.write.Write.{Write}
use Rattle.feed.specs.Feeds.{Advances, FeedState, items_under, with_subscription}
use Rattle.storm.specs.Hearing.{AsksTen}
use Rattle.storm.specs.declared.publishing.Publication.{Publication}
use Rattle.storm.specs.declared.publishing.Stream.{Stream}

-- the feed has one more subscription, to the query of the subscriber with this number, from the first commit on
pub record SubscribesTo (number : ℕ) (old new : FeedState Atom) (serial : ℕ) : Type 0 where
  pub query : Query Atom
  pub asks : AsksTen number query
  pub is : new ≡ with_subscription old query 0
  pub next : serial ≡ old.last + 1

-- the stream of the subscription with a serial
abbrev pub stream_at : List (ℕ × Stream) → ℕ → Option Stream
stream_at streams serial = lookup (is_at (nat_cmp serial)) streams

-- the same stream, on which these items are due as well
pub record IsDueMore (old : Stream) (items : List (Item Interval)) (new : Stream) : Type 0 where
  pub number : new.number ≡ old.number
  pub place : new.place ≡ old.place
  pub due : new.due.items ≡ old.due.items ++ items

-- the same for a stream that may have been cut short
abbrev pub MayBeDueMore : Option Stream → List (Item Interval) → Option Stream → Type 0
MayBeDueMore (Some old) items (Some new) = IsDueMore old items new
MayBeDueMore None items None = Unit {0}
MayBeDueMore (Some old) items None = ⊥
MayBeDueMore None items (Some new) = ⊥

-- one item is due on the stream with a serial, and the others are unchanged
pub record EnqueuesOne (serial : ℕ) (item : Item Interval) (old new : List (ℕ × Stream)) : Type 0 where
  pub here : MayBeDueMore (stream_at old serial) (item ∷ []) (stream_at new serial)
  pub others : (other : ℕ) → other ≢ serial → stream_at new other ≡ stream_at old other

-- on each stream the items under its serial are due, in order
abbrev pub Enqueues : List (ℕ × Item Interval) → List (ℕ × Stream) → List (ℕ × Stream) → Type 0
Enqueues delivered old new = (serial : ℕ) → MayBeDueMore (stream_at old serial) (items_under serial delivered) (stream_at new serial)

-- the feed processes all commits, and each item that it delivers is due on the stream of its subscription
pub record Publishes (commits : List (Write Interval)) (old new : Publication) : Type 0 where
  pub delivered : List (ℕ × Item Interval)
  pub advances : Advances interval_rules old.feed commits (2 ^ 64 - 1) delivered new.feed
  pub enqueues : Enqueues delivered old.streams.entries new.streams.entries
