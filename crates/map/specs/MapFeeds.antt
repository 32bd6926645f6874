-- A feed of a map: its subscriptions, and what they are told.
use Rattle.std.specs.Prelude.{◌≡◌, ◌≢◌, ◌⊎◌, ℕ, ◌+◌, ◌<◌, ◌≤◌, max, min, nat_eq, IsTrue, List, [], ◌++◌, map, filter, Option, Some, None}
use Rattle.std.specs.List.{list_any}
use Rattle.key_class.specs.Rules.{Rules, satisfies}
use Rattle.key_class.specs.declared.refusal.Refusal.{Refusal}
use Rattle.key_class.specs.declared.refusal.Refusal.TheVariants as refusal
use Rattle.feed.specs.Feeds.{FeedState, Subscription, acknowledged, needs_before, subscription_of}
use Rattle.revisions.specs.declared.item.MapItem.{MapItem}
use Rattle.revisions.specs.Items.{AreItems}
use Rattle.revisions.specs.Maps.{MapState, revision_of}
use Rattle.map.specs.Kept.{MapView}

pub record MapFeedState (A : Type 0) : Type 0 where
  -- that of its map
  pub identity : ℕ
  -- its subscriptions, by revisions
  pub feed : FeedState A

module _ {A : Type 0} where
  abbrev pub map_feed : ℕ → FeedState A → MapFeedState A
  map_feed identity feed = record { identity = identity; feed = feed }

module _ {K : Type 0} where
  -- the items under a serial, in order
  abbrev pub told_under : ℕ → List (ℕ × MapItem K) → List (MapItem K)
  told_under serial told = map (λ t. t.1) (filter (λ t. nat_eq t.0 serial) told)

module _ {K A : Type 0} (rules : Rules K A) where
  -- a subscription is told the items of its query after revision `at` up to revision n; nothing, if it begins after n
  pub record IsToldUpto (map : MapState K) (n : ℕ) (s : Subscription A) (told : List (MapItem K)) : Type 0 where
    pub items : s.at ≤ n → AreItems (satisfies rules s.query) s.at n map told
    pub later : n < s.at → told ≡ []

  -- The feed processes at most `most` further revisions of a map, from the oldest one on if it is behind that. Each
  -- open subscription is told its items up to the revision that the feed has reached, under its serial. Nothing is
  -- told under any other serial.
  pub record Tells (old : FeedState A) (map : MapState K) (most : ℕ) (told : List (ℕ × MapItem K)) (upto : ℕ) : Type 0 where
    pub reached : upto ≡ min (max map.oldest old.upto + most) (revision_of map)
    pub each : (serial : ℕ) (s : Subscription A) → subscription_of old serial ≡ Some s → IsToldUpto map upto s (told_under serial told)
    pub no_others : (serial : ℕ) → subscription_of old serial ≡ None → told_under serial told ≡ []

  -- what was appended to a list is what the feed tells
  pub record TellsInto (old : FeedState A) (map : MapState K) (most : ℕ) (before after : List (ℕ × MapItem K)) (upto : ℕ) : Type 0 where
    pub told : List (ℕ × MapItem K)
    pub is : after ≡ before ++ told
    pub tells : Tells old map most told upto

  -- it has told this, and gone on to the revision
  pub record AdvancesInto (old : MapFeedState A) (map : MapState K) (most : ℕ) (before after : List (ℕ × MapItem K)) (new : MapFeedState A) (upto : ℕ) : Type 0 where
    pub tells : TellsInto old.feed map most before after upto
    pub goes_on : new ≡ map_feed old.identity (acknowledged upto old.feed)

module _ {K A : Type 0} (feed : FeedState A) (map : MapState K) where
  -- the feed is ahead of the map
  abbrev pub IsAhead : Type 0
  IsAhead = revision_of map < feed.upto

  -- the map goes far enough for the feed, but some open subscription needs changes that the map has forgotten
  pub record IsBehind : Type 0 where
    pub upto : feed.upto ≤ revision_of map
    pub needed : IsTrue (list_any (needs_before map.oldest) feed.subscriptions)

module _ {K A : Type 0} (feed : MapFeedState A) (view : MapView K) where
  abbrev pub IsOfOther : Type 0
  IsOfOther = view.identity ≢ feed.identity

  abbrev pub IsTooEarly : Type 0
  IsTooEarly = (view.identity ≡ feed.identity) × IsAhead feed.feed view.map

  abbrev pub IsTooLate : Type 0
  IsTooLate = (view.identity ≡ feed.identity) × IsBehind feed.feed view.map

-- why a feed of a map doesn't go on
abbrev pub RefusesMapAdvance : Refusal → Type 0
RefusesMapAdvance why = (why ≡ refusal.OtherStore) ⊎ (why ≡ refusal.FromFuture) ⊎ (why ≡ refusal.Compacted) ⊎ (why ≡ refusal.OutOfMemory)
