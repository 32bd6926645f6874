-- A feed of a map with the items that it delivered but C hasn't taken yet, and what its calls answer and leave.
use Rattle.std.specs.Prelude.{◌≡◌, ◌≢◌, ◌↔◌, ℕ, ◌+◌, ◌<◌, min, List, [], length, map, drop, None, Result, Err, IfOk, IfErr, OnOk, OnErr}
use Rattle.key_class.specs.declared.refusal.Refusal.{Refusal}
use Rattle.key_class.specs.declared.refusal.Refusal.TheVariants.{BadConfig, Compacted, FeedFull, FromFuture, NotSubscribed, OtherStore, OutOfMemory}
use Rattle.key_class.specs.declared.pred.Pred.{Pred}
use Rattle.key_class.specs.Queries.{query_of, depth_of}
use Rattle.key_class.specs.Rules.{Rules}
use Rattle.search.specs.Fills.{written_over}
use Rattle.feed.specs.Feeds.{FeedState, HasNoPlaceFor, RefusesSubscription, compacted_serials, new_feed, subscription_of, with_subscription, without_subscription}
use Rattle.revisions.specs.declared.item.MapItem.{MapItem}
use Rattle.revisions.specs.Maps.{MapState}
use Rattle.map.specs.Kept.{MapView}
use Rattle.map.specs.MapFeeds.{AdvancesInto, IsOfOther, IsTooEarly, IsTooLate, MapFeedState, RefusesMapAdvance, map_feed}
use Rattle.libgist.specs.declared.words.KeyWords.{KeyWords}
use Rattle.libgist.specs.declared.words.ToldMapItem.{ToldMapItem}
use Rattle.libgist.specs.Following.{commits_allowed}
use Rattle.libgist.specs.MapShown.{told_map_item}

pub record MapFollowingState (K A : Type 0) : Type 0 where
  pub feed : MapFeedState A
  -- the items that it delivered but that weren't taken, each under the serial of its subscription
  pub waiting : List (ℕ × MapItem K)

module _ {K A : Type 0} where
  abbrev pub new_map_following : ℕ → MapFollowingState K A
  new_map_following identity = record { feed = map_feed identity new_feed; waiting = [] }

  -- with other subscriptions
  abbrev pub with_feed : MapFollowingState K A → FeedState A → MapFollowingState K A
  with_feed old feed = record { feed = map_feed old.feed.identity feed; waiting = old.waiting }

  -- a query is subscribed to
  pub record IsMapSubscribing (query : Pred A) (from : ℕ) (old : MapFollowingState K A) (answer : Result ℕ Refusal) (new : MapFollowingState K A) : Type 0 where
    pub serial : IfOk answer (λ serial. serial ≡ old.feed.feed.last + 1)
    pub ok : OnOk answer (new ≡ with_feed old (with_subscription old.feed.feed (query_of query) from))
    pub err : OnErr answer (new ≡ old)
    pub depth : answer ≢ Err OutOfMemory → (answer ≡ Err BadConfig) ↔ (32 < depth_of (query_of query))
    pub full : answer ≢ Err OutOfMemory → (answer ≡ Err FeedFull) ↔ HasNoPlaceFor old.feed.feed (query_of query)
    pub refusals : IfErr answer RefusesSubscription

  -- a subscription is ended
  pub record IsMapUnsubscribing (serial : ℕ) (old : MapFollowingState K A) (answer : Result (Unit {0}) Refusal) (new : MapFollowingState K A) : Type 0 where
    pub ok : OnOk answer (new ≡ with_feed old (without_subscription old.feed.feed serial))
    pub err : OnErr answer (new ≡ old)
    pub none : (answer ≡ Err NotSubscribed) ↔ (subscription_of old.feed.feed serial ≡ None)
    pub refusal : IfErr answer (λ why. why ≡ NotSubscribed)

  -- the serials of the subscriptions that need items from before a revision are counted, and stand over the first places
  -- of a buffer
  pub record IsTellingCompacted (oldest : ℕ) (before after : List ℕ) (old : MapFollowingState K A) (answer : Result ℕ Refusal) : Type 0 where
    pub counted : IfOk answer (λ n. n ≡ length (compacted_serials oldest old.feed.feed))
    pub written : OnOk answer (after ≡ written_over (compacted_serials oldest old.feed.feed) before)
    pub unfilled : OnErr answer (after ≡ before)
    pub refusal : IfErr answer (λ why. why ≡ OutOfMemory)

module _ {K : Type 0} (words_of : K → KeyWords) where
  -- the items that wait are counted and stand over the first places of a buffer, as far as they fit; the rest still
  -- wait
  pub record GivesWaiting {A : Type 0} (before after : List ToldMapItem) (old new : MapFollowingState K A) (told : ℕ × ℕ) : Type 0 where
    pub counted : told.0 ≡ min (length old.waiting) (length before)
    pub written : after ≡ written_over (map (told_map_item words_of) old.waiting) before
    pub rest : new.waiting ≡ drop told.0 old.waiting
    pub feed_stays : new.feed ≡ old.feed
    pub upto : told.1 ≡ new.feed.feed.upto

module _ {K A : Type 0} (rules : Rules K A) (allowed : ℕ) (kept : MapState K) where
  -- the feed processes further revisions, and its items wait after those that wait already
  abbrev pub GoesOn : MapFollowingState K A → MapFollowingState K A → Type 0
  GoesOn old new = AdvancesInto rules old.feed kept allowed old.waiting new.waiting new.feed new.feed.feed.upto

module _ {K A : Type 0} (rules : Rules K A) (words_of : K → KeyWords) (most : ℕ) (view : MapView K) where
  -- the feed goes on as far as it may, and delivers the items that then wait
  pub record Gives (before after : List ToldMapItem) (old new : MapFollowingState K A) (told : ℕ × ℕ) : Type 0 where
    pub between : MapFollowingState K A
    pub goes_on : GoesOn rules (commits_allowed most old.waiting) view.map old between
    pub gives : GivesWaiting words_of before after between new told

  -- the feed is asked to go on over a snapshot and to deliver items
  pub record IsMapAdvancing (before after : List ToldMapItem) (old : MapFollowingState K A) (answer : Result (ℕ × ℕ) Refusal) (new : MapFollowingState K A) : Type 0 where
    pub ok : IfOk answer (Gives before after old new)
    pub err : OnErr answer (new ≡ old)
    pub unfilled : OnErr answer (after ≡ before)
    pub other : (answer ≡ Err OtherStore) ↔ IsOfOther old.feed view
    pub future : (answer ≡ Err FromFuture) ↔ IsTooEarly old.feed view
    pub compacted : (answer ≡ Err Compacted) ↔ IsTooLate old.feed view
    pub refusals : IfErr answer RefusesMapAdvance
