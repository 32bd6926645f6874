-- A feed with the items that it delivered but C hasn't taken yet, and what its calls answer and leave.
use Rattle.std.specs.Prelude.{◌≡◌, ◌≢◌, ◌↔◌, ℕ, ◌+◌, ◌<◌, min, List, [], ◌∷◌, length, map, drop, None, Result, Err, IfOk, IfErr, OnOk, OnErr}
use Rattle.key_class.specs.declared.refusal.Refusal.{Refusal}
use Rattle.key_class.specs.declared.refusal.Refusal.TheVariants.{BadConfig, FeedFull, FromFuture, NotSubscribed, OutOfMemory}
use Rattle.key_class.specs.declared.pred.Pred.{Pred}
use Rattle.key_class.specs.Queries.{query_of, depth_of}
use Rattle.key_class.specs.Refusals.{IsEither}
use Rattle.key_class.specs.Rules.{Rules}
use Rattle.change_list.specs.declared.item.Item.{Item}
use Rattle.change_list.specs.declared.write.Write.{Write}
use Rattle.feed.specs.Feeds.{FeedState, AdvancesInto, HasNoPlaceFor, RefusesSubscription, new_feed, subscription_of, with_subscription, without_subscription}
use Rattle.libgist.specs.declared.words.KeyWords.{KeyWords}
use Rattle.libgist.specs.declared.words.ToldItem.{ToldItem}
use Rattle.search.specs.Fills.{written_over}
use Rattle.libgist.specs.Shown.{shown_item}

pub record FollowingState (K A : Type 0) : Type 0 where
  pub feed : FeedState A
  -- the items that it delivered but that weren't taken, each under the serial of its subscription
  pub waiting : List (ℕ × Item K)

module _ {K A : Type 0} where
  abbrev pub new_following : FollowingState K A
  new_following = record { feed = new_feed; waiting = [] }

  abbrev pub with_feed : FollowingState K A → FeedState A → FollowingState K A
  with_feed old feed = record { feed = feed; waiting = old.waiting }

  -- a query is subscribed to
  pub record IsSubscribing (query : Pred A) (from : ℕ) (old : FollowingState K A) (answer : Result ℕ Refusal) (new : FollowingState K A) : Type 0 where
    pub serial : IfOk answer (λ serial. serial ≡ old.feed.last + 1)
    pub ok : OnOk answer (new ≡ with_feed old (with_subscription old.feed (query_of query) from))
    pub err : OnErr answer (new ≡ old)
    pub depth : answer ≢ Err OutOfMemory → (answer ≡ Err BadConfig) ↔ (32 < depth_of (query_of query))
    pub full : answer ≢ Err OutOfMemory → (answer ≡ Err FeedFull) ↔ HasNoPlaceFor old.feed (query_of query)
    pub refusals : IfErr answer RefusesSubscription

  -- a subscription is ended
  pub record IsUnsubscribing (serial : ℕ) (old : FollowingState K A) (answer : Result (Unit {0}) Refusal) (new : FollowingState K A) : Type 0 where
    pub ok : OnOk answer (new ≡ with_feed old (without_subscription old.feed serial))
    pub err : OnErr answer (new ≡ old)
    pub none : (answer ≡ Err NotSubscribed) ↔ (subscription_of old.feed serial ≡ None)
    pub refusal : IfErr answer (λ why. why ≡ NotSubscribed)

module _ {K : Type 0} (words_of : K → KeyWords) (commits : List (Write K)) where
  -- an item for a subscription, in the layout that C reads
  abbrev pub told_item : ℕ × Item K → ToldItem
  told_item given = record { serial = given.0; item = shown_item words_of commits given.1 }

  -- the items that wait are counted and stand over the first places of a buffer, as far as they fit; the rest still
  -- wait
  pub record GivesWaiting {A : Type 0} (before after : List ToldItem) (old new : FollowingState K A) (told : ℕ × ℕ) : Type 0 where
    pub counted : told.0 ≡ min (length old.waiting) (length before)
    pub written : after ≡ written_over (map told_item old.waiting) before
    pub rest : new.waiting ≡ drop told.0 old.waiting
    pub feed_stays : new.feed ≡ old.feed
    pub upto : told.1 ≡ new.feed.upto

-- how many further commits a call may process: `most`, but none while items wait
abbrev pub commits_allowed : {X : Type 0} → ℕ → List X → ℕ
commits_allowed most [] = most
commits_allowed most (it ∷ its) = 0

module _ {K A : Type 0} (rules : Rules K A) (allowed : ℕ) (commits : List (Write K)) where
  -- the feed processes further commits, and its items wait after those that wait already
  abbrev pub GoesOn : FollowingState K A → FollowingState K A → Type 0
  GoesOn old new = AdvancesInto rules old.feed commits allowed old.waiting new.waiting new.feed

module _ {K A : Type 0} (rules : Rules K A) (words_of : K → KeyWords) (most : ℕ) (commits : List (Write K)) where
  -- the feed goes on as far as it may, and delivers the items that then wait
  pub record Gives (before after : List ToldItem) (old new : FollowingState K A) (told : ℕ × ℕ) : Type 0 where
    pub between : FollowingState K A
    pub goes_on : GoesOn rules (commits_allowed most old.waiting) commits old between
    pub gives : GivesWaiting words_of commits before after between new told

  -- the feed is asked to go on over a snapshot and to deliver items
  pub record IsAdvancing (before after : List ToldItem) (old : FollowingState K A) (answer : Result (ℕ × ℕ) Refusal) (new : FollowingState K A) : Type 0 where
    pub ok : IfOk answer (Gives before after old new)
    pub err : OnErr answer (new ≡ old)
    pub unfilled : OnErr answer (after ≡ before)
    pub future : (answer ≡ Err FromFuture) ↔ (length commits < old.feed.upto)
    pub refusals : IfErr answer (IsEither FromFuture OutOfMemory)
