-- What contracts see of a feed, and what its calls do to it.
use Rattle.std.specs.Prelude.{◌≡◌, ◌⊎◌, ℕ, ◌+◌, ◌<◌, ◌≤◌, max, min, not, nat_eq, nat_lt, Bool, IsTrue, List, [], ◌∷◌, ◌++◌, length, map, filter, find, Option, Some, None}
use Rattle.std.specs.List.{list_any}
use Rattle.key_class.specs.Limits.{greatest_serial, most_depth, most_subscriptions}
use Rattle.key_class.specs.Queries.{Query, depth_of}
use Rattle.key_class.specs.Rules.{Rules, satisfies}
use Rattle.key_class.specs.declared.refusal.Refusal.{Refusal}
use Rattle.key_class.specs.declared.refusal.Refusal.TheVariants as refusal
use Rattle.change_list.specs.declared.item.Item.{Item}
use Rattle.change_list.specs.declared.write.Write.{Write}
use Rattle.change_list.specs.Listings.{AreChanges}
use Rattle.feed.specs.Numberings.{commit_of, last_revision}
use Rattle.feed.specs.declared.numbering.Numbering.{Numbering}

-- an open subscription
pub record Subscription (A : Type 0) : Type 0 where
  pub serial : ℕ
  pub query : Query A
  -- the changes up to this commit were given, or weren't asked for
  pub at : ℕ

pub record FeedState (A : Type 0) : Type 0 where
  -- the last commit that it went over
  pub upto : ℕ
  -- the open subscriptions, by rising serial
  pub subscriptions : List (Subscription A)
  -- the last serial that was given
  pub last : ℕ

module _ {A : Type 0} where
  -- a feed that has gone over no commit, without subscriptions
  abbrev pub new_feed : FeedState A
  new_feed = record { upto = 0; subscriptions = []; last = 0 }

  -- the open subscription with a serial
  abbrev pub subscription_of : FeedState A → ℕ → Option (Subscription A)
  subscription_of feed serial = find (λ s. nat_eq s.serial serial) feed.subscriptions

  -- no further subscription can be opened
  abbrev pub HasAllSubscriptions : FeedState A → Type 0
  HasAllSubscriptions feed = (most_subscriptions ≤ length feed.subscriptions) ⊎ (greatest_serial ≤ feed.last)

  -- the query is in range, but no further subscription can be opened
  abbrev pub HasNoPlaceFor : FeedState A → Query A → Type 0
  HasNoPlaceFor feed query = (depth_of query ≤ most_depth) × HasAllSubscriptions feed

  -- the feed with one more subscription, to a query's changes after commit n, under the next serial
  abbrev pub with_subscription : FeedState A → Query A → ℕ → FeedState A
  with_subscription feed query n = record feed {
    subscriptions = feed.subscriptions ++ (record { serial = feed.last + 1; query = query; at = n }) ∷ [];
    last = feed.last + 1;
  }

  -- the feed without the subscription that has this serial
  abbrev pub without_subscription : FeedState A → ℕ → FeedState A
  without_subscription feed serial = record feed { subscriptions = filter (λ s. not (nat_eq s.serial serial)) feed.subscriptions }

  -- a subscription once all its changes up to commit n are given; one that begins later is unchanged
  abbrev pub given_upto : ℕ → Subscription A → Subscription A
  given_upto n s = record s { at = max s.at n }

  -- the feed once each subscription has its changes up to commit n
  abbrev pub acknowledged : ℕ → FeedState A → FeedState A
  acknowledged n feed = record feed { upto = n; subscriptions = map (given_upto n) feed.subscriptions }

  -- a subscription by the commits of a store that make its revisions
  abbrev pub in_commits : Numbering → Subscription A → Subscription A
  in_commits numbering s = record s { at = commit_of numbering s.at }

  -- a subscription needs the changes after a revision before this one
  abbrev pub needs_before : ℕ → Subscription A → Bool
  needs_before oldest s = nat_lt s.at oldest

  -- the snapshot goes far enough for the feed, but some open subscription needs changes from before its oldest revision
  pub record IsCompacted {K : Type 0} (numbering : Numbering) (commits : List (Write K)) (feed : FeedState A) : Type 0 where
    pub upto : feed.upto ≤ last_revision numbering commits
    pub needed : IsTrue (list_any (needs_before numbering.oldest) feed.subscriptions)

  -- the serials of the open subscriptions that need the changes after a revision before this one
  abbrev pub compacted_serials : ℕ → FeedState A → List ℕ
  compacted_serials oldest feed = map (λ s. s.serial) (filter (needs_before oldest) feed.subscriptions)

-- why no subscription is opened
abbrev pub RefusesSubscription : Refusal → Type 0
RefusesSubscription why = (why ≡ refusal.BadConfig) ⊎ (why ≡ refusal.FeedFull) ⊎ (why ≡ refusal.OutOfMemory)

-- why a feed doesn't go on
abbrev pub RefusesAdvance : Refusal → Type 0
RefusesAdvance why = (why ≡ refusal.FromFuture) ⊎ (why ≡ refusal.Compacted) ⊎ (why ≡ refusal.OutOfMemory)

module _ {K : Type 0} where
  -- the items under a serial, in order
  abbrev pub items_under : ℕ → List (ℕ × Item K) → List (Item K)
  items_under serial given = map (λ g. g.1) (filter (λ g. nat_eq g.0 serial) given)

module _ {K A : Type 0} (rules : Rules K A) where
  -- a subscription is given the changes of its query after commit `at` up to commit n; nothing, if it begins after n
  pub record IsGivenUpto (commits : List (Write K)) (n : ℕ) (s : Subscription A) (items : List (Item K)) : Type 0 where
    pub changes : s.at ≤ n → AreChanges (satisfies rules s.query) s.at n commits items
    pub later : n < s.at → items ≡ []

  -- The feed goes over at most `most` further commits. Each open subscription is given its changes up to the commit
  -- that the feed then reached, under its serial. Nothing is given under any other serial.
  pub record Advances (old : FeedState A) (commits : List (Write K)) (most : ℕ) (given : List (ℕ × Item K)) (new : FeedState A) : Type 0 where
    pub upto : new.upto ≡ min (old.upto + most) (length commits)
    pub subscriptions : new.subscriptions ≡ map (given_upto new.upto) old.subscriptions
    pub last : new.last ≡ old.last
    pub each : (serial : ℕ) (s : Subscription A) → subscription_of old serial ≡ Some s → IsGivenUpto commits new.upto s (items_under serial given)
    pub no_others : (serial : ℕ) → subscription_of old serial ≡ None → items_under serial given ≡ []

  -- what was appended to a list is what the feed gives as it goes on
  pub record AdvancesInto (old : FeedState A) (commits : List (Write K)) (most : ℕ) (before after : List (ℕ × Item K)) (new : FeedState A) : Type 0 where
    pub given : List (ℕ × Item K)
    pub is : after ≡ before ++ given
    pub advances : Advances old commits most given new

  -- The same by revisions, at commits that are numbered so. A feed that is behind the oldest revision goes on from there.
  pub record AdvancesBy (numbering : Numbering) (old : FeedState A) (commits : List (Write K)) (most : ℕ) (given : List (ℕ × Item K)) (new : FeedState A) : Type 0 where
    pub upto : new.upto ≡ min (max numbering.oldest old.upto + most) (last_revision numbering commits)
    pub subscriptions : new.subscriptions ≡ map (given_upto new.upto) old.subscriptions
    pub last : new.last ≡ old.last
    pub each : (serial : ℕ) (s : Subscription A) → subscription_of old serial ≡ Some s → IsGivenUpto commits (commit_of numbering new.upto) (in_commits numbering s) (items_under serial given)
    pub no_others : (serial : ℕ) → subscription_of old serial ≡ None → items_under serial given ≡ []

  -- what was appended to a list is what the feed gives as it goes on so
  pub record AdvancesByInto (numbering : Numbering) (old : FeedState A) (commits : List (Write K)) (most : ℕ) (before after : List (ℕ × Item K)) (new : FeedState A) : Type 0 where
    pub given : List (ℕ × Item K)
    pub is : after ≡ before ++ given
    pub advances : AdvancesBy numbering old commits most given new
