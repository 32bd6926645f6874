-- How a feed keeps its subscriptions and their queries.
use Rattle.std.specs.Prelude.{◌≡◌, ◌⊎◌, ℕ, ◌≤◌, max, nat_le, List, map, Contains, Option, Some, None, if◌then◌else◌, slice_index_or}
use Rattle.key_class.specs.Queries.{Query, query_of}
use Rattle.change_list.specs.declared.write.Write.{Write}
use Rattle.change_list.specs.Changes.{IsLegal}
use Rattle.feed.specs.Reaches.{reaches_of}
use Rattle.world.specs.Serials.{Rise, member}
use Rattle.feed.specs.declared.registration.Registration.{Registration}
use Rattle.feed.specs.declared.topics.Topic.{Topic}
use Rattle.feed.specs.Feeds.{FeedState, Subscription}
use Rattle.feed.specs.Hearing.{TopicState, heard}
use Rattle.feed.specs.Planting.{HasRows, AreTagged}

module _ {A : Type 0} where
  abbrev pub serial_of : ℕ × Registration A → ℕ
  serial_of s = s.0

  -- up to which commit a subscription was given everything, if the feed has reached `upto`, and the subscriptions up
  -- to the serial `passed` were given what they had missed
  abbrev pub shown_at : ℕ → ℕ → ℕ × Registration A → ℕ
  shown_at upto passed s = if nat_le s.0 passed then max s.1.from upto else s.1.from

  abbrev pub shown : ℕ → ℕ → ℕ × Registration A → Subscription A
  shown upto passed s = record { serial = s.0; query = query_of s.1.query; at = shown_at upto passed s }

  abbrev pub feed_state : ℕ → ℕ → ℕ → List (ℕ × Registration A) → FeedState A
  feed_state upto passed last registrations = record { upto = upto; subscriptions = map (shown upto passed) registrations; last = last }

  abbrev pub topic_state : Topic A → TopicState A
  topic_state t = record { query = query_of t.query; listeners = t.listeners }

  -- some subscription listens to the topic with a number
  pub record IsListener (registrations : List (ℕ × Registration A)) (number serial : ℕ) : Type 0 where
    pub registration : ℕ × Registration A
    pub is : member serial_of serial registrations ≡ Some registration
    pub topic : registration.1.topic ≡ number

  -- Serials rise. Each subscription listens to its query after its first commit, and nobody else listens to anything.
  pub record IsHolding (topics : List (Option (TopicState A))) (passed last : ℕ) (registrations : List (ℕ × Registration A)) : Type 0 where
    pub rise : Rise serial_of 0 last registrations
    pub passed_given : passed ≤ last
    pub listens : (serial : ℕ) (s : ℕ × Registration A) → member serial_of serial registrations ≡ Some s → heard topics s.1.topic serial ≡ Some (query_of s.1.query, s.1.from)
    pub nobody_else : (number serial : ℕ) → (heard topics number serial ≡ None) ⊎ IsListener registrations number serial

module _ {K A : Type 0} (reach_of : A → Option K) (size_of : K → ℕ) where
  -- under each key under which a query is looked for there is a live row with the topic's number
  pub record IsPlantedIn (commits : List (Write K)) (query : Query A) (number : ℕ) : Type 0 where
    pub keys : List K
    pub reaches : reaches_of reach_of size_of query ≡ Some keys
    pub rows : HasRows commits number keys

  -- the query was planted in the tree, and the rows with these numbers are tagged with its topic's number
  pub record IsRooted (commits : List (Write K)) (query : Query A) (number : ℕ) (rows : List ℕ) : Type 0 where
    pub planted : IsPlantedIn commits query number
    pub tagged : AreTagged commits number rows

  -- the query was planted, or it can't be
  abbrev pub MayBeRooted : List (Write K) → Query A → ℕ → Option (List ℕ) → Type 0
  MayBeRooted commits query number (Some rows) = IsRooted commits query number rows
  MayBeRooted commits query number None = Unit {0}

  -- every commit tests the query, or it was planted in the tree
  abbrev pub IsAsked : List (Write K) → List ℕ → Query A → ℕ → Type 0
  IsAsked commits always query number = Contains always number ⊎ IsPlantedIn commits query number

  -- the query is registered so now, and topics that every commit tested still are tested so
  pub record IsEnrolled (commits : List (Write K)) (query : Query A) (number : ℕ) (before after : List ℕ) : Type 0 where
    pub asked : IsAsked commits after query number
    pub stay : (other : ℕ) → Contains before other → Contains after other

  -- every topic's query is registered so
  pub record AreEnrolled (commits : List (Write K)) (always : List ℕ) (topics : List (Option (Topic A))) : Type 0 where
    pub legal : IsLegal commits
    pub asked : (number : ℕ) (t : Topic A) → slice_index_or topics number None ≡ Some t → IsAsked commits always (query_of t.query) number
