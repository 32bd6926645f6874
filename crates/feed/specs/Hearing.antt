-- Topics: the queries that subscriptions listen to, each under a number, and their listeners.
use Rattle.std.specs.Prelude.{◌≡◌, ◌≢◌, ℕ, List, Option, None, option_map, option_and_then, slice_index_or}
use Rattle.key_class.specs.Queries.{Query}
use Rattle.feed.specs.Listening.{begin_of}

pub record TopicState (A : Type 0) : Type 0 where
  pub query : Query A
  -- each listener's serial, and the commit after which it asks for items
  pub listeners : List (ℕ × ℕ)

module _ {A : Type 0} where
  -- the topic with a number
  abbrev pub topic_at : List (Option (TopicState A)) → ℕ → Option (TopicState A)
  topic_at topics number = slice_index_or topics number None

  abbrev pub query_at : List (Option (TopicState A)) → ℕ → Option (Query A)
  query_at topics number = option_map (λ t. t.query) (topic_at topics number)

  abbrev pub heard_of : ℕ → TopicState A → Option (Query A × ℕ)
  heard_of serial t = option_map (λ from. (t.query, from)) (begin_of t.listeners serial)

  -- the query with a number, and the commit after which the listener with a serial asks for its items, if it listens
  -- to it
  abbrev pub heard : List (Option (TopicState A)) → ℕ → ℕ → Option (Query A × ℕ)
  heard topics number serial = option_and_then (heard_of serial) (topic_at topics number)

  -- this is what the listener with a serial now has under a topic; what others have, and what it has under other
  -- topics, is unchanged
  pub record ChangesHearing (old : List (Option (TopicState A))) (number serial : ℕ) (what : Option (Query A × ℕ)) (new : List (Option (TopicState A))) : Type 0 where
    pub changed : heard new number serial ≡ what
    pub others : (other : ℕ) → other ≢ serial → heard new number other ≡ heard old number other
    pub elsewhere : (other listener : ℕ) → other ≢ number → heard new other listener ≡ heard old other listener

  -- no other listener has the topic with a number
  abbrev pub IsHeardBy : List (Option (TopicState A)) → ℕ → ℕ → Type 0
  IsHeardBy topics number serial = (other : ℕ) → other ≢ serial → heard topics number other ≡ None

  -- the listener has no other topic
  abbrev pub HearsAtMost : List (Option (TopicState A)) → ℕ → ℕ → Type 0
  HearsAtMost topics number serial = (other : ℕ) → other ≢ number → heard topics other serial ≡ None
