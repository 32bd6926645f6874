-- Who listens to which query, while topics begin, change and end.
use Rattle.std.proofs.Common.{◌≡◌, ◌≢◌, ℕ, zero, suc, List, [], ◌∷◌, map, Option, Some, None, refl, sym, ap, ◌∙◌, arith}
use Rattle.std.specs.Prelude.{option_map, option_and_then, slice_index_or}
use Rattle.std.proofs.lemmas.Bool.Decides.{nat_tests}
use Rattle.feed.specs.declared.topics.Topic.{Topic}
use Rattle.feed.specs.Hearing.{ChangesHearing, IsHeardBy, TopicState, heard, heard_of, topic_at}
use Rattle.feed.specs.Holding.{topic_state}
use Rattle.feed.specs.Listening.{ChangesBegin, begin_of}

module _ {A : Type 0} where
  -- the topic with a number is that of the slab's slot
  pub topic_shown : (slots : List (Option (Topic A))) (number : ℕ) → topic_at (map (option_map topic_state) slots) number ≡ option_map topic_state (slice_index_or slots number None)
  topic_shown [] number = refl
  topic_shown (slot ∷ slots) zero = refl
  topic_shown (slot ∷ slots) (suc number) = topic_shown slots number

  pub some_shown : (slots : List (Option (Topic A))) (number : ℕ) (t : Topic A) → slice_index_or slots number None ≡ Some t → topic_at (map (option_map topic_state) slots) number ≡ Some (topic_state t)
  some_shown slots number t is = topic_shown slots number ∙ ap (option_map topic_state) is

  pub none_shown : (slots : List (Option (Topic A))) (number : ℕ) → slice_index_or slots number None ≡ None → topic_at (map (option_map topic_state) slots) number ≡ None
  none_shown slots number is = topic_shown slots number ∙ ap (option_map topic_state) is

  -- if slots are the same, topics are
  pub same_shown : (old new : List (Option (Topic A))) (number : ℕ) → slice_index_or new number None ≡ slice_index_or old number None → topic_at (map (option_map topic_state) new) number ≡ topic_at (map (option_map topic_state) old) number
  same_shown old new number same = topic_shown new number ∙ ap (option_map topic_state) same ∙ sym (topic_shown old number)

  -- nobody listens to a topic that doesn't exist
  pub none_heard : (topics : List (Option (TopicState A))) (number serial : ℕ) → topic_at topics number ≡ None → heard topics number serial ≡ None
  none_heard topics number serial none = ap (option_and_then (heard_of serial)) none

  pub one_heard : (topics : List (Option (TopicState A))) (number serial : ℕ) (t : TopicState A) → topic_at topics number ≡ Some t → heard topics number serial ≡ option_map (λ from. (t.query, from)) (begin_of t.listeners serial)
  one_heard topics number serial t is = ap (option_and_then (heard_of serial)) is

module _ {A : Type 0} (old new : List (Option (TopicState A))) (number serial : ℕ) (same : (other : ℕ) → other ≢ number → topic_at new other ≡ topic_at old other) where
  elsewhere_same : (other listener : ℕ) → other ≢ number → heard new other listener ≡ heard old other listener
  elsewhere_same other listener apart = ap (option_and_then (heard_of listener)) (same other apart)

  -- a listener joins or leaves a topic
  pub hearing_changed : (t u : TopicState A) (begin : Option ℕ) → topic_at old number ≡ Some t → topic_at new number ≡ Some u → u.query ≡ t.query → ChangesBegin t.listeners serial begin u.listeners
      → ChangesHearing old number serial (option_map (λ from. (t.query, from)) begin) new
  hearing_changed t u begin was is query changes = record {
    changed = one_heard new number serial u is ∙ ap (λ q. option_map (λ from. (q, from)) (begin_of u.listeners serial)) query ∙ ap (option_map (λ from. (t.query, from))) changes.changed;
    others = λ other apart.
        one_heard new number other u is ∙ ap (λ q. option_map (λ from. (q, from)) (begin_of u.listeners other)) query ∙ ap (option_map (λ from. (t.query, from))) (changes.others other apart)
        ∙ sym (one_heard old number other t was);
    elsewhere = elsewhere_same;
  }

  -- a topic begins, with its first listener
  pub hearing_begun : (u : TopicState A) (from : ℕ) → topic_at old number ≡ None → topic_at new number ≡ Some u → u.listeners ≡ (serial, from) ∷ [] → ChangesHearing old number serial (Some (u.query, from)) new
  hearing_begun u from was is alone = record {
    changed = one_heard new number serial u is ∙ ap (λ l. option_map (λ f. (u.query, f)) (begin_of l serial)) alone ∙ ap (option_map (λ f. (u.query, f))) here;
    others = λ other apart.
        one_heard new number other u is ∙ ap (λ l. option_map (λ f. (u.query, f)) (begin_of l other)) alone ∙ ap (option_map (λ f. (u.query, f))) (nowhere other apart)
        ∙ sym (none_heard old number other was);
    elsewhere = elsewhere_same;
  }
    where
      here : begin_of ((serial, from) ∷ []) serial ≡ Some from
      here = grind (arith, nat_tests)

      nowhere : (other : ℕ) → other ≢ serial → begin_of ((serial, from) ∷ []) other ≡ None
      nowhere other apart = grind (arith, nat_tests)

  -- a topic ends that has no other listener
  pub hearing_ended : topic_at new number ≡ None → IsHeardBy old number serial → ChangesHearing old number serial None new
  hearing_ended none alone = record {
    changed = none_heard new number serial none;
    others = λ other apart. none_heard new number other none ∙ sym (alone other apart);
    elsewhere = elsewhere_same;
  }
