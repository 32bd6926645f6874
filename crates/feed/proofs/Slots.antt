-- Topics in their slab while one of its slots changes.
use Rattle.std.proofs.Common.{◌≡◌, ◌≢◌, ℕ, List, map, Option, Some, Result, Ok, Err, refl, sym, ap, ◌∙◌, subst}
use Rattle.std.specs.Prelude.{IsSome, OnOk, option_map}
use Rattle.slab.specs.Slab.{Slab, Updates, get, with_value}
use Rattle.slab.proofs.SlabLemmas.{Updates-with_value}
use Rattle.key_class.specs.Queries.{Query, query_of}
use Rattle.feed.specs.declared.topics.Topic.{Topic}
use Rattle.feed.specs.Hearing.{ChangesHearing, TopicState, query_at, topic_at}
use Rattle.feed.specs.Holding.{topic_state}
use Rattle.feed.specs.Listening.{ChangesBegin}
use Rattle.feed.proofs.Hearing.{hearing_changed, same_shown, some_shown}

-- both hold if there is a value
pub both_ok : {T E : Type 0} (P Q : Type 0) (r : Result T E) → OnOk r P → OnOk r Q → OnOk r (P × Q)
both_ok P Q (Ok value) p q = (p, q)
both_ok P Q (Err why) p q = tt

module _ {A : Type 0} where
  abbrev pub states : List (Option (Topic A)) → List (Option (TopicState A))
  states slots = map (option_map topic_state) slots

  pub same_elsewhere : (s n : Slab (Topic A)) (number : ℕ) (slot : Option (Topic A)) → Updates s n number slot → (other : ℕ) → other ≢ number → topic_at (states n.slots) other ≡ topic_at (states s.slots) other
  same_elsewhere s n number slot up other apart = same_shown s.slots n.slots other (up.others other apart)

  -- the query that a slot has
  pub query_there : (s : Slab (Topic A)) (number : ℕ) (t : Topic A) (topics : List (Option (TopicState A))) (query : Query A) → states s.slots ≡ topics → get s number ≡ Some t → query_at topics number ≡ Some query → query_of t.query ≡ query
  query_there s number t topics query view was asked =
      let there : query_at topics number ≡ Some (query_of t.query) = ap (λ o. query_at o number) (sym view) ∙ ap (option_map (λ (x : TopicState A). x.query)) (some_shown s.slots number t was) in
      let one : Some (query_of t.query) ≡ Some query = sym there ∙ asked in
      cc

  -- a value was written to a slot that has one
  pub written : (s : Slab (Topic A)) (number : ℕ) (t u : Topic A) → get s number ≡ Some t → Updates s (with_value s number u) number (Some u)
  written s number t u was = Updates-with_value s number u (subst (λ o. IsSome o) (sym was) refl)

  pub listeners_changed : (s n : Slab (Topic A)) (number serial : ℕ) (t u : Topic A) (begin : Option ℕ) → get s number ≡ Some t → Updates s n number (Some u) → query_of u.query ≡ query_of t.query → ChangesBegin t.listeners serial begin u.listeners
      → ChangesHearing (states s.slots) number serial (option_map (λ from. (query_of t.query, from)) begin) (states n.slots)
  listeners_changed s n number serial t u begin was up query changes =
      hearing_changed (states s.slots) (states n.slots) number serial (same_elsewhere s n number (Some u) up) (topic_state t) (topic_state u) begin (some_shown s.slots number t was) (some_shown n.slots number u up.changed) query changes
