-- What a commit gives to the subscriptions of a feed, and which topics it has to test.
use Rattle.std.specs.Prelude.{◌≡◌, ◌⊎◌, ℕ, max, nat_le, List, [], ◌++◌, map, Contains, Option, Some, None, option_to_list, if◌then◌else◌}
use Rattle.std.specs.Option.{option_map_or}
use Rattle.key_class.specs.Queries.{Query}
use Rattle.key_class.specs.Rules.{Rules, satisfies}
use Rattle.change_list.specs.declared.item.Item.{Item}
use Rattle.change_list.specs.declared.write.Write.{Write}
use Rattle.change_list.specs.Changes.{changes, item_at}
use Rattle.feed.specs.Changing.{IsChangeOf}
use Rattle.feed.specs.declared.change.Change.{Change}
use Rattle.feed.specs.Feeds.{FeedState, Subscription, items_under, subscription_of}
use Rattle.feed.specs.Hearing.{HearsAtMost, TopicState, heard, query_at}
use Rattle.feed.specs.Numberings.{commit_of}
use Rattle.feed.specs.declared.numbering.Numbering.{Numbering}

module _ {K : Type 0} where
  -- items, each under the same serial
  abbrev pub under : ℕ → List (Item K) → List (ℕ × Item K)
  under serial items = map (λ item. (serial, item)) items

module _ {K A : Type 0} where
  -- each open subscription is given what is due to it, and nothing stands under any other serial
  abbrev pub Gives : (Subscription A → List (Item K)) → FeedState A → List (ℕ × Item K) → Type 0
  Gives due feed given = (serial : ℕ) → items_under serial given ≡ option_map_or due (subscription_of feed serial) []

  -- what was appended to a list is exactly what is due
  pub record GivesInto (due : Subscription A → List (Item K)) (feed : FeedState A) (before after : List (ℕ × Item K)) : Type 0 where
    pub given : List (ℕ × Item K)
    pub is : after ≡ before ++ given
    pub gives : Gives due feed given

module _ {K A : Type 0} (rules : Rules K A) (commits : List (Write K)) where
  -- the item of commit `place + 1` for a query, if any
  abbrev pub item_for : Query A → ℕ → Option (Item K)
  item_for query place = item_at (satisfies rules query) commits place

  -- a query whose topic isn't among these has no item of commit `place + 1`
  abbrev pub AreAllConcerned : List (Option (TopicState A)) → ℕ → List ℕ → Type 0
  AreAllConcerned topics place numbers = (number : ℕ) (query : Query A) → query_at topics number ≡ Some query → (item_for query place ≡ None) ⊎ Contains numbers number

module _ {K A : Type 0} (rules : Rules K A) (numbering : Numbering) (commits : List (Write K)) where
  -- what the revision after `revision` gives to a listener that asks for the items of a query after revision n
  abbrev pub due_after : ℕ → Query A → ℕ → List (Item K)
  due_after revision query n = if nat_le n revision then option_to_list (item_for rules commits query (commit_of numbering revision)) else []

  -- what it gives to a subscription
  abbrev pub due_at : ℕ → Subscription A → List (Item K)
  due_at revision s = due_after revision s.query s.at

  -- what it gives to a listener of a query, or of none
  abbrev pub due_to : ℕ → Option (Query A × ℕ) → List (Item K)
  due_to revision hears = option_map_or (λ h. due_after revision h.0 h.1) hears []

  -- what the revisions up to n give to a subscription
  abbrev pub due_upto : ℕ → Subscription A → List (Item K)
  due_upto n s = changes (satisfies rules s.query) (commit_of numbering s.at) (commit_of numbering (max s.at n)) commits

  -- What was appended to a list: for each listener that listens only to the topic with a number, what the revision
  -- after `revision` gives it by that topic's query.
  pub record TellsCommit (topics : List (Option (TopicState A))) (revision : ℕ) (before after : List (ℕ × Item K)) : Type 0 where
    pub given : List (ℕ × Item K)
    pub is : after ≡ before ++ given
    pub gives : (number serial : ℕ) → HearsAtMost topics number serial → items_under serial given ≡ due_to revision (heard topics number serial)

module _ {K A : Type 0} (rules : Rules K A) (topics : List (Option (TopicState A))) where
  -- a query whose topic isn't among these has no item of a commit with this change
  abbrev pub AreConcerned : Change K → List ℕ → Type 0
  AreConcerned change numbers = (commits : List (Write K)) (place : ℕ) → IsChangeOf commits place change → AreAllConcerned rules commits topics place numbers

  -- what was appended to a list: for each listener of the topic with a number, what the revision after `revision` gives
  -- it, if its commit has this change
  pub record TellsTopic (number : ℕ) (change : Change K) (revision : ℕ) (before after : List (ℕ × Item K)) : Type 0 where
    pub given : List (ℕ × Item K)
    pub is : after ≡ before ++ given
    pub gives : (numbering : Numbering) (commits : List (Write K)) → IsChangeOf commits (commit_of numbering revision) change
        → (serial : ℕ) → items_under serial given ≡ due_to rules numbering commits revision (heard topics number serial)
