-- Calls of a map's feed that a handle owns. Which class it has is known only at run time.
use Rattle.std.specs.Prelude.{◌≡◌, ℕ, List, Result, Err}
use Rattle.key_class.specs.declared.pred.Pred.{Pred}
use Rattle.interval_class.specs.declared.interval.Interval.{Interval}
use Rattle.interval_class.specs.declared.atom.Atom as interval
use Rattle.box_class.specs.declared.boxes.BoxKey.{BoxKey}
use Rattle.box_class.specs.declared.atom.Atom as box
use Rattle.set_class.specs.declared.elements.Elements.{Elements}
use Rattle.set_class.specs.declared.atom.Atom as set
use Rattle.map.specs.Kept.{MapView}
use Rattle.libgist.specs.declared.denied.Denied.{Denied}
use Rattle.libgist.specs.declared.denied.Denied.TheVariants.{OtherClass, NoHandle}
use Rattle.libgist.specs.declared.held.AnyMapFeed.TheVariants as feed
use Rattle.libgist.specs.declared.held.AnyMapSnapshot.TheVariants as snapshot
use Rattle.libgist.specs.declared.held.AnyQuery.TheVariants as query
use Rattle.libgist.specs.declared.held.Held.{Held}
use Rattle.libgist.specs.declared.held.Held.TheVariants as held
use Rattle.libgist.specs.declared.words.ToldMapItem.{ToldMapItem}
use Rattle.libgist.specs.Calls.{Passing}
use Rattle.libgist.specs.Classes.{Meaning, intervals, boxes, sets}
use Rattle.libgist.specs.Denials.{PassesOn}
use Rattle.libgist.specs.MapFollowing.{IsMapAdvancing, IsMapSubscribing, IsTellingCompacted, MapFollowingState}

module _ (V : Type 0) where
  -- what a call of a map's feed answers and leaves, for each class
  abbrev pub MapFeedCall : Type 1
  MapFeedCall = (K A : Type 0) → Meaning K A → MapFollowingState K A → Result V Denied → MapFollowingState K A → Type 0

  -- the same if it only reads the feed
  abbrev pub MapFeedQuestion : Type 1
  MapFeedQuestion = (K A : Type 0) → Meaning K A → MapFollowingState K A → Result V Denied → Type 0

  -- the same with a query
  abbrev pub MapSubscribingCall : Type 1
  MapSubscribingCall = (K A : Type 0) → Meaning K A → Pred A → MapFollowingState K A → Result V Denied → MapFollowingState K A → Type 0

  -- the same over a snapshot
  abbrev pub MapAdvancingCall : Type 1
  MapAdvancingCall = (K A : Type 0) → Meaning K A → MapView K → MapFollowingState K A → Result V Denied → MapFollowingState K A → Type 0

module _ {V : Type 0} where
  -- a call of a map's feed; anything else is refused, and nothing changes
  abbrev pub InMapFeed : MapFeedCall V → Held → Result V Denied → Held → Type 0
  InMapFeed call (held.MapFeed (feed.Intervals old)) answer (held.MapFeed (feed.Intervals new)) = call Interval interval.Atom intervals old answer new
  InMapFeed call (held.MapFeed (feed.Boxes old)) answer (held.MapFeed (feed.Boxes new)) = call BoxKey box.Atom boxes old answer new
  InMapFeed call (held.MapFeed (feed.Sets old)) answer (held.MapFeed (feed.Sets new)) = call Elements set.Atom sets old answer new
  InMapFeed call old answer new = (answer ≡ Err NoHandle) × (new ≡ old)

  -- a call that only reads a map's feed; anything else is refused
  abbrev pub OfMapFeed : MapFeedQuestion V → Held → Result V Denied → Type 0
  OfMapFeed call (held.MapFeed (feed.Intervals following)) answer = call Interval interval.Atom intervals following answer
  OfMapFeed call (held.MapFeed (feed.Boxes following)) answer = call BoxKey box.Atom boxes following answer
  OfMapFeed call (held.MapFeed (feed.Sets following)) answer = call Elements set.Atom sets following answer
  OfMapFeed call other answer = answer ≡ Err NoHandle

  -- a call of a map's feed with a query; it is refused if their classes differ
  abbrev pub InMapFeedBy : MapSubscribingCall V → Held → Held → Result V Denied → Held → Type 0
  InMapFeedBy call (held.Query (query.Intervals asked)) (held.MapFeed (feed.Intervals old)) answer (held.MapFeed (feed.Intervals new)) = call Interval interval.Atom intervals asked old answer new
  InMapFeedBy call (held.Query (query.Boxes asked)) (held.MapFeed (feed.Boxes old)) answer (held.MapFeed (feed.Boxes new)) = call BoxKey box.Atom boxes asked old answer new
  InMapFeedBy call (held.Query (query.Sets asked)) (held.MapFeed (feed.Sets old)) answer (held.MapFeed (feed.Sets new)) = call Elements set.Atom sets asked old answer new
  InMapFeedBy call (held.Query asked) (held.MapFeed old) answer new = (answer ≡ Err OtherClass) × (new ≡ held.MapFeed old)
  InMapFeedBy call asked old answer new = (answer ≡ Err NoHandle) × (new ≡ old)

  -- a call of a map's feed over a snapshot; it is refused if their classes differ
  abbrev pub InMapFeedOver : MapAdvancingCall V → Held → Held → Result V Denied → Held → Type 0
  InMapFeedOver call (held.MapSnapshot (snapshot.Intervals view)) (held.MapFeed (feed.Intervals old)) answer (held.MapFeed (feed.Intervals new)) = call Interval interval.Atom intervals view old answer new
  InMapFeedOver call (held.MapSnapshot (snapshot.Boxes view)) (held.MapFeed (feed.Boxes old)) answer (held.MapFeed (feed.Boxes new)) = call BoxKey box.Atom boxes view old answer new
  InMapFeedOver call (held.MapSnapshot (snapshot.Sets view)) (held.MapFeed (feed.Sets old)) answer (held.MapFeed (feed.Sets new)) = call Elements set.Atom sets view old answer new
  InMapFeedOver call (held.MapSnapshot view) (held.MapFeed old) answer new = (answer ≡ Err OtherClass) × (new ≡ held.MapFeed old)
  InMapFeedOver call over old answer new = (answer ≡ Err NoHandle) × (new ≡ old)

-- the subscriptions that need items from before a revision
abbrev pub AnswersCompacted : ℕ → List ℕ → List ℕ → Held → Result ℕ Denied → Type 0
AnswersCompacted oldest before after = OfMapFeed (λ K A class following. PassesOn (IsTellingCompacted oldest before after following))

-- a map's feed gets another subscription, or goes on over a snapshot
abbrev pub AnswersMapSubscribing : ℕ → Held → Held → Result ℕ Denied → Held → Type 0
AnswersMapSubscribing from = InMapFeedBy (λ K A class query. Passing (IsMapSubscribing query from))

abbrev pub AnswersMapAdvancing : ℕ → List ToldMapItem → List ToldMapItem → Held → Held → Result (ℕ × ℕ) Denied → Held → Type 0
AnswersMapAdvancing most before after = InMapFeedOver (λ K A class view. Passing (IsMapAdvancing class.rules class.words_of most view before after))
