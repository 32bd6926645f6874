-- Calls of a feed that a handle owns. Which class it has is known only at run time.
use Rattle.std.specs.Prelude.{◌≡◌, ◌↔◌, ◌⊎◌, ℕ, List, Result, Err, IfOk, IfErr}
use Rattle.key_class.specs.declared.refusal.Refusal.TheVariants.{BadConfig, OutOfMemory}
use Rattle.key_class.specs.declared.pred.Pred.{Pred}
use Rattle.interval_class.specs.declared.interval.Interval.{Interval}
use Rattle.interval_class.specs.declared.atom.Atom as interval
use Rattle.box_class.specs.declared.boxes.BoxKey.{BoxKey}
use Rattle.box_class.specs.declared.atom.Atom as box
use Rattle.set_class.specs.declared.elements.Elements.{Elements}
use Rattle.set_class.specs.declared.atom.Atom as set
use Rattle.change_list.specs.declared.write.Write.{Write}
use Rattle.libgist.specs.declared.denied.Denied.{Denied}
use Rattle.libgist.specs.declared.denied.Denied.TheVariants.{By, OtherClass, NoHandle}
use Rattle.libgist.specs.declared.held.AnyFeed.TheVariants as feed
use Rattle.libgist.specs.declared.held.AnySnapshot.TheVariants as snapshot
use Rattle.libgist.specs.declared.held.AnyQuery.TheVariants as query
use Rattle.libgist.specs.declared.held.Held.{Held}
use Rattle.libgist.specs.declared.held.Held.TheVariants as held
use Rattle.libgist.specs.Classes.{Meaning, IsClass, intervals, boxes, sets}
use Rattle.libgist.specs.Following.{FollowingState, new_following}

-- a feed without subscriptions, of the class with the number
abbrev pub IsNewFeedOf : ℕ → Held → Type 0
IsNewFeedOf class made =
    ((class ≡ 1) × (made ≡ held.Feed (feed.Intervals new_following))) ⊎ ((class ≡ 2) × (made ≡ held.Feed (feed.Boxes new_following))) ⊎ ((class ≡ 3) × (made ≡ held.Feed (feed.Sets new_following)))

-- a feed is made
pub record IsBeginning (class : ℕ) (made : Result Held Denied) : Type 0 where
  pub ok : IfOk made (IsNewFeedOf class)
  pub no_class : (made ≡ Err (By BadConfig)) ↔ (¬ IsClass class)
  pub refusals : IfErr made (λ why. (why ≡ By BadConfig) ⊎ (why ≡ By OutOfMemory))

module _ (V : Type 0) where
  -- what a call of a feed answers and leaves, for each class
  abbrev pub FeedCall : Type 1
  FeedCall = (K A : Type 0) → Meaning K A → FollowingState K A → Result V Denied → FollowingState K A → Type 0

  -- the same with a query
  abbrev pub SubscribingCall : Type 1
  SubscribingCall = (K A : Type 0) → Meaning K A → Pred A → FollowingState K A → Result V Denied → FollowingState K A → Type 0

  -- the same over a snapshot
  abbrev pub AdvancingCall : Type 1
  AdvancingCall = (K A : Type 0) → Meaning K A → List (Write K) → FollowingState K A → Result V Denied → FollowingState K A → Type 0

module _ {V : Type 0} where
  -- a call of a feed; anything else is refused, and nothing changes
  abbrev pub InFeed : FeedCall V → Held → Result V Denied → Held → Type 0
  InFeed call (held.Feed (feed.Intervals old)) answer (held.Feed (feed.Intervals new)) = call Interval interval.Atom intervals old answer new
  InFeed call (held.Feed (feed.Boxes old)) answer (held.Feed (feed.Boxes new)) = call BoxKey box.Atom boxes old answer new
  InFeed call (held.Feed (feed.Sets old)) answer (held.Feed (feed.Sets new)) = call Elements set.Atom sets old answer new
  InFeed call old answer new = (answer ≡ Err NoHandle) × (new ≡ old)

  -- a call of a feed with a query; it is refused if their classes differ
  abbrev pub InFeedBy : SubscribingCall V → Held → Held → Result V Denied → Held → Type 0
  InFeedBy call (held.Query (query.Intervals asked)) (held.Feed (feed.Intervals old)) answer (held.Feed (feed.Intervals new)) = call Interval interval.Atom intervals asked old answer new
  InFeedBy call (held.Query (query.Boxes asked)) (held.Feed (feed.Boxes old)) answer (held.Feed (feed.Boxes new)) = call BoxKey box.Atom boxes asked old answer new
  InFeedBy call (held.Query (query.Sets asked)) (held.Feed (feed.Sets old)) answer (held.Feed (feed.Sets new)) = call Elements set.Atom sets asked old answer new
  InFeedBy call (held.Query asked) (held.Feed old) answer new = (answer ≡ Err OtherClass) × (new ≡ held.Feed old)
  InFeedBy call asked old answer new = (answer ≡ Err NoHandle) × (new ≡ old)

  -- a call of a feed over a snapshot; it is refused if their classes differ
  abbrev pub InFeedOver : AdvancingCall V → Held → Held → Result V Denied → Held → Type 0
  InFeedOver call (held.Snapshot (snapshot.Intervals commits)) (held.Feed (feed.Intervals old)) answer (held.Feed (feed.Intervals new)) = call Interval interval.Atom intervals commits old answer new
  InFeedOver call (held.Snapshot (snapshot.Boxes commits)) (held.Feed (feed.Boxes old)) answer (held.Feed (feed.Boxes new)) = call BoxKey box.Atom boxes commits old answer new
  InFeedOver call (held.Snapshot (snapshot.Sets commits)) (held.Feed (feed.Sets old)) answer (held.Feed (feed.Sets new)) = call Elements set.Atom sets commits old answer new
  InFeedOver call (held.Snapshot commits) (held.Feed old) answer new = (answer ≡ Err OtherClass) × (new ≡ held.Feed old)
  InFeedOver call over old answer new = (answer ≡ Err NoHandle) × (new ≡ old)
