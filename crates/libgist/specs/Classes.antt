-- Calls of what a handle owns. Which class it has is known only at run time.
use Rattle.std.specs.Prelude.{◌≡◌, ◌⊎◌, ℕ, Option, None, IfSome, IsSomeAnd, List, Result, Err}
use Rattle.key_class.specs.Rules.{Rules}
use Rattle.key_class.specs.declared.pred.Pred.{Pred}
use Rattle.interval_class.specs.declared.interval.Interval.{Interval}
use Rattle.interval_class.specs.declared.atom.Atom as interval
use Rattle.interval_class.specs.Intervals.{interval_rules}
use Rattle.box_class.specs.declared.boxes.BoxKey.{BoxKey}
use Rattle.box_class.specs.declared.atom.Atom as box
use Rattle.box_class.specs.Boxes.{box_rules}
use Rattle.set_class.specs.declared.elements.Elements.{Elements}
use Rattle.set_class.specs.declared.atom.Atom as set
use Rattle.set_class.specs.Sets.{set_rules}
use Rattle.query_text.specs.ClassTexts.{Texts}
use Rattle.query_text.specs.IntervalTexts.{interval_texts}
use Rattle.query_text.specs.BoxTexts.{box_texts}
use Rattle.query_text.specs.SetTexts.{set_texts}
use Rattle.change_list.specs.declared.config.Config.{Config}
use Rattle.change_list.specs.declared.write.Write.{Write}
use Rattle.store.specs.States.{StoreState, new_store}
use Rattle.libgist.specs.declared.words.KeyWords.{KeyWords}
use Rattle.libgist.specs.declared.denied.Denied.{Denied}
use Rattle.libgist.specs.declared.denied.Denied.TheVariants.{OtherClass, NoHandle}
use Rattle.libgist.specs.declared.held.AnyStore.TheVariants as store
use Rattle.libgist.specs.declared.held.AnySnapshot.TheVariants as snapshot
use Rattle.libgist.specs.declared.held.AnyQuery.TheVariants as query
use Rattle.libgist.specs.declared.held.Held.{Held}
use Rattle.libgist.specs.declared.held.Held.TheVariants as held
use Rattle.libgist.specs.IntervalKeys.{interval_told, interval_words}
use Rattle.libgist.specs.BoxKeys.{box_told, box_words}
use Rattle.libgist.specs.SetKeys.{set_told, set_words}

-- what a class means: its rules, the texts of its queries, and its keys as two words
pub record Meaning (K A : Type 0) : Type 1 where
  pub rules : Rules K A
  pub texts : Texts K A
  pub key_of : KeyWords → Option K
  pub words_of : K → KeyWords

abbrev pub intervals : Meaning Interval interval.Atom
intervals = record { rules = interval_rules; texts = interval_texts; key_of = interval_told; words_of = interval_words }

abbrev pub boxes : Meaning BoxKey box.Atom
boxes = record { rules = box_rules; texts = box_texts; key_of = box_told; words_of = box_words }

abbrev pub sets : Meaning Elements set.Atom
sets = record { rules = set_rules; texts = set_texts; key_of = set_told; words_of = set_words }

-- a class has the number: 1 is that of intervals, 2 of boxes, 3 of sets
abbrev pub IsClass : ℕ → Type 0
IsClass class = (class ≡ 1) ⊎ (class ≡ 2) ⊎ (class ≡ 3)

-- an empty store of the class with the number
abbrev pub IsNewOf : ℕ → Config → Held → Type 0
IsNewOf class config made =
    ((class ≡ 1) × (made ≡ held.Store (store.Intervals (new_store config)))) ⊎ ((class ≡ 2) × (made ≡ held.Store (store.Boxes (new_store config)))) ⊎ ((class ≡ 3) × (made ≡ held.Store (store.Sets (new_store config))))

-- a snapshot of the commits of a store
abbrev pub IsSnapshotOf : Held → Held → Type 0
IsSnapshotOf (held.Store (store.Intervals old)) made = made ≡ held.Snapshot (snapshot.Intervals old.commits)
IsSnapshotOf (held.Store (store.Boxes old)) made = made ≡ held.Snapshot (snapshot.Boxes old.commits)
IsSnapshotOf (held.Store (store.Sets old)) made = made ≡ held.Snapshot (snapshot.Sets old.commits)
IsSnapshotOf other made = ⊥

-- whether it is a store
abbrev pub IsStore : Held → Type 0
IsStore (held.Store it) = Unit {0}
IsStore other = ⊥

module _ (V : Type 0) where
  -- what a call of a store answers and leaves, for each class
  abbrev pub StoreCall : Type 1
  StoreCall = (K A : Type 0) → Meaning K A → StoreState K A → Result V Denied → StoreState K A → Type 0

  -- what a call of a store with a query answers and leaves
  abbrev pub AskingCall : Type 1
  AskingCall = (K A : Type 0) → Meaning K A → Pred A → StoreState K A → Result V Denied → StoreState K A → Type 0

  -- what a call of a snapshot answers
  abbrev pub SnapshotCall : Type 1
  SnapshotCall = (K A : Type 0) → Meaning K A → List (Write K) → Result V Denied → Type 0

  -- what a call of a snapshot with a query answers
  abbrev pub SearchCall : Type 1
  SearchCall = (K A : Type 0) → Meaning K A → Pred A → List (Write K) → Result V Denied → Type 0

module _ {V : Type 0} where
  -- a call of a store; anything else is refused, and nothing changes
  abbrev pub InStore : StoreCall V → Held → Result V Denied → Held → Type 0
  InStore call (held.Store (store.Intervals old)) answer (held.Store (store.Intervals new)) = call Interval interval.Atom intervals old answer new
  InStore call (held.Store (store.Boxes old)) answer (held.Store (store.Boxes new)) = call BoxKey box.Atom boxes old answer new
  InStore call (held.Store (store.Sets old)) answer (held.Store (store.Sets new)) = call Elements set.Atom sets old answer new
  InStore call old answer new = (answer ≡ Err NoHandle) × (new ≡ old)

  -- a call of a store with a query; it is refused if their classes differ
  abbrev pub InStoreBy : AskingCall V → Held → Held → Result V Denied → Held → Type 0
  InStoreBy call (held.Query (query.Intervals asked)) (held.Store (store.Intervals old)) answer (held.Store (store.Intervals new)) = call Interval interval.Atom intervals asked old answer new
  InStoreBy call (held.Query (query.Boxes asked)) (held.Store (store.Boxes old)) answer (held.Store (store.Boxes new)) = call BoxKey box.Atom boxes asked old answer new
  InStoreBy call (held.Query (query.Sets asked)) (held.Store (store.Sets old)) answer (held.Store (store.Sets new)) = call Elements set.Atom sets asked old answer new
  InStoreBy call (held.Query asked) (held.Store old) answer new = (answer ≡ Err OtherClass) × (new ≡ held.Store old)
  InStoreBy call asked old answer new = (answer ≡ Err NoHandle) × (new ≡ old)

  -- a call of a snapshot; anything else is refused
  abbrev pub InSnapshot : SnapshotCall V → Held → Result V Denied → Type 0
  InSnapshot call (held.Snapshot (snapshot.Intervals commits)) answer = call Interval interval.Atom intervals commits answer
  InSnapshot call (held.Snapshot (snapshot.Boxes commits)) answer = call BoxKey box.Atom boxes commits answer
  InSnapshot call (held.Snapshot (snapshot.Sets commits)) answer = call Elements set.Atom sets commits answer
  InSnapshot call other answer = answer ≡ Err NoHandle

  -- a call of a snapshot with a query; it is refused if their classes differ
  abbrev pub InSnapshotBy : SearchCall V → Held → Held → Result V Denied → Type 0
  InSnapshotBy call (held.Query (query.Intervals asked)) (held.Snapshot (snapshot.Intervals commits)) answer = call Interval interval.Atom intervals asked commits answer
  InSnapshotBy call (held.Query (query.Boxes asked)) (held.Snapshot (snapshot.Boxes commits)) answer = call BoxKey box.Atom boxes asked commits answer
  InSnapshotBy call (held.Query (query.Sets asked)) (held.Snapshot (snapshot.Sets commits)) answer = call Elements set.Atom sets asked commits answer
  InSnapshotBy call (held.Query asked) (held.Snapshot commits) answer = answer ≡ Err OtherClass
  InSnapshotBy call asked other answer = answer ≡ Err NoHandle

  -- a call that reads what a handle owns; an empty handle is refused
  pub record FromHandle (call : Held → Result V Denied → Type 0) (state : Option Held) (answer : Result V Denied) : Type 0 where
    pub none : state ≡ None → answer ≡ Err NoHandle
    pub called : IfSome state (λ held. call held answer)

  -- a call that reads what two handles own
  pub record FromHandles (call : Held → Held → Result V Denied → Type 0) (asked state : Option Held) (answer : Result V Denied) : Type 0 where
    pub none : (asked ≡ None) ⊎ (state ≡ None) → answer ≡ Err NoHandle
    pub called : IfSome asked (λ query. IfSome state (λ held. call query held answer))

  -- a call that changes what a handle owns; an empty handle is refused, and stays empty
  pub record OnHandle (call : Held → Result V Denied → Held → Type 0) (old new : Option Held) (answer : Result V Denied) : Type 0 where
    pub none : old ≡ None → (answer ≡ Err NoHandle) × (new ≡ None)
    pub called : IfSome old (λ before. IsSomeAnd new (λ after. call before answer after))

  -- a call that changes what a handle owns, and only reads what another owns
  pub record OnHandles (call : Held → Held → Result V Denied → Held → Type 0) (asked old new : Option Held) (answer : Result V Denied) : Type 0 where
    pub none : (asked ≡ None) ⊎ (old ≡ None) → (answer ≡ Err NoHandle) × (new ≡ old)
    pub called : IfSome asked (λ query. IfSome old (λ before. IsSomeAnd new (λ after. call query before answer after)))
