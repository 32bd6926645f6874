-- What calls of a map's snapshot answer. Which class its keys have is known only at run time.
use Rattle.std.specs.Prelude.{◌≡◌, ◌↔◌, ℕ, ◌<◌, List, [], length, map, Result, Ok, Err, IfOk, IfErr, OnOk, OnErr}
use Rattle.key_class.specs.declared.refusal.Refusal.{Refusal}
use Rattle.key_class.specs.declared.refusal.Refusal.TheVariants.{BadConfig, OutOfMemory, Compacted, FromFuture}
use Rattle.key_class.specs.declared.pred.Pred.{Pred}
use Rattle.key_class.specs.Queries.{query_of, depth_of}
use Rattle.key_class.specs.Refusals.{IsEither}
use Rattle.key_class.specs.Rules.{Rules, satisfies}
use Rattle.interval_class.specs.declared.interval.Interval.{Interval}
use Rattle.interval_class.specs.declared.atom.Atom as interval
use Rattle.box_class.specs.declared.boxes.BoxKey.{BoxKey}
use Rattle.box_class.specs.declared.atom.Atom as box
use Rattle.set_class.specs.declared.elements.Elements.{Elements}
use Rattle.set_class.specs.declared.atom.Atom as set
use Rattle.search.specs.Fills.{written_over}
use Rattle.revisions.specs.declared.item.MapItem.{MapItem}
use Rattle.revisions.specs.Maps.{MapState, entries_of}
use Rattle.map.specs.Kept.{MapView}
use Rattle.map.specs.Snapshots.{AppendsItems, AreWrittenAs, IsCompacted, IsFromFuture, RefusesChanges, found_in_map}
use Rattle.libgist.specs.declared.denied.Denied.{Denied}
use Rattle.libgist.specs.declared.denied.Denied.TheVariants.{OtherClass, NoHandle}
use Rattle.libgist.specs.declared.figures.MapFigures.{MapFigures}
use Rattle.libgist.specs.declared.held.AnyMapSnapshot.TheVariants as snapshot
use Rattle.libgist.specs.declared.held.AnyQuery.TheVariants as query
use Rattle.libgist.specs.declared.held.Held.{Held}
use Rattle.libgist.specs.declared.held.Held.TheVariants as held
use Rattle.libgist.specs.declared.words.KeyWords.{KeyWords}
use Rattle.libgist.specs.declared.words.ShownEntry.{ShownEntry}
use Rattle.libgist.specs.declared.words.ShownMapItem.{ShownMapItem}
use Rattle.libgist.specs.Classes.{Meaning, intervals, boxes, sets}
use Rattle.libgist.specs.Denials.{PassesOn}
use Rattle.libgist.specs.MapShown.{map_figures, shown_entry, shown_map_item}

module _ {K A : Type 0} (rules : Rules K A) (words_of : K → KeyWords) (query : Pred A) (kept : MapState K) where
  -- the entries that match are counted, and stand over the first places of a buffer, in the order of their last put
  pub record IsMapFind (before after : List ShownEntry) (answer : Result ℕ Refusal) : Type 0 where
    pub counted : IfOk answer (λ n. n ≡ length (found_in_map rules query kept))
    pub written : OnOk answer (after ≡ written_over (map (shown_entry words_of) (found_in_map rules query kept)) before)
    pub unfilled : OnErr answer (after ≡ before)
    pub depth : (answer ≡ Err BadConfig) ↔ (32 < depth_of (query_of query))
    pub refusals : IfErr answer (IsEither BadConfig OutOfMemory)

  -- the same in any order
  pub record IsMapFindAny (before after : List ShownEntry) (answer : Result ℕ Refusal) : Type 0 where
    pub written : IfOk answer (AreWrittenAs (shown_entry words_of) (found_in_map rules query kept) before after)
    pub unfilled : OnErr answer (after ≡ before)
    pub depth : (answer ≡ Err BadConfig) ↔ (32 < depth_of (query_of query))
    pub refusals : IfErr answer (λ why. why ≡ BadConfig)

  -- The items of the revisions after `from`, up to another revision, are counted and stand over the first places of a
  -- buffer. That revision is the last one, or the buffer is full.
  pub record GivesItems (from : ℕ) (before after : List ShownMapItem) (told : ℕ × ℕ) : Type 0 where
    pub items : List (MapItem K)
    pub gives : AppendsItems (satisfies rules (query_of query)) from (length before) kept [] items told.1
    pub counted : told.0 ≡ length items
    pub written : after ≡ written_over (map (shown_map_item words_of) items) before

  -- the items after a revision are asked for
  pub record IsMapChanges (from : ℕ) (before after : List ShownMapItem) (answer : Result (ℕ × ℕ) Refusal) : Type 0 where
    pub ok : IfOk answer (GivesItems from before after)
    pub unfilled : OnErr answer (after ≡ before)
    pub depth : (answer ≡ Err BadConfig) ↔ (32 < depth_of (query_of query))
    pub compacted : (answer ≡ Err Compacted) ↔ IsCompacted (query_of query) kept from
    pub future : (answer ≡ Err FromFuture) ↔ IsFromFuture (query_of query) kept from
    pub refusals : IfErr answer RefusesChanges

module _ {K A : Type 0} (rules : Rules K A) (query : Pred A) (kept : MapState K) where
  -- the entries that match are counted
  pub record IsMapCount (answer : Result ℕ Refusal) : Type 0 where
    pub counted : IfOk answer (λ n. n ≡ length (found_in_map rules query kept))
    pub depth : (answer ≡ Err BadConfig) ↔ (32 < depth_of (query_of query))
    pub refusals : IfErr answer (λ why. why ≡ BadConfig)

module _ {K : Type 0} (words_of : K → KeyWords) (kept : MapState K) where
  -- all entries are counted, and stand over the first places of a buffer, in the order of their last put
  pub record IsMapEntries (before after : List ShownEntry) (answer : Result ℕ Refusal) : Type 0 where
    pub counted : IfOk answer (λ n. n ≡ length (entries_of kept))
    pub written : OnOk answer (after ≡ written_over (map (shown_entry words_of) (entries_of kept)) before)
    pub unfilled : OnErr answer (after ≡ before)
    pub refusal : IfErr answer (λ why. why ≡ OutOfMemory)

module _ (V : Type 0) where
  -- what a call of a map's snapshot answers, for each class
  abbrev pub ViewCall : Type 1
  ViewCall = (K A : Type 0) → Meaning K A → MapView K → Result V Denied → Type 0

  -- the same with a query
  abbrev pub ViewSearch : Type 1
  ViewSearch = (K A : Type 0) → Meaning K A → Pred A → MapView K → Result V Denied → Type 0

module _ {V : Type 0} where
  -- a call of a map's snapshot; anything else is refused
  abbrev pub InMapSnapshot : ViewCall V → Held → Result V Denied → Type 0
  InMapSnapshot call (held.MapSnapshot (snapshot.Intervals view)) answer = call Interval interval.Atom intervals view answer
  InMapSnapshot call (held.MapSnapshot (snapshot.Boxes view)) answer = call BoxKey box.Atom boxes view answer
  InMapSnapshot call (held.MapSnapshot (snapshot.Sets view)) answer = call Elements set.Atom sets view answer
  InMapSnapshot call other answer = answer ≡ Err NoHandle

  -- a call of a map's snapshot with a query; it is refused if their classes differ
  abbrev pub InMapSnapshotBy : ViewSearch V → Held → Held → Result V Denied → Type 0
  InMapSnapshotBy call (held.Query (query.Intervals asked)) (held.MapSnapshot (snapshot.Intervals view)) answer = call Interval interval.Atom intervals asked view answer
  InMapSnapshotBy call (held.Query (query.Boxes asked)) (held.MapSnapshot (snapshot.Boxes view)) answer = call BoxKey box.Atom boxes asked view answer
  InMapSnapshotBy call (held.Query (query.Sets asked)) (held.MapSnapshot (snapshot.Sets view)) answer = call Elements set.Atom sets asked view answer
  InMapSnapshotBy call (held.Query asked) (held.MapSnapshot view) answer = answer ≡ Err OtherClass
  InMapSnapshotBy call asked other answer = answer ≡ Err NoHandle

-- where the map was
abbrev pub AnswersSnapshotFigures : Held → Result MapFigures Denied → Type 0
AnswersSnapshotFigures = InMapSnapshot (λ K A class view answer. answer ≡ Ok (map_figures view.identity view.map))

-- all entries
abbrev pub AnswersEntries : List ShownEntry → List ShownEntry → Held → Result ℕ Denied → Type 0
AnswersEntries before after = InMapSnapshot (λ K A class view. PassesOn (IsMapEntries class.words_of view.map before after))

-- the entries that match a query
abbrev pub AnswersMapFind : List ShownEntry → List ShownEntry → Held → Held → Result ℕ Denied → Type 0
AnswersMapFind before after = InMapSnapshotBy (λ K A class query view. PassesOn (IsMapFind class.rules class.words_of query view.map before after))

-- the same in any order
abbrev pub AnswersMapFindAny : List ShownEntry → List ShownEntry → Held → Held → Result ℕ Denied → Type 0
AnswersMapFindAny before after = InMapSnapshotBy (λ K A class query view. PassesOn (IsMapFindAny class.rules class.words_of query view.map before after))

-- how many entries match a query
abbrev pub AnswersMapCount : Held → Held → Result ℕ Denied → Type 0
AnswersMapCount = InMapSnapshotBy (λ K A class query view. PassesOn (IsMapCount class.rules query view.map))

-- the items of a query after a revision
abbrev pub AnswersMapChanges : ℕ → List ShownMapItem → List ShownMapItem → Held → Held → Result (ℕ × ℕ) Denied → Type 0
AnswersMapChanges from before after = InMapSnapshotBy (λ K A class query view. PassesOn (IsMapChanges class.rules class.words_of query view.map from before after))
