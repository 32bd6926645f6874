-- The outcome of a storm.
use Rattle.std.specs.Prelude.{◌≡◌, ◌↔◌, IsTrue, List, Option, ◌+◌, ◌*◌, length, map, pos, Vec}
use Rattle.std.specs.List.{list_all}
use Rattle.key_class.specs.Queries.{Query, query_of, atom, both, either, never}
use Rattle.key_class.specs.declared.pred.Pred.{Pred}
use Rattle.key_class.specs.declared.sides.Rel.TheVariants as rel
use Rattle.interval_class.specs.Intervals.{interval_rules}
use Rattle.interval_class.specs.declared.interval.Interval.{Interval}
use Rattle.interval_class.specs.declared.atom.Atom.{Atom}
use Rattle.change_list.specs.declared.write.Write.{Write}
use Rattle.world.specs.Stamps.{Stamp}
use Rattle.desk.specs.Seats.{Seated}
use Rattle.desk.specs.Weaving.{Woven}
use Rattle.storm.specs.Hearing.{TellsHearings}
use Rattle.storm.specs.Judging.{TellsFates, is_whole}
use Rattle.storm.specs.Looking.{TellsSights}
use Rattle.storm.specs.declared.hearings.Hearing.{Hearing}
use Rattle.storm.specs.declared.judge.Reading.{Reading}
use Rattle.storm.specs.declared.judge.Verdict.{Verdict}
use Rattle.storm.specs.declared.limits.StormSize.{StormSize}
use Rattle.storm.specs.declared.looks.Look.{Look}
use Rattle.storm.specs.declared.outcome.Outcome.{Outcome}

-- the query asks whether a key has a number from 0 to 499
abbrev pub AsksFirst500 : Query Atom → Type 0
AsksFirst500 (atom a) = (a.rel ≡ rel.Overlaps) × (a.operand.lo ≡ pos 0) × (a.operand.hi ≡ pos 499)
AsksFirst500 (both left right) = ⊥
AsksFirst500 (either left right) = ⊥
AsksFirst500 (never part) = ⊥

-- each verdict tells how the reader at its place fared, by these commits
abbrev pub TellsReaders : {Z : Type 0} → Pred Atom → List (Write Interval) → List (Option (Reading Interval)) → Vec Verdict Z → Type 0
TellsReaders query commits readings told = TellsFates interval_rules (query_of query) commits readings told.items

-- each verdict tells how the looker at its place fared, by these commits
abbrev pub TellsLookers : {Z Y : Type 0} → Pred Atom → List (Write Interval) → List (Vec (Look Interval) Z) → Vec Verdict Y → Type 0
TellsLookers query commits looks told = TellsSights interval_rules (query_of query) commits looks told.items

-- each verdict tells how the subscriber in its place fared, by these commits
abbrev pub TellsSubscribers : {Z : Type 0} → List (Write Interval) → List (Hearing Interval) → Vec Verdict Z → Type 0
TellsSubscribers commits hearings told = TellsHearings commits hearings told.items

-- each list is the stamps of the seat in its place
abbrev pub AreStampsOf : {K Z : Type 0} → List (Seated K) → List (Vec (Stamp K) Z) → Type 0
AreStampsOf seats stamps = map (λ list. list.items) stamps ≡ map (λ seat. seat.stamps) seats

-- There is a list of so many commits, and each verdict tells how the reader, the looker or the subscriber in its place fared by
-- them. The stamps of the seats are told to be the commits of that list exactly where they are.
pub record IsTrueOutcome (o : Outcome) : Type 0 where
  pub query : Query Atom
  pub commits : List (Write Interval)
  pub asks : AsksFirst500 query
  pub count : o.commits ≡ length commits
  pub readers : TellsFates interval_rules query commits o.readings.items o.readers.items
  pub lookers : TellsSights interval_rules query commits o.looks.items o.lookers.items
  pub subscribers : TellsHearings commits o.hearings.items o.subscribers.items
  pub seats : List (Seated Interval)
  pub stamps : AreStampsOf seats o.stamps.items
  pub woven : IsTrue o.is_woven ↔ Woven commits seats

-- all rows were written and deleted, and each of all readers, lookers and subscribers is whole
pub record IsWholeStorm (limits : StormSize) (o : Outcome) : Type 0 where
  pub woven : IsTrue o.is_woven
  pub commits : o.commits ≡ limits.writers * (limits.inserts + limits.deletes)
  pub readers : length o.readers.items ≡ limits.readers
  pub lookers : length o.lookers.items ≡ limits.lookers
  pub subscribers : length o.subscribers.items ≡ limits.subscribers
  pub whole_readers : IsTrue (list_all is_whole o.readers.items)
  pub whole_lookers : IsTrue (list_all is_whole o.lookers.items)
  pub whole_subscribers : IsTrue (list_all is_whole o.subscribers.items)
