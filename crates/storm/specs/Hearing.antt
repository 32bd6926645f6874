-- What a subscriber of a storm received, and how it fared.
use Rattle.std.specs.Prelude.{◌≡◌, ◌↔◌, ℕ, List, ◌++◌, length, pos, ◌+◌, ◌%◌, Some, None}
use Rattle.key_class.specs.Queries.{Query, query_of, atom, both, either, never}
use Rattle.key_class.specs.declared.pred.Pred.{Pred}
use Rattle.key_class.specs.declared.sides.Rel.TheVariants as rel
use Rattle.key_class.specs.Rules.{Rules, satisfies}
use Rattle.interval_class.specs.Intervals.{interval_rules}
use Rattle.interval_class.specs.declared.interval.Interval.{Interval}
use Rattle.interval_class.specs.declared.atom.Atom.{Atom}
use Rattle.change_list.specs.declared.write.Write.{Write}
use Rattle.change_list.specs.Listings.{AreChanges}
use Rattle.storm.specs.Judging.{TellsEach}
use Rattle.storm.specs.declared.hearings.Hearing.{Hearing}
use Rattle.storm.specs.declared.hearings.News.{News}
use Rattle.storm.specs.declared.hearings.News.TheVariants as news
use Rattle.storm.specs.declared.judge.Verdict.{Verdict}
use Rattle.storm.specs.declared.judge.Verdict.TheVariants as verdict

-- the query is whether a key has one of ten numbers, from a subscriber's own on. There are 600 such queries
abbrev pub AsksTen : ℕ → Query Atom → Type 0
AsksTen number (atom a) = (a.rel ≡ rel.Overlaps) × (a.operand.lo ≡ pos (number % 600)) × (a.operand.hi ≡ pos (number % 600 + 9))
AsksTen number (both left right) = ⊥
AsksTen number (either left right) = ⊥
AsksTen number (never part) = ⊥

-- The subscriber received the next part of its stream: further changes, which come after those that it has, or the
-- end, which states how many commits its feed had processed.
abbrev pub Receives : News → Hearing Interval → Hearing Interval → Type 0
Receives (news.Changes changes) old new =
    (new.number ≡ old.number) × (new.items.items ≡ old.items.items ++ changes.items) × (new.end ≡ old.end)
Receives (news.End commits) old new = new ≡ record old { end = Some commits }

-- The stream has an end, after all commits, and the subscriber received exactly the changes of all commits, in order.
-- A stream that never began or was cut short has no end.
abbrev pub IsWholeHearing : {K A : Type 0} → Rules K A → Query A → List (Write K) → Hearing K → Type 0
IsWholeHearing rules query commits hearing = (hearing.end ≡ Some (length commits)) × AreChanges (satisfies rules query) 0 (length commits) commits hearing.items.items

-- it tells whether a subscriber to a query was whole
abbrev pub TellsWholeHearing : {K A : Type 0} → Rules K A → Pred A → List (Write K) → Hearing K → Verdict → Type 0
TellsWholeHearing rules query commits hearing told = (told ≡ verdict.Whole) ↔ IsWholeHearing rules (query_of query) commits hearing

-- it tells how a subscriber fared, to the query of its number
pub record TellsHearing (commits : List (Write Interval)) (hearing : Hearing Interval) (told : Verdict) : Type 0 where
  pub query : Query Atom
  pub asks : AsksTen hearing.number query
  pub whole : (told ≡ verdict.Whole) ↔ IsWholeHearing interval_rules query commits hearing
  pub missing : (told ≡ verdict.Missing) ↔ (hearing.end ≡ None)

-- each tells how the subscriber in its place fared
abbrev pub TellsHearings : List (Write Interval) → List (Hearing Interval) → List Verdict → Type 0
TellsHearings commits hearings told = TellsEach (TellsHearing commits) hearings told
