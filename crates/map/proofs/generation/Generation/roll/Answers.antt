use Rattle.std.proofs.Common.{sym, ap, ◌∙◌, subst}
use Rattle.change_list.specs.Changes.{rows}
use Rattle.revisions.specs.Maps.{AreApart, entries_of}
use Rattle.snapshot.proofs.Ending.{living_none}
use Rattle.map.specs.Generations.{entries_from}
use Rattle.map.specs.Rolls.{RollState}
use Rattle.map.proofs.Faithful.{entries_now, rows_apart}
use Rattle.map.proofs.generation.Generation.roll.Goals as goal

pub returns-clause-all : goal.returns-clause-all
returns-clause-all g c =
    let s = c.self.inside in
    ap (λ (r : RollState _). r.all) c.new.ensures ∙ ap (λ l. entries_from (rows l)) (c.into_list.ensures ∙ c.in_ok-snapshot.ensures.list) ∙ sym (entries_now s.oldest s.begun s.store.commits c.self.invariant.list) ∙ ap entries_of c.self.view_is

pub returns-clause-none : goal.returns-clause-none
returns-clause-none g c = ap (λ (r : RollState _). r.given) c.new.ensures ∙ ap entries_from (living_none c.into_list.result)

pub returns-clause-apart : goal.returns-clause-apart
returns-clause-apart g c =
    let s = c.self.inside in
    subst (λ m. AreApart (entries_of m)) c.self.view_is (subst (λ es. AreApart es) (sym (entries_now s.oldest s.begun s.store.commits c.self.invariant.list)) (rows_apart s.store.commits c.self.invariant.list.legal c.self.invariant.list.by_id))

pub returns-in_err-snapshot-clause-apart : goal.returns-in_err-snapshot-clause-apart
returns-in_err-snapshot-clause-apart g c =
    let s = c.self.inside in
    subst (λ m. AreApart (entries_of m)) c.self.view_is (subst (λ es. AreApart es) (sym (entries_now s.oldest s.begun s.store.commits c.self.invariant.list)) (rows_apart s.store.commits c.self.invariant.list.legal c.self.invariant.list.by_id))
