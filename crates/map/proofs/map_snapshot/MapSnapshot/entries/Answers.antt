use Rattle.std.proofs.Common.{sym, ap, ◌∙◌, subst}
use Rattle.revisions.specs.Maps.{AreApart, entries_of}
use Rattle.map.specs.Kept.{MapView}
use Rattle.map.specs.Generations.{entries_from}
use Rattle.map.proofs.Faithful.{entries_now, entries_apart}
use Rattle.map.proofs.map_snapshot.MapSnapshot.entries.Goals as goal

pub returns-in_err-rows-clause-apart : goal.returns-in_err-rows-clause-apart
returns-in_err-rows-clause-apart g c = let s = c.self.inside in let viewed = ap (λ (v : MapView _). v.map) c.self.view_is in subst (λ m. AreApart (entries_of m)) viewed (entries_apart s.numbering.oldest s.numbering.begun s.snapshot c.self.invariant.list)

pub returns-in_err-as_entries-clause-apart : goal.returns-in_err-as_entries-clause-apart
returns-in_err-as_entries-clause-apart g c = let s = c.self.inside in let viewed = ap (λ (v : MapView _). v.map) c.self.view_is in subst (λ m. AreApart (entries_of m)) viewed (entries_apart s.numbering.oldest s.numbering.begun s.snapshot c.self.invariant.list)

pub returns-clause-apart : goal.returns-clause-apart
returns-clause-apart g c = let s = c.self.inside in let viewed = ap (λ (v : MapView _). v.map) c.self.view_is in subst (λ m. AreApart (entries_of m)) viewed (entries_apart s.numbering.oldest s.numbering.begun s.snapshot c.self.invariant.list)

pub returns-clause-ok : goal.returns-clause-ok
returns-clause-ok g c =
    let s = c.self.inside in let viewed = ap (λ (v : MapView _). v.map) c.self.view_is in
    c.in_ok-as_entries.ensures ∙ ap entries_from (c.deref.ensures.value ∙ c.in_ok-rows.ensures.ok) ∙ sym (entries_now s.numbering.oldest s.numbering.begun s.snapshot c.self.invariant.list) ∙ ap entries_of viewed
