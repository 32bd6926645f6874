use Rattle.std.proofs.Common.{◌+◌, ◌-◌, sym, ap, ◌∙◌, subst}
use Rattle.revisions.specs.Maps.{AreReal, revision_of}
use Rattle.map.proofs.Faithful.{revision_is}
use Rattle.map.proofs.Reading.{all_real}
use Rattle.map.proofs.generation.Generation.revision.Goals as goal

pub returns-clause-is : goal.returns-clause-is
returns-clause-is g c =
    let s = c.self.inside in
    ap (λ n. s.oldest + (n - s.begun)) c.commits.ensures.number ∙ sym (revision_is s.oldest s.begun s.store.commits c.self.invariant.list) ∙ ap revision_of c.self.view_is

pub returns-clause-real : goal.returns-clause-real
returns-clause-real g c = let s = c.self.inside in subst (λ m. AreReal m) c.self.view_is (all_real s.oldest s.begun s.store.commits c.self.invariant.list)
