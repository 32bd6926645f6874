use Rattle.std.proofs.Common.{sym, ap, ◌∙◌, subst}
use Rattle.map.specs.Generations.{IsGeneration, map_of}
use Rattle.map.proofs.generation.Generation.sweep.Goals as goal

pub invariant_of-self : goal.invariant_of-self
invariant_of-self g c =
    let s = c.self.inside in
    subst (λ l. IsGeneration s.oldest s.begun s.len l s.numbers) (sym c.sweep_next.ensures.rest.rest.commits) c.self.invariant

pub invariant_of-self-in_default : goal.invariant_of-self-in_default
invariant_of-self-in_default g c =
    let s = c.self.inside in
    subst (λ l. IsGeneration s.oldest s.begun s.len l s.numbers) (sym c.sweep_next.ensures.rest.rest.commits) c.self.invariant

pub returns-in-Ok : goal.returns-in-Ok
returns-in-Ok g c =
    let s = c.self.inside in
    ap (map_of s.oldest s.begun) c.sweep_next.ensures.rest.rest.commits ∙ c.self.view_is

pub returns-in_default : goal.returns-in_default
returns-in_default g c =
    let s = c.self.inside in
    ap (map_of s.oldest s.begun) c.sweep_next.ensures.rest.rest.commits ∙ c.self.view_is
