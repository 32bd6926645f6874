use Rattle.std.proofs.Common.{[], ◌<◌, ◌^◌, sym, ap, ◌∙◌, subst, arith}
use Rattle.store.specs.States.{StoreState}
use Rattle.map.specs.Generations.{IsGeneration, entries_from, map_of}
use Rattle.map.proofs.Faithful.{no_rows}
use Rattle.map.proofs.Finding.{generation_empty}
use Rattle.map.proofs.generation.Generation.new.Goals as goal

pub invariant_of-result : goal.invariant_of-result
invariant_of-result g c =
    let none = ap (λ (s : StoreState _ _). s.commits) c.in_ok-store.ensures.ok in
    let small : c.args.revision < 2 ^ 64 = omega (arith, c.ranges.revision.fits) in
    subst (λ l. IsGeneration c.args.revision 0 0 l c.new-numbers.result) (sym none)
    (subst (λ n. IsGeneration c.args.revision 0 0 [] n) (sym c.new-numbers.ensures) (generation_empty c.args.revision small))

pub returns-clause-ok : goal.returns-clause-ok
returns-clause-ok g c =
    let none = ap (λ (s : StoreState _ _). s.commits) c.in_ok-store.ensures.ok in
    ap (map_of c.args.revision 0) none ∙ ap (λ rs. record { oldest = c.args.revision; first = entries_from rs; changes = [] }) no_rows
