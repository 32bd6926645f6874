use Rattle.std.proofs.Common.{◌∙◌, ◌<◌, ◌^◌, ap, length, subst, sym}
use Rattle.search.specs.Picks.{picked}
use Rattle.search.proofs.Picking.{bits_within, picks}
use Rattle.search.proofs.picks.wanted_bits.Goals as goal

pub returns-clause-within : goal.returns-clause-within
returns-clause-within g c =
    let xs = c.args.branches.now in
    subst (λ n. n < 2 ^ length xs) (sym c.bits.ensures) (bits_within (λ x. g.T.BranchTest.wants c.args.test.now x.key) xs)

pub returns-clause-wanted : goal.returns-clause-wanted
returns-clause-wanted g c =
    let xs = c.args.branches.now in
    ap (λ n. picked n xs) c.bits.ensures ∙ picks (λ x. g.T.BranchTest.wants c.args.test.now x.key) xs
