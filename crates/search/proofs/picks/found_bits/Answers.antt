use Rattle.std.proofs.Common.{◌∙◌, ◌<◌, ◌^◌, ap, length, subst, sym}
use Rattle.search.specs.Live.{is_found}
use Rattle.search.specs.Picks.{picked}
use Rattle.search.proofs.Picking.{bits_within, picks}
use Rattle.search.proofs.picks.found_bits.Goals as goal

pub returns-clause-within : goal.returns-clause-within
returns-clause-within g c =
    let xs = c.args.rows.now in
    subst (λ n. n < 2 ^ length xs) (sym c.bits.ensures) (bits_within (is_found (g.T.KeyTest.accepts c.args.test.now)) xs)

pub returns-clause-found : goal.returns-clause-found
returns-clause-found g c =
    let xs = c.args.rows.now in
    ap (λ n. picked n xs) c.bits.ensures ∙ picks (is_found (g.T.KeyTest.accepts c.args.test.now)) xs
