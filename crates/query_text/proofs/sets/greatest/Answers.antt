use Rattle.std.proofs.Common.{◌≡◌, ◌-◌, arith, rules}
use Rattle.std.specs.Int.Count.{count_leading_zeros}
use Rattle.std.proofs.lemmas.Nat.{leading_top}
use Rattle.query_text.proofs.sets.greatest.Goals as goal

pub returns : goal.returns
returns c =
    let top = leading_top 128 c.args.mask c.requires (search rules) in
    let is : 127 - count_leading_zeros 128 c.args.mask ≡ top.0 = omega (arith, top.1) in
    rw is (omega (arith, top.1), top.2, top.3)
