use Rattle.std.proofs.Common.{rules, ◌≡◌, length, w32, arith}
use Rattle.std.specs.Prelude.{nat_eq}
use Rattle.std.proofs.lemmas.Simd.{bitmask_splat}
use Rattle.key_class.proofs.bits.equal_bits.Goals as goal

pub returns : goal.returns
returns c =
    let eight : length c.args.numbers.now ≡ 8 = search rules in
    bitmask_splat w32 nat_eq c.args.numbers.now 8 c.args.number eight (omega arith)
