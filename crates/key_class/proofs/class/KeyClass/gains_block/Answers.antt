use Rattle.std.proofs.Common.{◌≡◌, ◌∙◌, ◌+◌, ◌-◌, ◌^◌, ℕ, min, ap, sym, arith}
use Rattle.std.specs.Prelude.{map}
use Rattle.key_class.specs.BlockLaws.{eight_same, eight_listed}
use Rattle.key_class.specs.Gains.{gain_in_64_bits}
use Rattle.key_class.proofs.class.KeyClass.gains_block.Goals as goal

-- what makes up for the size of the bound is its gain
shortened : (short gained bound union : ℕ) → short ≡ min gained (2 ^ 64 - 1) → gained + bound ≡ union → short ≡ min (union - bound) (2 ^ 64 - 1)
shortened short gained bound union e grows = let same : gained ≡ union - bound = omega (arith, grows) in e ∙ ap (λ n. min n (2 ^ 64 - 1)) same

pub returns : goal.returns
returns g c =
    let bounds = g.Self.Key.Block.Block.items c.args.bounds.now in
    let short = shortened in
    eight_same (short _ _ _ _ c.in_64_bits.ensures c.penalty.ensures) (short _ _ _ _ c.in_64_bits-2.ensures c.penalty-2.ensures) (short _ _ _ _ c.in_64_bits-3.ensures c.penalty-3.ensures) (short _ _ _ _ c.in_64_bits-4.ensures c.penalty-4.ensures)
    (short _ _ _ _ c.in_64_bits-5.ensures c.penalty-5.ensures) (short _ _ _ _ c.in_64_bits-6.ensures c.penalty-6.ensures) (short _ _ _ _ c.in_64_bits-7.ensures c.penalty-7.ensures) (short _ _ _ _ c.in_64_bits-8.ensures c.penalty-8.ensures)
    ∙ sym (ap (map (gain_in_64_bits g.Self.KeyClass.rules.union_of g.Self.KeyClass.rules.size_of c.args.key)) (eight_listed bounds (g.met.Self.Key.Block.Block.eight c.args.bounds.now) c.get.ensures c.get-2.ensures c.get-3.ensures c.get-4.ensures c.get-5.ensures c.get-6.ensures c.get-7.ensures c.get-8.ensures))
