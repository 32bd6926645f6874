use Rattle.std.proofs.Common.{◌≡◌, ◌∙◌, ◌<◌, ◌-◌, ◌*◌, ◌%◌, ◌^◌, ap, ap₂, arith, length, take, drop, not}
use Rattle.key_class.specs.Bits.{bits_of}
use Rattle.blocks.proofs.Eights.{first_length}
use Rattle.blocks.proofs.Removing.{bits_of_taken, block_taken, opposite}
use Rattle.blocks.proofs.blocks.Blocks.failing.Goals as goal

pub overflow_sub-failing : goal.overflow_sub-failing
overflow_sub-failing g c =
    let b = c.index.result.now in
    omega (arith, c.tested-failing.ensures, opposite (g.S.BlockTest.passes c.args.test.now) (g.B.Block.items b), ap (λ n. 2 ^ n) (g.met.B.Block.eight b))

pub overflow_mul-number : goal.overflow_mul-number
overflow_mul-number g c =
    record { fits = omega (arith, c.requires, c.len.ensures) }

pub returns : goal.returns
returns g c =
    let l = c.self.inside in
    let b = c.index.result.now in
    let items = g.B.Block.items in
    let p = g.S.BlockTest.passes c.args.test.now in
    let q = c.args.number in
    let count = first_length items g.met.B.Block.eight l.count l.blocks.items c.self.invariant in
    let some : 8 * q < l.count = omega (arith, c.requires, count, ap length c.self.view_is) in
    let within : q < length l.blocks.items = omega (arith, some, c.self.invariant.enough) in
    let bits : 255 - c.tested-failing.result ≡ bits_of (λ x. not (p x)) (items b) = omega (arith, c.tested-failing.ensures, opposite p (items b), ap (λ n. 2 ^ n) (g.met.B.Block.eight b)) in
    let length_is : c.len.result ≡ l.count = omega (arith, c.len.ensures, count, ap length c.self.view_is) in
    c.first_bits.ensures
    ∙ ap₂ (λ n m. n % 2 ^ (m - 8 * q)) bits length_is
    ∙ bits_of_taken (λ x. not (p x)) (l.count - 8 * q) (items b)
    ∙ ap (bits_of (λ x. not (p x))) (block_taken items g.met.B.Block.eight l.blocks.items l.count q b within c.index.ensures some ∙ ap (λ xs. take 8 (drop (8 * q) xs)) c.self.view_is)
