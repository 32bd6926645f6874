use Rattle.std.proofs.Common.{ap, arith, length, subst}
use Rattle.blocks.specs.Firsts.{IsFirstFrom, NonePassFrom}
use Rattle.blocks.specs.Values.{values_of}
use Rattle.blocks.proofs.Eights.{all_length, first_length}
use Rattle.blocks.proofs.Passing.{first_is_behind, first_of_first, none_of_first}
use Rattle.blocks.proofs.blocks.Blocks.first_from.Goals as goal

pub first_in_blocks-requires : goal.first_in_blocks-requires
first_in_blocks-requires g c =
    let l = c.self.inside in
    let count = first_length g.B.Block.items g.met.B.Block.eight l.count l.blocks.items c.self.invariant in
    omega (arith, count, ap length c.self.view_is, c.self.invariant.needed, ap length c.deref.ensures.value, c.len-count.ensures)

pub returns-in-Some : goal.returns-in-Some
returns-in-Some g c =
    let l = c.self.inside in
    let items = g.B.Block.items in
    let p = g.S.BlockTest.passes c.args.test.now in
    let place = c.in-Some.place in
    let count = first_length items g.met.B.Block.eight l.count l.blocks.items c.self.invariant in
    let all = all_length items g.met.B.Block.eight l.blocks.items in
    let first = subst (λ bs. IsFirstFrom p (values_of items bs) c.args.from place) c.deref.ensures.value c.in-Some.ensures in
    subst (λ xs. IsFirstFrom p xs c.args.from place) c.self.view_is
    (first_of_first p (values_of items l.blocks.items) l.count c.args.from (omega (arith, all, c.self.invariant.enough)) place count (omega (arith, count, ap length c.self.view_is, c.len-count.ensures, c.if-place-count.true)) first)

pub returns-in_default : goal.returns-in_default
returns-in_default g c =
    let l = c.self.inside in
    let items = g.B.Block.items in
    let p = g.S.BlockTest.passes c.args.test.now in
    let place = c.in-Some.place in
    let count = first_length items g.met.B.Block.eight l.count l.blocks.items c.self.invariant in
    let all = all_length items g.met.B.Block.eight l.blocks.items in
    let first = subst (λ bs. IsFirstFrom p (values_of items bs) c.args.from place) c.deref.ensures.value c.in-Some.ensures in
    subst (λ xs. NonePassFrom p xs c.args.from) c.self.view_is
    (first_is_behind p (values_of items l.blocks.items) l.count c.args.from (omega (arith, all, c.self.invariant.enough)) place count (omega (arith, count, ap length c.self.view_is, c.len-count.ensures, c.if-place-count.false)) first)

pub returns-in_default-2 : goal.returns-in_default-2
returns-in_default-2 g c =
    let l = c.self.inside in
    let items = g.B.Block.items in
    let p = g.S.BlockTest.passes c.args.test.now in
    let count = first_length items g.met.B.Block.eight l.count l.blocks.items c.self.invariant in
    let all = all_length items g.met.B.Block.eight l.blocks.items in
    let none = subst (λ bs. NonePassFrom p (values_of items bs) c.args.from) c.deref.ensures.value c.in_default.ensures in
    subst (λ xs. NonePassFrom p xs c.args.from) c.self.view_is
    (none_of_first p (values_of items l.blocks.items) l.count c.args.from (omega (arith, all, c.self.invariant.enough)) count none)
