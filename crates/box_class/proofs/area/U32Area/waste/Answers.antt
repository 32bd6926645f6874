use Rattle.std.proofs.Common.{ℤ, ◌-ℤ◌, w64, to_z, of_z, ap, arith}
use Rattle.std.proofs.lemmas.Int.{ints}
use Rattle.box_class.specs.Boxes.{size_of}
use Rattle.box_class.specs.BoxLaws.{size_of-le-union, size_of-le-union_right}
use Rattle.box_class.proofs.Narrow.{narrowed}
use Rattle.box_class.proofs.area.U32Area.waste.Goals as goal

pub of-requires-2 : goal.of-requires-2
of-requires-2 c = omega (arith, size_of-le-union c.args.a c.args.b)

pub of-requires-3 : goal.of-requires-3
of-requires-3 c = omega (arith, size_of-le-union_right c.args.a c.args.b)

pub overflow_sub-result : goal.overflow_sub-result
overflow_sub-result c = omega (arith, ints, size_of-le-union c.args.a c.args.b, size_of-le-union_right c.args.a c.args.b, ap size_of c.union.ensures)

pub overflow_cast-result : goal.overflow_cast-result
overflow_cast-result c = omega (arith, ints, size_of-le-union c.args.a c.args.b, size_of-le-union_right c.args.a c.args.b, ap size_of c.union.ensures)

pub overflow_sub-result-2 : goal.overflow_sub-result-2
overflow_sub-result-2 c = omega (arith, ints, size_of-le-union c.args.a c.args.b, size_of-le-union_right c.args.a c.args.b, ap size_of c.union.ensures)

pub returns : goal.returns
returns c =
    let read = λ (x : ℤ). to_z w64 (of_z w64 x) in
    narrowed (read (read (read c.from-both.result -ℤ read c.from.result) -ℤ read c.from-2.result)) _
    (omega (arith, ints, size_of-le-union c.args.a c.args.b, size_of-le-union_right c.args.a c.args.b, ap size_of c.union.ensures))
    (omega (arith, ints, size_of-le-union c.args.a c.args.b, size_of-le-union_right c.args.a c.args.b, ap size_of c.union.ensures))
