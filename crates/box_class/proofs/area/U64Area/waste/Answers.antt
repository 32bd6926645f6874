use Rattle.std.proofs.Common.{ap, arith}
use Rattle.std.proofs.lemmas.Int.{ints}
use Rattle.box_class.specs.Boxes.{size_of}
use Rattle.box_class.specs.BoxLaws.{size_of-le-union, size_of-le-union_right}
use Rattle.box_class.proofs.area.U64Area.waste.Goals as goal

pub of-requires-2 : goal.of-requires-2
of-requires-2 c = omega (arith, size_of-le-union c.args.a c.args.b)

pub overflow_cast-result-2 : goal.overflow_cast-result-2
overflow_cast-result-2 c = omega (arith, ints, size_of-le-union c.args.a c.args.b)

pub overflow_sub-result : goal.overflow_sub-result
overflow_sub-result c = omega (arith, ints, size_of-le-union c.args.a c.args.b, ap size_of c.union.ensures)

pub of-requires-3 : goal.of-requires-3
of-requires-3 c = omega (arith, size_of-le-union_right c.args.a c.args.b)

pub overflow_cast-result-3 : goal.overflow_cast-result-3
overflow_cast-result-3 c = omega (arith, ints, size_of-le-union_right c.args.a c.args.b)

pub overflow_sub-result-2 : goal.overflow_sub-result-2
overflow_sub-result-2 c = omega (arith, ints, size_of-le-union c.args.a c.args.b, size_of-le-union_right c.args.a c.args.b, ap size_of c.union.ensures)

pub returns : goal.returns
returns c = omega (arith, ints, size_of-le-union c.args.a c.args.b, size_of-le-union_right c.args.a c.args.b, ap size_of c.union.ensures)
