use Rattle.std.proofs.Common.{ap, arith}
use Rattle.box_class.specs.Boxes.{size_of}
use Rattle.box_class.specs.BoxLaws.{size_of-le-union}
use Rattle.box_class.proofs.area.U32Area.gain.Goals as goal

pub of-requires-2 : goal.of-requires-2
of-requires-2 c = omega (arith, size_of-le-union c.args.bound c.args.key)

pub overflow_sub-result : goal.overflow_sub-result
overflow_sub-result c = omega (arith, size_of-le-union c.args.bound c.args.key, ap size_of c.union.ensures)

pub returns : goal.returns
returns c = omega (arith, size_of-le-union c.args.bound c.args.key, ap size_of c.union.ensures)
