use Rattle.std.proofs.Common.{rules, arith}
use Rattle.std.proofs.lemmas.Int.{ints}
use Rattle.box_class.specs.Boxes.{extent_of}
use Rattle.box_class.specs.BoxLaws.{cover_from}
use Rattle.box_class.proofs.Bounds.{order_read, extent_read, extent_below, larger_below}
use Rattle.box_class.proofs.extent.Extent.columns.Goals as goal

pub distance-before-requires : goal.distance-before-requires
distance-before-requires c =
    let p = cover_from c.args.self.bound c.args.key c.requires.covered in
    order_read c.args.self.bound.x1 c.args.key.x2 (search rules) (search rules) (omega (arith, ints, p.0, c.args.key.x_ordered))

pub distance-behind-requires : goal.distance-behind-requires
distance-behind-requires c =
    let p = cover_from c.args.self.bound c.args.key c.requires.covered in
    order_read c.args.key.x1 c.args.self.bound.x2 (search rules) (search rules) (omega (arith, ints, p.1, c.args.key.x_ordered))

pub returns : goal.returns
returns c =
    let bound = c.args.self.bound in
    let key = c.args.key in
    let p = cover_from bound key c.requires.covered in
    let before = extent_below bound.x1 key.x2 bound.x1 bound.x2 c.distance-before.result (extent_read bound.x1 key.x2 c.distance-before.result (search rules) (search rules) c.distance-before.ensures) (omega (arith, ints, p.0, key.x_ordered)) (omega (arith, ints)) p.1 in
    let behind = extent_below key.x1 bound.x2 bound.x1 bound.x2 c.distance-behind.result (extent_read key.x1 bound.x2 c.distance-behind.result (search rules) (search rules) c.distance-behind.ensures) (omega (arith, ints, p.1, key.x_ordered)) p.0 (omega (arith, ints)) in
    let longer = larger_below c.distance-before.result c.distance-behind.result _ before behind in
    let longest = larger_below c.max.result c.args.self.across (extent_of bound.x1 bound.x2) (omega (arith, longer, c.max.ensures)) c.requires.across in
    omega (arith, longest, c.max-2.ensures, c.from.ensures)
