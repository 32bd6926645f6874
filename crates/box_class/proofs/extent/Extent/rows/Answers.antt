use Rattle.std.proofs.Common.{rules, arith}
use Rattle.std.proofs.lemmas.Int.{ints}
use Rattle.box_class.specs.Boxes.{extent_of}
use Rattle.box_class.specs.BoxLaws.{cover_from}
use Rattle.box_class.proofs.Bounds.{order_read, extent_read, extent_below, larger_below}
use Rattle.box_class.proofs.extent.Extent.rows.Goals as goal

pub distance-below-requires : goal.distance-below-requires
distance-below-requires c =
    let p = cover_from c.args.self.bound c.args.key c.requires.covered in
    order_read c.args.self.bound.y1 c.args.key.y2 (search rules) (search rules) (omega (arith, ints, p.2, c.args.key.y_ordered))

pub distance-above-requires : goal.distance-above-requires
distance-above-requires c =
    let p = cover_from c.args.self.bound c.args.key c.requires.covered in
    order_read c.args.key.y1 c.args.self.bound.y2 (search rules) (search rules) (omega (arith, ints, p.3, c.args.key.y_ordered))

pub returns : goal.returns
returns c =
    let bound = c.args.self.bound in
    let key = c.args.key in
    let p = cover_from bound key c.requires.covered in
    let below = extent_below bound.y1 key.y2 bound.y1 bound.y2 c.distance-below.result (extent_read bound.y1 key.y2 c.distance-below.result (search rules) (search rules) c.distance-below.ensures) (omega (arith, ints, p.2, key.y_ordered)) (omega (arith, ints)) p.3 in
    let above = extent_below key.y1 bound.y2 bound.y1 bound.y2 c.distance-above.result (extent_read key.y1 bound.y2 c.distance-above.result (search rules) (search rules) c.distance-above.ensures) (omega (arith, ints, p.3, key.y_ordered)) p.2 (omega (arith, ints)) in
    let longer = larger_below c.distance-below.result c.distance-above.result _ below above in
    let longest = larger_below c.max.result c.args.self.along (extent_of bound.y1 bound.y2) (omega (arith, longer, c.max.ensures)) c.requires.along in
    omega (arith, longest, c.max-2.ensures, c.from.ensures)
