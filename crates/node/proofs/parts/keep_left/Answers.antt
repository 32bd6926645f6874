use Rattle.std.proofs.Common.{◌∙◌, ◌≤◌, length, arith}
use Rattle.node.proofs.PartEnds.{left_part_whole}
use Rattle.node.proofs.parts.keep_left.Goals as goal

pub returns : goal.returns
returns g c = c.truncate.ensures ∙ left_part_whole c.args.sides.now c.loop-place.entries c.loop-place.place _ _ (let l : length c.loop-place.entries ≤ c.loop-place.place = omega (arith, c.loop-place.invariant.as_many, c.len-place-end.ensures, c.loop-place-test.false) in l) c.loop-place.invariant.left
