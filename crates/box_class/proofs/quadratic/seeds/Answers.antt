use Rattle.std.proofs.Common.{◌+◌, ◌-◌, ◌*◌, ◌/◌, length, arith}
use Rattle.box_class.proofs.Bounds.{pair_within, row_within}
use Rattle.box_class.proofs.quadratic.seeds.Goals as goal

pub waste-most-requires : goal.waste-most-requires
waste-most-requires g c =
    pair_within g.A.Area.limit c.args.keys.now 0 1 c.index-keys-0.result c.index-keys-1.result (c.args.bound, c.requires.small, c.requires.covered) (omega arith) (omega arith) c.index-keys-0.is c.index-keys-1.is

pub most_waste-here-requires : goal.most_waste-here-requires
most_waste-here-requires g c = record {
  small = row_within g.A.Area.limit c.index-keys-i-then-gt.result c.args.keys.now c.loop-i.i ((c.loop-i.i + 1) / 8 * 8) (length c.args.keys.now - (c.loop-i.i + 1) / 8 * 8) (c.args.bound, c.requires.small, c.requires.covered) (omega arith) c.index-keys-i-then-gt.is;
}

pub first_waste-requires-clause-small : goal.first_waste-requires-clause-small
first_waste-requires-clause-small g c =
    row_within g.A.Area.limit c.index-keys-row.result c.args.keys.now c.loop-i.row (c.loop-i.row + 1) (length c.args.keys.now - (c.loop-i.row + 1)) (c.args.bound, c.requires.small, c.requires.covered) (omega arith) c.index-keys-row.is
