use Rattle.std.proofs.Common.{arith}
use Rattle.box_class.proofs.Bounds.{seed_within}
use Rattle.box_class.proofs.quadratic.split_by.Goals as goal

pub open_entries-requires-clause-left_small : goal.open_entries-requires-clause-left_small
open_entries-requires-clause-left_small g c =
    seed_within g.A.Area.limit c.index-keys-i.result c.args.keys.now c.seeds-i.result.0 (c.args.bound, c.requires.small, c.requires.covered) (omega arith) c.index-keys-i.is

pub open_entries-requires-clause-right_small : goal.open_entries-requires-clause-right_small
open_entries-requires-clause-right_small g c =
    seed_within g.A.Area.limit c.index-keys-j.result c.args.keys.now c.seeds-i.result.1 (c.args.bound, c.requires.small, c.requires.covered) (omega arith) c.index-keys-j.is
