use Rattle.std.proofs.Common.{refl}
use Rattle.split.proofs.RowsDone.{place_finished, place_finished_once}
use Rattle.split.proofs.tree.SearchTree.add.Goals as goal

pub invariant_of-self-2 : goal.invariant_of-self-2
invariant_of-self-2 g c = place_finished g.C.KeyClass.rules.is_cover c.self.inside.table c.place.new.self c.self.inside.fan c.self.inside.least c.self.inside.limit c.args.self.now c.self.view_is c.self.invariant c.args.leaf
    c.args.entry c.args.entry.key c.requires.passes refl c.in_ok-place.ensures.placed

pub returns-clause-once : goal.returns-clause-once
returns-clause-once g c = place_finished_once g.C.KeyClass.rules.is_cover c.self.inside.table c.place.new.self c.self.inside.fan c.self.inside.least c.self.inside.limit c.args.self.now c.self.view_is c.self.invariant c.args.leaf
    c.args.entry c.args.entry.key c.requires.passes refl c.in_ok-place.ensures.placed

pub returns-clause-sound : goal.returns-clause-sound
returns-clause-sound g c = (place_finished g.C.KeyClass.rules.is_cover c.self.inside.table c.place.new.self c.self.inside.fan c.self.inside.least c.self.inside.limit c.args.self.now c.self.view_is c.self.invariant c.args.leaf
    c.args.entry c.args.entry.key c.requires.passes refl c.in_ok-place.ensures.placed).sound
