use Rattle.split.proofs.MoveDone.{move_finished}
use Rattle.split.proofs.tree.SearchTree.relocate.Goals as goal

pub invariant_of-self-2 : goal.invariant_of-self-2
invariant_of-self-2 g c = move_finished g.C.KeyClass.rules.is_cover c.self.inside.table c.relocate.new.self c.self.inside.fan c.self.inside.least c.self.inside.limit c.args.self.now c.self.view_is c.self.invariant
    c.args.from c.args.row c.args.commit c.args.to c.args.entry c.requires.leaf c.requires.passes c.in_ok-relocate.ensures.moved

pub returns-clause-sound : goal.returns-clause-sound
returns-clause-sound g c = (move_finished g.C.KeyClass.rules.is_cover c.self.inside.table c.relocate.new.self c.self.inside.fan c.self.inside.least c.self.inside.limit c.args.self.now c.self.view_is c.self.invariant
    c.args.from c.args.row c.args.commit c.args.to c.args.entry c.requires.leaf c.requires.passes c.in_ok-relocate.ensures.moved).sound
