use Rattle.feed.proofs.Tending.{tree_swept}
use Rattle.feed.proofs.tree.sweep.Goals as goal

pub returns : goal.returns
returns g c = tree_swept g.C.KeyClass.rules.is_match c.args.tree.now c.sweep_all-freed.new.self c.sweep_all-freed.result c.sweep_all-freed.ensures.ok c.sweep_all-freed.ensures.err
