use Rattle.feed.proofs.Tending.{tends_join, tends_none}
use Rattle.feed.proofs.enrolling.uproot_query.Goals as goal

pub loop-key-init : goal.loop-key-init
loop-key-init g c = tends_none c.args.number c.args.tree.now.commits c.requires.legal

pub loop-key-preserved : goal.loop-key-preserved
loop-key-preserved g c = tends_join c.args.number c.args.tree.now.commits c.loop-key.tree.commits c.uproot_key.new.tree.commits c.loop-key.invariant c.uproot_key.ensures

pub returns-in_default : goal.returns-in_default
returns-in_default g c = tends_none c.args.number c.args.tree.now.commits c.requires.legal

pub returns-in_default-2 : goal.returns-in_default-2
returns-in_default-2 g c = tends_none c.args.number c.args.tree.now.commits c.requires.legal
