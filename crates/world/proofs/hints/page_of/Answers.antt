use Rattle.std.proofs.lemmas.Option.{unwrap_or-slice_get}
use Rattle.world.proofs.hints.page_of.Goals as goal

pub returns : goal.returns
returns c = cc (unwrap_or-slice_get c.args.hints.now.items c.args.row 0)
