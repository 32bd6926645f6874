use Rattle.std.proofs.Common.{arith}
use Rattle.std.proofs.lemmas.List.{length-map}
use Rattle.search.specs.Live.{row_of}
use Rattle.search.specs.Picks.{picked}
use Rattle.search.proofs.Picking.{ones_picked}
use Rattle.search.proofs.sinks.CounterRowSink.take_picked.Goals as goal

pub returns-clause-all : goal.returns-clause-all
returns-clause-all g c =
    let entries = c.args._entries.now in
    omega (arith, ones_picked entries c.args.bits c.requires.within, length-map (picked c.args.bits entries) row_of)
