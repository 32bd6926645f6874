use Rattle.std.specs.Io.KnownBytes.{Keeps}
use Rattle.front.proofs.retrying.write_retrying.Given as goal

abbrev pub invariant-trying : goal.invariant-trying
invariant-trying g l = Keeps (g.W.Write.contents l.initial.writer) (g.W.Write.contents l.writer)
