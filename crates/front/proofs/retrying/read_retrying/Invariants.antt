use Rattle.std.proofs.Common.{◌≡◌, length}
use Rattle.std.specs.Io.KnownBytes.{Keeps}
use Rattle.front.proofs.retrying.read_retrying.Given as goal

abbrev pub invariant-trying : goal.invariant-trying
invariant-trying g l = (length l.bytes ≡ length l.initial.bytes) × Keeps (g.R.Read.remaining l.initial.reader) (g.R.Read.remaining l.reader)
