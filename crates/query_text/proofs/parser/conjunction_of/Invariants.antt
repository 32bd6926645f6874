use Rattle.std.proofs.Common.{ℕ, length}
use Rattle.key_class.specs.Queries.{query_of}
use Rattle.query_text.specs.Grammar.{unit}
use Rattle.query_text.specs.Parsing.{Completes, pending}
use Rattle.query_text.proofs.parser.conjunction_of.Given as goal

abbrev pub invariant-nots : goal.invariant-nots
invariant-nots g l = (len : ℕ) → Completes (g.C.ClassText.texts.key_at len) g.C.ClassText.texts.atom_of (pending l.initial.stack.items) unit (query_of l.initial.part) (pending l.stack.items) unit (query_of l.part)

abbrev pub decreases-nots : goal.decreases-nots
decreases-nots g l = length l.stack.items
