use Rattle.std.proofs.Common.{length}
use Rattle.query_text.specs.Tokens.{placed}
use Rattle.query_text.specs.Grammar.{unit}
use Rattle.query_text.specs.Parsing.{Waits, pending}
use Rattle.query_text.proofs.parser.query.Given as goal

abbrev pub invariant-units : goal.invariant-units
invariant-units g l = Waits (g.C.ClassText.texts.key_at (length l.text)) g.C.ClassText.texts.atom_of (pending l.stack.items) unit (placed l.text l.lexemes) (placed l.text l.rest)

abbrev pub decreases-units : goal.decreases-units
decreases-units g l = length l.rest
