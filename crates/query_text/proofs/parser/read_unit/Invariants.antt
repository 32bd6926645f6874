use Rattle.std.proofs.Common.{◌≤◌, List, length}
use Rattle.query_text.specs.Tokens.{Placed, placed}
use Rattle.query_text.specs.Grammar.{unit}
use Rattle.query_text.specs.Parsing.{Waits, pending}
use Rattle.query_text.proofs.parser.read_unit.Given as goal

abbrev pub invariant-units : goal.invariant-units
invariant-units g l = record {
  waits : (ts : List Placed) → Waits (g.C.ClassText.texts.key_at (length l.text)) g.C.ClassText.texts.atom_of (pending l.initial.stack.items) unit ts (placed l.text l.lexemes) → Waits (g.C.ClassText.texts.key_at (length l.text)) g.C.ClassText.texts.atom_of (pending l.stack.items) unit ts (placed l.text l.rest);
  shorter : length l.rest ≤ length l.lexemes;
}

abbrev pub decreases-units : goal.decreases-units
decreases-units g l = length l.rest
