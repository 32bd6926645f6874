use Rattle.std.proofs.Common.{◌≤◌, List, length}
use Rattle.key_class.specs.Queries.{query_of}
use Rattle.query_text.specs.Tokens.{Placed, placed}
use Rattle.query_text.specs.Grammar.{unit}
use Rattle.query_text.specs.Parsing.{HasRead, pending}
use Rattle.query_text.proofs.parser.read_behind.Given as goal

abbrev pub invariant-brackets : goal.invariant-brackets
invariant-brackets g l = record {
  read : (ts : List Placed) → HasRead (g.C.ClassText.texts.key_at (length l.text)) g.C.ClassText.texts.atom_of (pending l.initial.stack.items) unit (query_of l.initial.part) ts (placed l.text l.lexemes) → HasRead (g.C.ClassText.texts.key_at (length l.text)) g.C.ClassText.texts.atom_of (pending l.stack.items) unit (query_of l.part) ts (placed l.text l.rest);
  shorter : length l.rest ≤ length l.lexemes;
}

abbrev pub decreases-brackets : goal.decreases-brackets
decreases-brackets g l = length l.rest
