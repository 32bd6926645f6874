use Rattle.std.proofs.Common.{sym, ap, arith, length, ◌∙◌}
use Rattle.query_text.specs.declared.lexeme.Lexeme.{Lexeme}
use Rattle.query_text.specs.Tokens.{placed, at, token_in}
use Rattle.query_text.specs.Parsing.{pending}
use Rattle.query_text.proofs.ParserLaws.{waits_behind_not, waits_behind_bracket, reads_atom, refuses_end, refuses_key, refuses_token}
use Rattle.query_text.proofs.parser.read_unit.Goals as goal

pub returns-in_default-clause-refused : goal.returns-in_default-clause-refused
returns-in_default-clause-refused g c = λ ts w.
    let len = length c.args.text.now in
    refuses_end (g.C.ClassText.texts.key_at len) g.C.ClassText.texts.atom_of len (pending c.units.stack.items) ts (placed c.args.text.now c.units.rest.now) (ap (placed c.args.text.now) c.in_default.ensures) (c.units.invariant.waits ts w)

pub units-preserved-in-Not : goal.units-preserved-in-Not
units-preserved-in-Not g c =
    let text = c.args.text.now in
    let first = at c.in-Some.first.place (token_in text c.in-Some.first) in
    record {
      waits = λ ts w. waits_behind_not (g.C.ClassText.texts.key_at (length text)) g.C.ClassText.texts.atom_of c.units.stack.items c.push.new.self.items ts (placed text c.units.rest.now) (placed text c.in-Some.behind.now) first c.in_ok-push-in-Not.ensures.items (ap (placed text) c.in-Some.ensures) (sym c.in-Not.ensures) (c.units.invariant.waits ts w);
      shorter = omega (arith, ap (length {A = Lexeme}) c.in-Some.ensures, c.units.invariant.shorter);
    }

pub units-preserved : goal.units-preserved
units-preserved g c =
    let text = c.args.text.now in
    let first = at c.in-Some.first.place (token_in text c.in-Some.first) in
    record {
      waits = λ ts w. waits_behind_bracket (g.C.ClassText.texts.key_at (length text)) g.C.ClassText.texts.atom_of c.units.stack.items c.push-in-Open.new.self.items ts (placed text c.units.rest.now) (placed text c.in-Some.behind.now) first c.in_ok-push-in-Open.ensures.items (ap (placed text) c.in-Some.ensures) (sym c.in-Open.ensures) (c.units.invariant.waits ts w);
      shorter = omega (arith, ap (length {A = Lexeme}) c.in-Some.ensures, c.units.invariant.shorter);
    }

pub returns-in-Ok-clause-read : goal.returns-in-Ok-clause-read
returns-in-Ok-clause-read g c = λ ts w.
    let text = c.args.text.now in
    let first = at c.in-Some.first.place (token_in text c.in-Some.first) in
    rw c.atom.ensures (reads_atom (g.C.ClassText.texts.key_at (length text)) g.C.ClassText.texts.atom_of (pending c.units.stack.items) ts (placed text c.units.rest.now) (placed text c.in-Some.behind.now) (placed text c.in-Ok.read.1.now) first c.in-Relation.rel c.in-Ok.read.0 (ap (placed text) c.in-Some.ensures) (sym c.in-Relation.ensures) c.in-Ok.ensures.gives (c.units.invariant.waits ts w))

pub returns-in-Err-clause-refused : goal.returns-in-Err-clause-refused
returns-in-Err-clause-refused g c = λ ts w.
    let text = c.args.text.now in
    let first = at c.in-Some.first.place (token_in text c.in-Some.first) in
    refuses_key (g.C.ClassText.texts.key_at (length text)) g.C.ClassText.texts.atom_of (length text) c.in-Err.place (pending c.units.stack.items) ts (placed text c.units.rest.now) (placed text c.in-Some.behind.now) first c.in-Relation.rel (ap (placed text) c.in-Some.ensures) (sym c.in-Relation.ensures) c.in-Err.ensures.gives (c.units.invariant.waits ts w)

pub returns-in_default-terminal-clause-refused : goal.returns-in_default-terminal-clause-refused
returns-in_default-terminal-clause-refused g c = λ ts w.
    let text = c.args.text.now in
    let first = at c.in-Some.first.place (token_in text c.in-Some.first) in
    refuses_token (g.C.ClassText.texts.key_at (length text)) g.C.ClassText.texts.atom_of (length text) (pending c.units.stack.items) ts (placed text c.units.rest.now) (placed text c.in-Some.behind.now) first (ap (placed text) c.in-Some.ensures) (λ e. c.in_default-terminal.not-Not (c.terminal.ensures ∙ e)) (λ e. c.in_default-terminal.not-Open (c.terminal.ensures ∙ e)) (λ r e. c.in_default-terminal.not-Relation r (c.terminal.ensures ∙ e)) (c.units.invariant.waits ts w)
