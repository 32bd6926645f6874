use Rattle.std.proofs.Common.{ap, sym, ◌∙◌, length, arith, take, drop}
use Rattle.query_text.specs.declared.lexeme.Lexeme.{Lexeme}
use Rattle.query_text.specs.Tokens.{placed}
use Rattle.query_text.proofs.SetLaws.{reads_close, reads_element, shifted}
use Rattle.query_text.proofs.sets.elements.Goals as goal

pub returns-in-CloseBrace-clause-gives : goal.returns-in-CloseBrace-clause-gives
returns-in-CloseBrace-clause-gives c =
    let text = c.args.text.now in
    let first = c.in-Some.first in
    let tokens = rw c.in-CloseBrace.is at (ap (placed text) c.in-Some.ensures) in
    sym c.elements.invariant.read ∙ reads_close c.elements.mask (length text) first.place (placed text c.elements.rest.now) (placed text c.in-Some.behind.now) tokens

pub elements-preserved : goal.elements-preserved
elements-preserved c =
    let text = c.args.text.now in
    let first = c.in-Some.first in
    let next = reads_element c.elements.mask (length text) c.in-Some-element.found (placed text c.elements.rest.now) (placed text c.in-Some.behind.now) first.place first.kind (take first.len (drop first.place text)) (ap (placed text) c.in-Some.ensures) c.in_default-kind.not-CloseBrace c.in-Some-element.ensures.element in
    record {
      read = rw (shifted c.in-Some-element.found c.in-Some-element.ensures.small) (next ∙ c.elements.invariant.read);
      shorter = omega (arith, ap (length {A = Lexeme}) c.in-Some.ensures, c.elements.invariant.shorter);
    }
