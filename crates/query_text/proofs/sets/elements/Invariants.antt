use Rattle.std.proofs.Common.{◌≡◌, ◌≤◌, length}
use Rattle.query_text.specs.Tokens.{placed}
use Rattle.query_text.specs.SetTexts.{with_elements, elements_at}
use Rattle.query_text.proofs.sets.elements.Given as goal

abbrev pub invariant-elements : goal.invariant-elements
invariant-elements l = record {
  read : with_elements l.mask (elements_at (length l.text) (placed l.text l.rest)) ≡ with_elements 0 (elements_at (length l.text) (placed l.text l.lexemes));
  shorter : length l.rest ≤ length l.lexemes;
}

abbrev pub decreases-elements : goal.decreases-elements
decreases-elements l = length l.rest
