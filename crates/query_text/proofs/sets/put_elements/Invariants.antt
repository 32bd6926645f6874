use Rattle.std.proofs.Common.{◌≡◌, ◌++◌}
use Rattle.query_text.specs.SetTexts.{spaced, elements_below}
use Rattle.query_text.proofs.sets.put_elements.Given as goal

abbrev pub invariant-elements : goal.invariant-elements
invariant-elements l = spaced (elements_below 128 l.rest) ++ l.line ≡ spaced (elements_below 128 l.mask) ++ l.initial.line

abbrev pub decreases-elements : goal.decreases-elements
decreases-elements l = l.rest
