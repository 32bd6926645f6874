use Rattle.search.specs.Picks.{HasBitsFor}
use Rattle.search.proofs.search.Search.rows_of_children.Given as goal

abbrev pub invariant-children : goal.invariant-children
invariant-children g l = HasBitsFor l.branches l.wanted

abbrev pub decreases-children : goal.decreases-children
decreases-children g l = l.wanted
