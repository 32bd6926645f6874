use Rattle.feed.specs.Planting.{AreTagged}
use Rattle.feed.proofs.tree.tagged_rows.Given as goal

abbrev pub invariant-loop-row : goal.invariant-loop-row
invariant-loop-row g l = AreTagged l.tree.commits l.tag l.rows.items
