use Rattle.std.proofs.Common.{rules, ◌≡◌, false, length, ap, arith}
use Rattle.node.specs.Pages.{has_unneeded}
use Rattle.page_table.specs.Trees.{page_at}
use Rattle.page_table.proofs.Sweeping.{all_needed, nothing_swept}
use Rattle.page_table.proofs.table.PageTable.sweep.Goals as goal

pub returns-then-not-has_unneeded-clause-swept : goal.returns-then-not-has_unneeded-clause-swept
returns-then-not-has_unneeded-clause-swept g c =
    let none : has_unneeded c.args.horizon (page_at c.args.self.now c.args.leaf) ≡ false = search rules in
    nothing_swept c.args.horizon c.args.self.now c.args.leaf none

pub returns-then-not-has_unneeded-clause-count : goal.returns-then-not-has_unneeded-clause-count
returns-then-not-has_unneeded-clause-count g c =
    let none : has_unneeded c.args.horizon (page_at c.args.self.now c.args.leaf) ≡ false = search rules in
    omega (arith, ap length (all_needed c.args.horizon (page_at c.args.self.now c.args.leaf).rows none))
