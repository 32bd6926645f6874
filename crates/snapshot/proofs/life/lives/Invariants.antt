use Rattle.std.proofs.Common.{length}
use Rattle.page_table.specs.Stacks.{IsStack, pages_left}
use Rattle.snapshot.proofs.Living.{SeeksLiving}
use Rattle.snapshot.proofs.life.lives.Given as goal

abbrev pub invariant-visits : goal.invariant-visits
invariant-visits g l = record {
  exists : IsStack l.table l.stack;
  seeks : SeeksLiving l.table l.row l.key l.stack;
}

abbrev pub decreases-visits : goal.decreases-visits
decreases-visits g l = length (pages_left l.table l.stack)
