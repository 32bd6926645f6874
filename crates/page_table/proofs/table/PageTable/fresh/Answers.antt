use Rattle.std.proofs.Common.{arith}
use Rattle.page_table.proofs.Tables.{count_is}
use Rattle.page_table.proofs.table.PageTable.fresh.Goals as goal

pub overflow_cast-result : goal.overflow_cast-result
overflow_cast-result g c = omega (arith, count_is c.self.invariant.places c.self.view_is, c.requires)

pub returns-clause-number : goal.returns-clause-number
returns-clause-number g c = count_is c.self.invariant.places c.self.view_is
