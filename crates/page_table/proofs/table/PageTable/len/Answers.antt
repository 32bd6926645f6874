use Rattle.page_table.proofs.Tables.{count_is}
use Rattle.page_table.proofs.table.PageTable.len.Goals as goal

pub returns : goal.returns
returns g c = count_is c.self.invariant.places c.self.view_is
