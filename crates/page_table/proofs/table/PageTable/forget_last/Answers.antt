use Rattle.page_table.proofs.Tables.{forgotten}
use Rattle.page_table.proofs.table.PageTable.forget_last.Goals as goal

pub returns : goal.returns
returns g c t page e = forgotten c.self.invariant.places c.self.view_is t page e
