use Rattle.std.proofs.Common.{rules}
use Rattle.cursor.proofs.Turning.{row_turns}
use Rattle.cursor.proofs.cursor.Cursor.advance.Goals as goal

pub returns-in-Some : goal.returns-in-Some
returns-in-Some g c = row_turns g.C.KeyClass.rules g.O.Outlet.rule c.args.table.now c.args.changes.now c.args.self.now c.offer_row.new.self c.in-Some.row.now (search rules) c.offer_row.result c.offer_row.ensures
