use Rattle.std.proofs.Common.{rules}
use Rattle.cursor.proofs.Tasks.{visit_is_due}
use Rattle.cursor.proofs.cursor.Cursor.visit.Goals as goal

pub returns-in-Ok-Some : goal.returns-in-Ok-Some
returns-in-Ok-Some g c = λ commits. (
  visit_is_due g.C.KeyClass.rules g.O.Outlet.rule commits c.args.self.now c.requires.none_pending c.requires.scanning,
  record { stack = c.visit.new.self; noted = c.in-Ok-Some.visited.rows.items; visits = rw (← c.self.view_is) (rw (c.in-Ok-Some.field-0-is, c.deref.ensures) at c.in-Ok-Some.ensures.visited); after = search rules },
)

pub returns-in-Err : goal.returns-in-Err
returns-in-Err g c = λ commits. (
  visit_is_due g.C.KeyClass.rules g.O.Outlet.rule commits c.args.self.now c.requires.none_pending c.requires.scanning,
  search rules,
  rw (← c.self.view_is) (rw c.deref.ensures at c.in-Err.ensures.memory),
)
