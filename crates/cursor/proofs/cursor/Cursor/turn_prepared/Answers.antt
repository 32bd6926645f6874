use Rattle.std.proofs.Common.{rules, sym, ap}
use Rattle.cursor.proofs.Preparing.{prepared_turns, prepared_refused}
use Rattle.cursor.proofs.cursor.Cursor.turn_prepared.Goals as goal

pub returns-in-Ok : goal.returns-in-Ok
returns-in-Ok g c =
    prepared_turns g.C.KeyClass.rules g.O.Outlet.rule
    c.args.table.now c.args.self.now _ c.args.visit c.visit_prepared.new.self c.in-Ok.visited.page c.in-Ok.visited.rows.items c.requires.due
    (rw (ap (λ k. k.stack) c.self.view_is) at (c.in-Ok.ensures.visited c.args.table.now (sym c.counter.ensures) c.requires.due.page)) (search rules)

pub returns-in-Err : goal.returns-in-Err
returns-in-Err g c =
    prepared_refused g.C.KeyClass.rules g.O.Outlet.rule
    c.args.table.now c.args.self.now _ c.args.visit c.requires.due
    (rw (ap (λ k. k.stack) c.self.view_is) at (c.in-Err.ensures.memory c.args.table.now (sym c.counter.ensures) c.requires.due.page)) (search rules)
