use Rattle.cursor.proofs.Turning.{turn_fits, turn_lowers, turn_stack}
use Rattle.cursor.proofs.Sending.{turn_sends}
use Rattle.cursor.proofs.cursor.Cursor.turn.Goals as goal

pub returns-clause-fits : goal.returns-clause-fits
returns-clause-fits g c = λ fan sound.
    turn_fits g.C.KeyClass.rules g.O.Outlet.rule g.met.C.KeyClass.lawful
    fan c.args.table.now sound c.args.changes.now c.args.self.now c.advance.new.self c.requires c.advance.result c.advance.ensures

pub returns-clause-less_work : goal.returns-clause-less_work
returns-clause-less_work g c =
    turn_lowers g.C.KeyClass.rules g.O.Outlet.rule g.met.C.KeyClass.lawful
    c.args.table.now c.args.changes.now c.args.self.now c.advance.new.self c.requires c.advance.result c.advance.ensures

pub returns-clause-stack : goal.returns-clause-stack
returns-clause-stack g c = λ fan sound.
    turn_stack g.C.KeyClass.rules g.O.Outlet.rule g.met.C.KeyClass.lawful
    fan c.args.table.now sound c.args.changes.now c.args.self.now c.advance.new.self c.requires c.advance.result c.advance.ensures

pub returns-clause-sends : goal.returns-clause-sends
returns-clause-sends g c =
    turn_sends g.C.KeyClass.rules g.O.Outlet.rule
    c.args.changes.now c.args.table.now c.args.self.now c.advance.new.self c.advance.result c.advance.ensures
