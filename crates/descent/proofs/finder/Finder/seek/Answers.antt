use Rattle.descent.proofs.Seeking.{lacks_next, on_err, seeking_sought, seeks_row, sought_stack}
use Rattle.descent.proofs.finder.Finder.seek.Goals as goal

pub returns-clause-sought : goal.returns-clause-sought
returns-clause-sought g c = rw (← c.self.view_is) (seeks_row g.C.KeyClass.rules.is_cover c.args.table.now _ c.in-Some.sought c.seek.new.self (rw c.in-Some.is at c.in_ok-sought.ensures.sought))

pub returns-clause-seeking : goal.returns-clause-seeking
returns-clause-seeking g c fan commits sound agrees seeking =
    seeking_sought g.C.KeyClass.rules.is_cover fan c.args.table.now sound commits c.args.self.now seeking g.met.C.KeyClass.lawful.bounds.through agrees c.in-Some.sought _ (returns-clause-sought g c)

pub returns-clause-stack : goal.returns-clause-stack
returns-clause-stack g c fan sound = sought_stack g.C.KeyClass.rules.is_cover fan c.args.table.now sound c.args.self.now c.requires.stack c.in-Some.sought _ (returns-clause-sought g c)

pub returns-in_err-sought-clause-refused_further : goal.returns-in_err-sought-clause-refused_further
returns-in_err-sought-clause-refused_further g c = on_err c.from_residual.result (rw (← c.self.view_is) (lacks_next c.args.table.now (record { serial = c.self.inside.serial; row = c.self.inside.row; key = c.self.inside.key; stack = c.self.inside.stack }) c.in_err-sought.ensures.refused_further))

pub returns-in_err-sought-clause-memory : goal.returns-in_err-sought-clause-memory
returns-in_err-sought-clause-memory g c = on_err c.from_residual.result (rw (← c.self.view_is) c.in_err-sought.ensures.memory)
