use Rattle.std.proofs.Common.{refl}
use Rattle.key_class.specs.Rules.{satisfies}
use Rattle.snapshot.proofs.Taken.{full, limited}
use Rattle.snapshot.proofs.finds.first_rows.Goals as goal

pub returns-in-Ok : goal.returns-in-Ok
returns-in-Ok g c commits few agrees =
    limited g.C.KeyClass.rules.is_cover c.args.table.now c.requires (satisfies g.C.KeyClass.rules c.args.query.now) commits agrees c.args.limit _ c.find_all.new.sink c.new.ensures.items refl c.in-Ok.ensures.all

pub returns-in-Err-Enough : goal.returns-in-Err-Enough
returns-in-Err-Enough g c commits few agrees =
    full g.C.KeyClass.rules.is_cover c.args.table.now c.requires (satisfies g.C.KeyClass.rules c.args.query.now) commits agrees c.args.limit _ c.find_all.new.sink c.new.ensures.items refl c.in-Err-Enough.ensures.some (c.in-Err-Enough.ensures.why c.in-Err-Enough.field-0-is)
