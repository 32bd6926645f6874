use Rattle.key_class.specs.Rules.{satisfies}
use Rattle.snapshot.proofs.Taken.{appended}
use Rattle.snapshot.proofs.finds.found_rows.Goals as goal

pub returns-in-Ok : goal.returns-in-Ok
returns-in-Ok g c commits few agrees =
    appended g.C.KeyClass.rules.is_cover c.args.table.now c.requires (satisfies g.C.KeyClass.rules c.args.query.now) commits agrees c.in_ok-rows.rows c.find_all.new.sink c.in_ok-rows.ensures.items c.in-Ok.ensures.all
