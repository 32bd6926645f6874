use Rattle.std.proofs.Common.{refl, subst, ◌<◌, ◌^◌, ◌∙◌}
use Rattle.key_class.specs.Rules.{satisfies}
use Rattle.snapshot.proofs.Taken.{counted, surely}
use Rattle.snapshot.proofs.finds.number_of_rows.Goals as goal

pub returns : goal.returns
returns g c commits few agrees =
    let taken = surely c.find_all-never_stops.result c.find_all-never_stops.ensures.all c.find_all-never_stops.ensures.why in
    let new = c.find_all-never_stops.new.sink in
    c.total.ensures.total ∙ counted g.C.KeyClass.rules.is_cover c.args.table.now c.requires (satisfies g.C.KeyClass.rules c.args.query.now) commits agrees _ new refl (subst (λ n. n < 2 ^ 64) c.total.ensures.total c.total.ensures.within) few taken
