use Rattle.std.proofs.Common.{◌≡◌, rules, refl, subst, sym, ◌<◌, ◌^◌}
use Rattle.key_class.specs.Rules.{satisfies}
use Rattle.scan.proofs.Arranged.{same_rows_arranged}
use Rattle.snapshot.proofs.Taken.{surely, written}
use Rattle.snapshot.specs.Finds.{AreWritten, live_after}
use Rattle.snapshot.proofs.finds.write_rows.Goals as goal

pub returns : goal.returns
returns g c commits few agrees =
    let wanted = satisfies g.C.KeyClass.rules c.args.query.now in
    let called = c.find_all-never_stops in
    let new = called.new.sink in
    let taken = surely called.result called.ensures.all called.ensures.why in
    let is : new.places.now ≡ c.into-1.given.0 = search rules in
    let n = c.total.ensures.total in
    subst (λ l. AreWritten (live_after wanted commits) c.args.into.now l c.total.result) is
    (subst (λ m. AreWritten (live_after wanted commits) c.args.into.now new.places.now m) (sym n)
    (written g.C.KeyClass.rules.is_cover c.args.table.now c.requires wanted commits agrees (λ xs ys same. same_rows_arranged g.C.Key.PartialEq.eq g.met.C.KeyClass.lawful.equal_keys_are_same xs ys same)
    c.args.into.now _ new refl refl refl (subst (λ m. m < 2 ^ 64) n c.total.ensures.within) few taken))
