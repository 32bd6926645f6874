use Rattle.std.proofs.lemmas.Result.{IfOk-weaker}
use Rattle.key_class.specs.Rules.{satisfies}
use Rattle.scan.proofs.Arranged.{same_rows_arranged}
use Rattle.snapshot.specs.Finds.{live_after}
use Rattle.snapshot.proofs.finds.rows_in_any_order.Goals as goal

pub returns : goal.returns
returns g c =
    IfOk-weaker c.found_rows.result _ _ (λ v found. λ commits few agrees.
    same_rows_arranged g.C.Key.PartialEq.eq g.met.C.KeyClass.lawful.equal_keys_are_same v.items (live_after (satisfies g.C.KeyClass.rules c.args.query.now) commits) (found commits few agrees)) c.found_rows.ensures
