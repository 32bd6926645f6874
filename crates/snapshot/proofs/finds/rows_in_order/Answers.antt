use Rattle.std.proofs.Common.{length, ◌∙◌}
use Rattle.std.proofs.lemmas.Result.{IfOk-weaker}
use Rattle.key_class.specs.Rules.{satisfies}
use Rattle.scan.proofs.Arranged.{same_rows_arranged}
use Rattle.snapshot.proofs.Finding.{sorted_snapshot}
use Rattle.snapshot.proofs.finds.rows_in_order.Goals as goal

pub returns : goal.returns
returns g c =
    IfOk-weaker c.sort_by_number.result _ _ (λ v sorted. λ commits few agrees.
    sorted_snapshot (λ xs ys same. same_rows_arranged g.C.Key.PartialEq.eq g.met.C.KeyClass.lawful.equal_keys_are_same xs ys same) (satisfies g.C.KeyClass.rules c.args.query.now) (length commits) commits v.items
    (λ w. sorted.same w ∙ c.in_ok-rows.ensures commits few agrees w) sorted.rising) c.sort_by_number.ensures
