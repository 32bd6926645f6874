use Rattle.std.proofs.Common.{◌<◌, length, sym, ◌∙◌, arith}
use Rattle.snapshot.proofs.Ending.{flag_at, living_ended, living_more, living_none, living_unmade}
use Rattle.snapshot.proofs.all_rows.all_rows.Goals as goal
use Rattle.snapshot.proofs.all_rows.all_rows.Goals.{in-Some+in_ok-push, in_default}

pub loop-place-init : goal.loop-place-init
loop-place-init g c = c.new-found.ensures.items ∙ sym (living_none c.args.list.now)

pub loop-place-preserved-then-index : goal.loop-place-preserved-then-index
loop-place-preserved-then-index g c =
    let list = c.args.list.now in
    let place = c.loop-place.place in
    let tells = c.in_ok-ended.ensures in
    let within : place < length list = omega (arith, c.loop-place-test.true, c.len-place-end.ensures, tells.one_each) in
    let told = flag_at list (length list) c.in_ok-ended.ended.items tells place within c.index.result.now c.index.result.now c.index.ensures in
    c.loop-place.invariant ∙ sym (living_ended list place within (sym told ∙ c.if-index.true))

pub loop-place-preserved : goal.loop-place-preserved
loop-place-preserved g c =
    let list = c.args.list.now in
    let place = c.loop-place.place in
    let tells = c.in_ok-ended.ensures in
    let within : place < length list = omega (arith, c.loop-place-test.true, c.len-place-end.ensures, tells.one_each) in
    let told = flag_at list (length list) c.in_ok-ended.ended.items tells place within c.index.result.now c.index.result.now c.index.ensures in
    elim c.match-row.branch [
      | in-Some+in_ok-push w ↦
          rw (w.found-is, w.in_ok-push.ensures.items, c.loop-place.invariant)
          (sym (living_more list place within w.in-Some.row (sym c.row.ensures ∙ w.in-Some.is) (sym told ∙ c.if-index.false)))
      | in_default w ↦
          rw (w.found-is)
          (c.loop-place.invariant ∙ sym (living_unmade list place within (sym c.row.ensures ∙ w.in_default.is)))
    ]
