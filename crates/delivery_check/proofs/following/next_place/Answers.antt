use Rattle.std.proofs.Common.{◌≡◌, None, rules, arith}
use Rattle.delivery_check.proofs.Places.{next_more}
use Rattle.delivery_check.proofs.following.next_place.Goals as goal

pub loop-place-preserved : goal.loop-place-preserved
loop-place-preserved g c =
    let none : c.change_item.result ≡ None = search rules in
    next_more _ _ c.args.from c.loop-place.place (omega arith) c.loop-place.invariant (rw c.change_item.ensures at none)
