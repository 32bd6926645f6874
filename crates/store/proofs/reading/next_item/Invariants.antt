use Rattle.mailbox.specs.Outlets.{tray_rule}
use Rattle.world.specs.States.{IsSoundWorld}
use Rattle.store.proofs.Turning.{IsOnWay, work_at}
use Rattle.store.proofs.reading.next_item.Given as goal

abbrev pub invariant-turning : goal.invariant-turning
invariant-turning g l = IsSoundWorld g.C.KeyClass.rules.is_cover l.world × IsOnWay g.C.KeyClass.rules tray_rule l.initial.world l.world l.c

abbrev pub decreases-turning : goal.decreases-turning
decreases-turning g l = work_at g.C.KeyClass.rules tray_rule l.world l.c
