use Rattle.std.proofs.Common.{◌≡◌, ◌<◌, length, get_or, sym, ap, subst, ◌∙◌, arith}
use Rattle.mailbox.specs.Outlets.{tray_rule}
use Rattle.collector.specs.Horizons.{IsHorizon}
use Rattle.store.proofs.Stands.{horizon_is, keeps_dead, none_more, some_scans}
use Rattle.store.proofs.store.Store.keeper.Goals as goal
use Rattle.store.proofs.store.Store.keeper.Goals.{else-is_scanning-via-then-is_scanning+else-opened-least, else-is_scanning-via-else-is_scanning}

pub returns-then-least-commits-clause-none : goal.returns-then-least-commits-clause-none
returns-then-least-commits-clause-none g c =
    let world = c.self.inside.world in
    let number = c.commits-commits.ensures.number in
    let horizon : IsHorizon (length world.commits) world.cursors c.horizon-least.result =
    subst (λ n. IsHorizon n world.cursors c.horizon-least.result) number (subst (λ ks. IsHorizon c.commits-commits.result ks c.horizon-least.result) c.open_cursors-cursors.ensures c.horizon-least.ensures) in
    rw (← c.self.view_is) (sym (horizon_is g.C.KeyClass.rules tray_rule world c.horizon-least.result horizon) ∙ c.if-least-commits.true ∙ number)

pub returns-then-opened-least-clause-keeps : goal.returns-then-opened-least-clause-keeps
returns-then-opened-least-clause-keeps g c =
    let world = c.self.inside.world in
    let number = c.commits-commits.ensures.number in
    let horizon : IsHorizon (length world.commits) world.cursors c.horizon-least.result =
    subst (λ n. IsHorizon n world.cursors c.horizon-least.result) number (subst (λ ks. IsHorizon c.commits-commits.result ks c.horizon-least.result) c.open_cursors-cursors.ensures c.horizon-least.ensures) in
    let at = subst (λ ks. c.cursor-item.result ≡ get_or ks c.loop-cursor.cursor-index c.cursor-item.result) c.open_cursors-cursors.ensures c.cursor-item.is in
    let within : c.loop-cursor.cursor-index < length world.cursors = omega (arith, c.loop-cursor-test.true, ap length c.open_cursors-cursors.ensures) in
    rw (← c.self.view_is, c.serial.ensures)
    (keeps_dead g.C.KeyClass.rules tray_rule world c.loop-cursor.cursor-index c.cursor-item.result at within c.horizon-least.result horizon
    (sym c.is_scanning.ensures.scanning ∙ c.if-is_scanning.true) (sym c.opened.ensures ∙ c.if-opened-least.true) (λ e. c.if-least-commits.false (e ∙ sym number)))

pub loop-cursor-preserved : goal.loop-cursor-preserved
loop-cursor-preserved g c =
    let cursors = c.open_cursors-cursors.result.now in
    let least = c.horizon-least.result in
    elim c.else-is_scanning.branch [
      | else-is_scanning-via-then-is_scanning+else-opened-least w ↦
          none_more cursors least c.loop-cursor.cursor-index c.cursor-item.result c.cursor-item.is c.loop-cursor-test.true (λ s o. w.if-opened-least.false (w.opened.ensures ∙ o)) c.loop-cursor.invariant
      | else-is_scanning-via-else-is_scanning w ↦
          none_more cursors least c.loop-cursor.cursor-index c.cursor-item.result c.cursor-item.is c.loop-cursor-test.true
          (λ s o. let off = sym w.if-is_scanning.false ∙ c.is_scanning.ensures.scanning ∙ s in absurd (cc)) c.loop-cursor.invariant
    ]

pub unreachable-requires : goal.unreachable-requires
unreachable-requires g c =
    some_scans c.open_cursors-cursors.result.now c.horizon-least.result c.commits-commits.result c.loop-cursor.cursor-index c.horizon-least.ensures c.if-least-commits.false c.loop-cursor-test.false c.loop-cursor.invariant
