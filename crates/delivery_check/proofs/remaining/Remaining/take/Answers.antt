use Rattle.std.proofs.Common.{refl, sym, ◌≡◌, ◌-◌, Some, rules, subst, Contains, slice_get}
use Rattle.delivery_check.proofs.Slots.{stands, stands_placed}
use Rattle.delivery_check.proofs.remaining.Remaining.take.Goals as goal

pub returns-clause-told : goal.returns-clause-told
returns-clause-told g c =
    let there = c.has_row.ensures.0 (search rules) in
    let at : slice_get c.self.inside.slots.items (c.args.row.row - 1) ≡ Some (Some c.args.row) = rw c.as_slice.ensures.value at there.1 in
    (λ yes. subst (λ l. Contains l c.args.row) c.self.view_is (stands c.self.inside.slots.items _ c.args.row at), λ is. refl)

pub returns-then-not-has_row-clause-told : goal.returns-then-not-has_row-clause-told
returns-then-not-has_row-clause-told g c = (
  λ no. absurd (cc no),
  λ there.
      let at = stands_placed c.self.inside.slots.items c.args.row c.self.invariant (subst (λ rows. Contains rows c.args.row) (sym c.self.view_is) there) in
      c.if-not-has_row.ensures.1 (rw c.as_slice.ensures.value at),
)
