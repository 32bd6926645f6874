use Rattle.std.proofs.Common.{◌≡◌, ◌-◌, Some, None, refl, ap, ◌∙◌, slice_get}
use Rattle.std.proofs.lemmas.Option.{slice_get_past, slice_get_read}
use Rattle.delivery_check.proofs.remaining.has_row.Goals as goal

pub returns-in_default : goal.returns-in_default
returns-in_default g c =
    let none = slice_get_past c.args.slots.now (c.args.row.row - 1) c.in_default.ensures.lookup.3 in
    (λ no. absurd (cc no), λ there. absurd (cc (none, there.1)))

pub returns-in-None : goal.returns-in-None
returns-in-None g c =
    let slot = c.in-Some.ensures.lookup in
    let at : slice_get c.args.slots.now (c.args.row.row - 1) ≡ Some None =
    slice_get_read c.args.slots.now _ (c.args.row.row - 1) _ refl slot.3.0 slot.1 ∙ ap Some c.in-None.is in
    (λ no. absurd (cc no), λ there. absurd (cc (at, there.1)))
