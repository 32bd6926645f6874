use Rattle.std.proofs.Common.{◌≡◌, Some, refl, ap, ◌∙◌, arith, rules, slice_get}
use Rattle.std.proofs.lemmas.Option.{slice_get_read}
use Rattle.change_list.specs.declared.item.Item.TheVariants as item
use Rattle.delivery_check.proofs.Places.{mark_at, past_mark, change_at, past_change, past_all, item_within}
use Rattle.delivery_check.proofs.following.is_followed.Goals as goal
use Rattle.delivery_check.proofs.following.is_followed.Goals.{in-Mark+else-not-is_from, in_default+else-not-has_item}

pub returns-then-not-is_from : goal.returns-then-not-is_from
returns-then-not-is_from g c =
    let at : slice_get c.args.items.now c.loop-item.item-index ≡ Some (item.Mark c.in-Mark.number) =
    slice_get_read c.args.items.now _ c.loop-item.item-index _ refl c.loop-item-test.true c.item-item.is ∙ ap Some c.in-Mark.is in (
      λ no. absurd (cc no),
      λ f.
          let w = mark_at _ _ _ _ c.loop-item.invariant.next c.args.items.now c.loop-item.item-index _ at (c.loop-item.invariant.same.0 f) in
          c.if-not-is_from.ensures.1 (record { above = w.0; below = w.1 }),
    )

pub returns-then-not-has_item : goal.returns-then-not-has_item
returns-then-not-has_item g c =
    let at : slice_get c.args.items.now c.loop-item.item-index ≡ Some c.item-item.result =
    slice_get_read c.args.items.now _ c.loop-item.item-index _ refl c.loop-item-test.true c.item-item.is in
    (λ no. absurd (cc no), λ f. c.if-not-has_item.ensures.1 (change_at _ _ _ _ c.loop-item.invariant.next c.args.items.now c.loop-item.item-index _ at c.in_default.not-Mark (c.loop-item.invariant.same.0 f)))

pub overflow_add-position : goal.overflow_add-position
overflow_add-position g c =
    let within = item_within _ c.args.commits.now c.loop-item.next c.item-item.result (c.has_item.ensures.0 (search rules)) in
    search (rules, arith)

pub next_place-next-requires-in_default : goal.next_place-next-requires-in_default
next_place-next-requires-in_default g c =
    let within = item_within _ c.args.commits.now c.loop-item.next c.item-item.result (c.has_item.ensures.0 (search rules)) in
    record { from = omega (arith, within, c.len-count.ensures.len); count = c.len-count.ensures.len }

pub loop-item-preserved : goal.loop-item-preserved
loop-item-preserved g c = elim c.match-item.branch [
  | in-Mark+else-not-is_from w ↦
      let at : slice_get c.args.items.now c.loop-item.item-index ≡ Some (item.Mark w.in-Mark.number) =
      slice_get_read c.args.items.now _ c.loop-item.item-index _ refl c.loop-item-test.true c.item-item.is ∙ ap Some w.in-Mark.is in
      let within = w.if-not-is_from.ensures.0 refl in
      let step = past_mark _ _ _ _ c.loop-item.invariant.next c.args.items.now c.loop-item.item-index _ at within.above within.below in
      rw (w.position-is, w.next-is) (record { next = c.loop-item.invariant.next; same = (λ f. step.0 (c.loop-item.invariant.same.0 f), λ f. c.loop-item.invariant.same.1 (step.1 f)) })
  | in_default+else-not-has_item w ↦
      let at : slice_get c.args.items.now c.loop-item.item-index ≡ Some c.item-item.result =
      slice_get_read c.args.items.now _ c.loop-item.item-index _ refl c.loop-item-test.true c.item-item.is in
      let step = past_change _ _ _ _ c.loop-item.invariant.next c.args.items.now c.loop-item.item-index _ at w.in_default.not-Mark (w.if-not-has_item.ensures.0 refl) in
      rw (w.position-is, w.next-is) (record { next = w.next_place-next-in_default.ensures; same = (λ f. step.0 (c.loop-item.invariant.same.0 f), λ f. c.loop-item.invariant.same.1 (step.1 f)) })
]

pub returns : goal.returns
returns g c = (λ yes. c.loop-item.invariant.same.1 (past_all _ _ c.loop-item.position c.args.items.now c.loop-item.item-index (omega arith)), λ f. refl)
