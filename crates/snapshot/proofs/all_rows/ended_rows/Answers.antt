use Rattle.std.proofs.Common.{length, refl, sym, ◌∙◌}
use Rattle.snapshot.proofs.Ending.{at_place, ended_on, names_before}
use Rattle.snapshot.proofs.all_rows.ended_rows.Goals as goal

pub note_end-requires : goal.note_end-requires
note_end-requires g c =
    let at = at_place c.args.list.now c.loop-place.place c.in-Some.write (sym c.get.ensures ∙ c.in-Some.is) in
    record { names = names_before c.args.list.now c.len.ensures.legal c.loop-place.place c.in-Some.write at.0 at.1 (length c.loop-place.ended.items) c.loop-place.invariant.one_each }

pub loop-place-preserved : goal.loop-place-preserved
loop-place-preserved g c =
    let at = at_place c.args.list.now c.loop-place.place c.in-Some.write (sym c.get.ensures ∙ c.in-Some.is) in
    rw c.note_end.ensures (ended_on c.args.list.now c.len.ensures.legal c.loop-place.place c.in-Some.write at.0 at.1 (length c.args.list.now) c.loop-place.ended.items c.loop-place.invariant refl)
