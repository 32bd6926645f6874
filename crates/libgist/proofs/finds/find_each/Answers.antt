use Rattle.std.proofs.Common.{rules, ◌≡◌, ◌+◌, ◌≤◌, ◌<◌, ◌++◌, length, take, [], ◌∷◌, inl, inr, refl, ap, ◌∙◌, get_or, slice_get, Some, arith}
use Rattle.std.proofs.lemmas.List.{length-append, take_more}
use Rattle.std.proofs.lemmas.Option.{slice_get-get_or}
use Rattle.libgist.proofs.ManyFinds.{ask_push, ends_step, joined_push, rows_step, shows_first}
use Rattle.libgist.specs.ManyFinds.{joined, live_by}
use Rattle.libgist.specs.Shown.{no_words, shown_row}
use Rattle.libgist.proofs.finds.find_each.Goals as goal

pub loop-place-init : goal.loop-place-init
loop-place-init g c = ([], refl, refl, omega arith, tt, refl, refl)

pub returns-in-Ok-2 : goal.returns-in-Ok-2
returns-in-Ok-2 g c =
    let live = live_by g.C.KeyClass.rules g.C.ClassText.texts g.C.Crossing.key_of c.args.snapshot.now c.args.relation in
    let keys = c.args.keys.now in
    let i = c.loop-place.invariant in
    let place = c.loop-place.place in
    let key = get_or keys place no_words in
    let inside : place < length keys = search rules in
    let room : place < length c.args.ends.now = search rules in
    let there : slice_get keys place ≡ Some key = slice_get-get_or keys place no_words inside in
    let lacks : length c.args.rows.now < length (joined i.0) + length c.in-Ok-2.field-0.items = search rules in record {
      ok = shows_first live (shown_row g.C.Crossing.words_of) keys c.args.rows.now c.loop-place.rows c.args.ends.now c.loop-place.ends i.0 c.loop-place.end place i.1 i.2 i.3 (omega (arith, room)) i.4 i.5 i.6 (inr (record { key = key; there = there; why = inl (c.in-Ok-2.field-0.items, c.in-Ok-2.ensures.ok, lacks) }));
      err = tt;
      unfilled = tt;
    }

pub returns-in-Err-2 : goal.returns-in-Err-2
returns-in-Err-2 g c =
    let live = live_by g.C.KeyClass.rules g.C.ClassText.texts g.C.Crossing.key_of c.args.snapshot.now c.args.relation in
    let keys = c.args.keys.now in
    let i = c.loop-place.invariant in
    let place = c.loop-place.place in
    let key = get_or keys place no_words in
    let inside : place < length keys = search rules in
    let room : place < length c.args.ends.now = search rules in
    let later : 0 < place = search rules in
    let there : slice_get keys place ≡ Some key = slice_get-get_or keys place no_words inside in record {
      ok = shows_first live (shown_row g.C.Crossing.words_of) keys c.args.rows.now c.loop-place.rows c.args.ends.now c.loop-place.ends i.0 c.loop-place.end place i.1 i.2 i.3 (omega (arith, room)) i.4 i.5 i.6 (inr (record { key = key; there = there; why = inr (later, c.in-Err-2.field-0, c.in-Err-2.ensures.refused) }));
      err = tt;
      unfilled = tt;
    }

pub loop-place-preserved : goal.loop-place-preserved
loop-place-preserved g c =
    let live = live_by g.C.KeyClass.rules g.C.ClassText.texts g.C.Crossing.key_of c.args.snapshot.now c.args.relation in
    let keys = c.args.keys.now in
    let i = c.loop-place.invariant in
    let place = c.loop-place.place in
    let key = get_or keys place no_words in
    let end = c.loop-place.end in
    let n = c.len-end.result in
    let xs = c.in-Ok.found.items in
    let inside : place < length keys = search rules in
    let room : place < length c.args.ends.now = search rules in
    let count : n ≡ length xs = search rules in
    let fits : end + n ≤ length c.args.rows.now = search rules in
    let more = take_more keys place no_words inside in
    let used : length (joined (i.0 ++ xs ∷ [])) ≡ end + n = ap length (joined_push i.0 xs) ∙ length-append (joined i.0) xs ∙ (let before = i.2 in omega (arith, before, count)) in (
      i.0 ++ xs ∷ [],
      length-append i.0 (xs ∷ []) ∙ ap (λ k. k + 1) i.1,
      used,
      fits,
      rw more (ask_push live (take place keys) i.0 key xs i.4 c.in-Ok.ensures.ok),
      rows_step (shown_row g.C.Crossing.words_of) i.0 xs c.args.rows.now c.loop-place.rows c.put_rows.new.buffer end n count i.2 i.5 (rw c.deref.ensures.value at c.put_rows.ensures),
      ends_step i.0 xs c.loop-place.ends c.args.ends.now place end n i.1 i.2 count room i.6,
    )
