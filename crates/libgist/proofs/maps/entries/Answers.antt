use Rattle.std.proofs.Common.{◌≡◌, ◌∙◌, Some, sym, ap, map, get_or}
use Rattle.std.specs.Prelude.{option_map}
use Rattle.libgist.specs.declared.words.ShownEntry.{ShownEntry}
use Rattle.libgist.specs.MapMaking.{entry_told}
use Rattle.libgist.specs.Shown.{no_words}
use Rattle.libgist.proofs.Restoring.{one_more}
use Rattle.libgist.proofs.maps.entries.Goals as goal

pub reading-preserved : goal.reading-preserved
reading-preserved g c =
    let told = entry_told g.C.Crossing.key_of in
    let nothing : ShownEntry = record { id = 0; key = no_words } in
    let shown = get_or c.args.words.now c.reading.shown-index nothing in
    let key : g.C.Crossing.key_of shown.key ≡ Some c.in-Some.key = sym c.key.ensures ∙ c.in-Some.is in
    let is = ap (option_map (λ k. record { id = shown.id; key = k })) key in
    one_more told c.args.words.now c.reading.shown-index nothing c.reading.entries.items (record { id = shown.id; key = c.in-Some.key }) c.reading-test.true c.reading.invariant is ∙ ap (map Some) (sym c.in-Ok-push.ensures.items)
