use Rattle.std.proofs.Common.{rules, ◌≡◌, length, subst, sym, arith}
use Rattle.std.proofs.lemmas.Result.{on_ok_weaker}
use Rattle.page_table.specs.Chunks.{both_changed}
use Rattle.page_table.specs.Trees.{no_page}
use Rattle.page_table.proofs.Tables.{ChunksBecome, all_of, in_all, slice_back}
use Rattle.page_table.proofs.top.change_pages.Goals as goal

pub change_both-requires-clause-upper : goal.change_both-requires-clause-upper
change_both-requires-clause-upper g c = rw c.as_mut_slice.ensures.value (in_all c.requires.upper_exists (omega arith))

pub change_both-requires-clause-lower : goal.change_both-requires-clause-lower
change_both-requires-clause-lower g c = rw c.as_mut_slice.ensures.value (in_all c.requires.lower_exists (omega arith))

pub returns-clause-changed : goal.returns-clause-changed
returns-clause-changed g c =
    let old = c.args.chunks.now.items in
    let new = c.change_both.new.places in
    let changed = both_changed no_page (λ x y. g.C.PageChange.upper_after c.args.change.now x y tt) (λ x y. g.C.PageChange.lower_after c.args.change.now x y tt) c.args.upper c.args.lower in
    let size : c.args.chunks.now.len ≡ length old = search rules in
    let became = rw c.as_mut_slice.ensures.value at c.change_both.ensures.changed in
    on_ok_weaker c.change_both.result (λ becomes. subst (λ cs. ChunksBecome old cs (changed (all_of old))) (sym (slice_back old new c.args.chunks.now.len size becomes.full.count)) becomes) became
