use Rattle.std.proofs.Common.{rules, ◌≡◌, length, get_or, subst, sym, ◌∙◌, arith}
use Rattle.std.proofs.lemmas.Result.{on_ok_weaker}
use Rattle.page_table.specs.Chunks.{three_changed}
use Rattle.page_table.specs.Trees.{no_page}
use Rattle.page_table.proofs.Chunks.{first_last, last_between}
use Rattle.page_table.proofs.Tables.{ChunksBecome, all_of, in_all, slice_back}
use Rattle.page_table.proofs.top.change_three.Goals as goal

pub change_all-requires-clause-beside : goal.change_all-requires-clause-beside
change_all-requires-clause-beside g c = rw c.as_mut_slice-places.ensures.value (in_all c.requires.beside_exists (omega arith))

pub change_all-requires-then-upper-lower-clause-beside : goal.change_all-requires-then-upper-lower-clause-beside
change_all-requires-then-upper-lower-clause-beside g c = rw c.as_mut_slice-places.ensures.value (in_all c.requires.lower_exists (omega arith))

pub change_all-requires-else-upper-lower-clause-beside : goal.change_all-requires-else-upper-lower-clause-beside
change_all-requires-else-upper-lower-clause-beside g c = rw c.as_mut_slice-places.ensures.value (in_all c.requires.upper_exists (omega arith))

pub returns-then-lower-beside-clause-changed : goal.returns-then-lower-beside-clause-changed
returns-then-lower-beside-clause-changed g c =
    let change = c.args.change.now in
    let old = c.args.chunks.now.items in
    let new = c.change_all.new.places in
    let after = three_changed no_page (g.C.PageChange.upper_after change) (g.C.PageChange.lower_after change) (g.C.PageChange.beside_after change) c.args.upper c.args.lower c.args.beside in
    let size : c.args.chunks.now.len ≡ length old = search rules in
    let became = rw c.as_mut_slice-places.ensures.value at c.change_all.ensures.changed in
    on_ok_weaker c.change_all.result (λ becomes. subst (λ cs. ChunksBecome old cs (after (all_of old))) (sym (slice_back old new c.args.chunks.now.len size becomes.full.count)) becomes) became

pub returns-then-upper-lower-clause-changed : goal.returns-then-upper-lower-clause-changed
returns-then-upper-lower-clause-changed g c =
    let change = c.args.change.now in
    let old = c.args.chunks.now.items in
    let all = all_of old in
    let new = c.change_all-then-upper-lower.new.places in
    let after = three_changed no_page (g.C.PageChange.upper_after change) (g.C.PageChange.lower_after change) (g.C.PageChange.beside_after change) c.args.upper c.args.lower c.args.beside in
    let size : c.args.chunks.now.len ≡ length old = search rules in
    let above = get_or all c.args.upper no_page in
    let below = get_or all c.args.lower no_page in
    let page = get_or all c.args.beside no_page in
    let up = g.C.PageChange.upper_after change above below page in
    let low = g.C.PageChange.lower_after change above below page in
    let by = g.C.PageChange.beside_after change above below page in
    let order = last_between all c.args.upper c.args.beside c.args.lower up by low (λ f. c.requires.lower_beside (sym f)) ∙ first_last all c.args.upper c.args.lower c.args.beside up low by c.requires.lower_apart in
    let became = rw c.as_mut_slice-places.ensures.value at c.change_all-then-upper-lower.ensures.changed in
    on_ok_weaker c.change_all-then-upper-lower.result (λ becomes.
    let ordered : ChunksBecome old new (after all) = record { full = becomes.full; pages = becomes.pages ∙ order } in
    subst (λ cs. ChunksBecome old cs (after all)) (sym (slice_back old new c.args.chunks.now.len size becomes.full.count)) ordered) became

pub returns-else-upper-lower-clause-changed : goal.returns-else-upper-lower-clause-changed
returns-else-upper-lower-clause-changed g c =
    let change = c.args.change.now in
    let old = c.args.chunks.now.items in
    let all = all_of old in
    let new = c.change_all-else-upper-lower.new.places in
    let after = three_changed no_page (g.C.PageChange.upper_after change) (g.C.PageChange.lower_after change) (g.C.PageChange.beside_after change) c.args.upper c.args.lower c.args.beside in
    let size : c.args.chunks.now.len ≡ length old = search rules in
    let above = get_or all c.args.upper no_page in
    let below = get_or all c.args.lower no_page in
    let page = get_or all c.args.beside no_page in
    let up = g.C.PageChange.upper_after change above below page in
    let low = g.C.PageChange.lower_after change above below page in
    let by = g.C.PageChange.beside_after change above below page in
    let order = last_between all c.args.lower c.args.beside c.args.upper low by up (λ f. c.requires.upper_beside (sym f)) in
    let became = rw c.as_mut_slice-places.ensures.value at c.change_all-else-upper-lower.ensures.changed in
    on_ok_weaker c.change_all-else-upper-lower.result (λ becomes.
    let ordered : ChunksBecome old new (after all) = record { full = becomes.full; pages = becomes.pages ∙ order } in
    subst (λ cs. ChunksBecome old cs (after all)) (sym (slice_back old new c.args.chunks.now.len size becomes.full.count)) ordered) became
