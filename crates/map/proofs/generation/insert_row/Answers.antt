use Rattle.std.proofs.Common.{◌≡◌, ◌+◌, Some, length, sym, ap, ◌∙◌, subst, arith}
use Rattle.std.specs.FinMap.{insert, remove}
use Rattle.map.specs.Generations.{TellsRows}
use Rattle.map.proofs.Keeping.{Updates, tells_inserted, tells_kept, updated}
use Rattle.map.proofs.generation.insert_row.Goals as goal

pub returns-in-Ok-clause-told : goal.returns-in-Ok-clause-told
returns-in-Ok-clause-told g c =
    let commits = c.args.store.now.commits in
    let n : c.in-Some.number ≡ length commits + 1 = omega (arith, c.in-Some.ensures, c.commits.ensures.number) in
    let up = subst (λ new. Updates c.args.numbers.now new c.args.id (Some (length commits + 1))) (sym (c.in_ok-insert.ensures.ok ∙ ap (insert c.args.numbers.now c.args.id) n)) (updated c.args.numbers.now c.args.id (length commits + 1)) in
    subst (λ l. TellsRows c.insert.new.self l) (sym c.in-Ok.ensures.ok.commits) (tells_inserted c.args.numbers.now c.insert.new.self commits c.requires.tells c.args.id c.args.key c.requires.legal c.requires.absent up)

pub returns-in-Err-clause-told : goal.returns-in-Err-clause-told
returns-in-Err-clause-told g c =
    let commits = c.args.store.now.commits in
    let old = c.args.numbers.now in
    subst (λ l. TellsRows c.remove.new.self l) (sym c.in-Err.ensures.err.commits)
    (subst (λ new. TellsRows new commits) (sym c.remove.ensures.removed)
    (subst (λ mid. TellsRows (remove mid c.args.id) commits) (sym c.in_ok-insert.ensures.ok) (tells_kept old commits c.requires.tells c.args.id c.in-Some.number c.requires.absent)))
