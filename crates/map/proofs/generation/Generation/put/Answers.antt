use Rattle.std.proofs.Common.{◌≡◌, ◌+◌, ◌-◌, ◌<◌, ◌^◌, ◌++◌, ◌∷◌, [], length, None, Some, Err, sym, ap, ◌∙◌, subst, arith}
use Rattle.std.specs.FinMap.{insert}
use Rattle.std.proofs.lemmas.Result.{err_from_is_err_and}
use Rattle.change_list.specs.declared.write.Write.TheVariants.{Insert}
use Rattle.revisions.specs.Maps.{revision_of, with_change}
use Rattle.revisions.specs.declared.change.MapChange.TheVariants.{Put}
use Rattle.map.specs.Generations.{IsGeneration, TellsRows, map_of}
use Rattle.map.proofs.Faithful.{revision_is}
use Rattle.map.proofs.Finding.{generation_kept, generation_moved, generation_put, lives, no_row, put_inserted, put_moved, refuses_move}
use Rattle.map.proofs.Keeping.{Updates, updated}
use Rattle.map.proofs.Numbering.{one_more_inserted, rows_few}
use Rattle.map.proofs.generation.Generation.put.Goals as goal

pub invariant_of-self : goal.invariant_of-self
invariant_of-self g c =
    let s = c.self.inside in
    generation_kept s.oldest s.begun s.len s.store.commits s.numbers c.self.invariant c.insert_row.new.store.commits c.insert_row.new.numbers c.in_err-insert_row.ensures.err c.insert_row.ensures.told

pub overflow_add-self : goal.overflow_add-self
overflow_add-self g c =
    let s = c.self.inside in
    let commits = s.store.commits in
    let made = c.in_ok-insert_row.ensures.ok in
    let more = one_more_inserted commits c.args.key c.args.id c.self.invariant.list.legal in
    let few = rows_few (commits ++ Insert c.args.key c.args.id ∷ []) in
    omega (arith, c.self.invariant.counted, more, few, ap length made, c.in_ok-insert_row.ensures.few)

pub invariant_of-self-in_default : goal.invariant_of-self-in_default
invariant_of-self-in_default g c =
    let s = c.self.inside in
    let commits = s.store.commits in
    let numbers = c.insert_row.new.numbers in
    let at = sym c.get.ensures ∙ c.in_default.is in
    let absent = no_row s.oldest s.begun s.len commits s.numbers c.self.invariant c.args.id at in
    let number : c.revision.result ≡ s.oldest + (length commits - s.begun) = c.revision.ensures.is ∙ ap revision_of (sym c.self.view_is) ∙ revision_is s.oldest s.begun commits c.self.invariant.list in
    let few : s.oldest + (length commits - s.begun) + 1 < 2 ^ 64 = omega (arith, number, c.if-revision.false, c.revision.type_inv) in
    let made = c.in_ok-insert_row.ensures.ok in
    subst (λ l. IsGeneration s.oldest s.begun (s.len + 1) l numbers) (sym made)
    (generation_put s.oldest s.begun s.len commits s.numbers c.self.invariant c.args.id c.args.key absent numbers few (subst (λ l. TellsRows numbers l) made c.insert_row.ensures.told))

pub returns-in_default-clause-ok : goal.returns-in_default-clause-ok
returns-in_default-clause-ok g c =
    let s = c.self.inside in
    let commits = s.store.commits in
    let at = sym c.get.ensures ∙ c.in_default.is in
    let absent = no_row s.oldest s.begun s.len commits s.numbers c.self.invariant c.args.id at in
    ap (map_of s.oldest s.begun) c.in_ok-insert_row.ensures.ok ∙ put_inserted s.oldest s.begun s.len commits s.numbers c.self.invariant c.args.id c.args.key absent ∙ ap (with_change (Put c.args.id c.args.key)) c.self.view_is

pub returns-in_err-made-clause-refusals : goal.returns-in_err-made-clause-refusals
returns-in_err-made-clause-refusals g c =
    let s = c.self.inside in
    let commits = s.store.commits in
    let at = sym c.get.ensures ∙ c.in-Some.is in
    let live = lives s.oldest s.begun s.len commits s.numbers c.self.invariant c.args.id c.in-Some.number at in
    let refused = c.in_err-made.ensures in
    let why = c.in_err-made.field-0.0 in
    let p = err_from_is_err_and c.from_residual-in_err-made.result c.from_residual-in_err-made.ensures.1 in
    rw (p.1, p.2) (refuses_move commits c.in-Some.number live why (λ e. refused.no_such_row.0 (ap Err e)) (λ e. refused.already_deleted.0 (ap Err e)) s.store c.move_row.new.self refused.refusals)

pub unreachable-requires : goal.unreachable-requires
unreachable-requires g c =
    let e : None ≡ Some c.in-Some.number = sym c.in_default-insert.ensures.absent ∙ sym c.get.ensures ∙ c.in-Some.is in
    cc

pub invariant_of-self-2 : goal.invariant_of-self-2
invariant_of-self-2 g c =
    let s = c.self.inside in
    let commits = s.store.commits in
    let at = sym c.get.ensures ∙ c.in-Some.is in
    let moved = c.in_ok-made.ensures in
    let number : c.revision.result ≡ s.oldest + (length commits - s.begun) = c.revision.ensures.is ∙ ap revision_of (sym c.self.view_is) ∙ revision_is s.oldest s.begun commits c.self.invariant.list in
    let few : s.oldest + (length commits - s.begun) + 1 < 2 ^ 64 = omega (arith, number, c.if-revision.false, c.revision.type_inv) in
    let up = subst (λ new. Updates s.numbers new c.args.id (Some (length commits + 1))) (sym (c.in-Ok.ensures.ok ∙ ap (insert s.numbers c.args.id) moved.number)) (updated s.numbers c.args.id (length commits + 1)) in
    subst (λ l. IsGeneration s.oldest s.begun s.len l c.insert.new.self) (sym moved.ok.commits)
    (generation_moved s.oldest s.begun s.len commits s.numbers c.self.invariant c.args.id c.in-Some.number at c.insert.new.self few c.args.key up)

pub returns-clause-ok : goal.returns-clause-ok
returns-clause-ok g c =
    let s = c.self.inside in
    let commits = s.store.commits in
    let at = sym c.get.ensures ∙ c.in-Some.is in
    ap (map_of s.oldest s.begun) c.in_ok-made.ensures.ok.commits ∙ put_moved s.oldest s.begun s.len commits s.numbers c.self.invariant c.args.id c.in-Some.number at c.args.key ∙ ap (with_change (Put c.args.id c.args.key)) c.self.view_is
