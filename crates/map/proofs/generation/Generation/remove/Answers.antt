use Rattle.std.proofs.Common.{◌≡◌, ◌+◌, ◌-◌, ◌<◌, ◌^◌, length, None, Err, sym, ap, ◌∙◌, subst, arith}
use Rattle.std.proofs.lemmas.Result.{err_from_is_err_and}
use Rattle.revisions.specs.Maps.{entries_of, has_id, revision_of, with_change}
use Rattle.revisions.specs.declared.change.MapChange.TheVariants.{Remove}
use Rattle.map.specs.Generations.{IsGeneration, map_of}
use Rattle.map.proofs.Faithful.{revision_is}
use Rattle.map.proofs.Finding.{generation_deleted, has_none, has_one, lives, refuses_removal, removed, some_entry}
use Rattle.map.proofs.Keeping.{Updates, unset}
use Rattle.map.proofs.generation.Generation.remove.Goals as goal

pub returns-in_default-clause-had : goal.returns-in_default-clause-had
returns-in_default-clause-had g c =
    let s = c.self.inside in
    let at = sym c.get.ensures ∙ c.in_default.is in
    sym (has_none s.oldest s.begun s.len s.store.commits s.numbers c.self.invariant c.args.id at) ∙ ap (λ m. has_id c.args.id (entries_of m)) c.self.view_is

pub returns-in_err-delete-clause-refusals : goal.returns-in_err-delete-clause-refusals
returns-in_err-delete-clause-refusals g c =
    let s = c.self.inside in
    let at = sym c.get.ensures ∙ c.in-Some.is in
    let live = lives s.oldest s.begun s.len s.store.commits s.numbers c.self.invariant c.args.id c.in-Some.number at in
    let refused = c.in_err-delete.ensures in
    let p = err_from_is_err_and c.from_residual.result c.from_residual.ensures.1 in
    rw (p.1, p.2) (refuses_removal s.store.commits c.in-Some.number live c.in_err-delete.field-0.0 (λ e. refused.no_such_row.0 (ap Err e)) (λ e. refused.already_deleted.0 (ap Err e)) s.store refused.refusals)

pub overflow_sub-self : goal.overflow_sub-self
overflow_sub-self g c =
    let s = c.self.inside in
    let at = sym c.get.ensures ∙ c.in-Some.is in
    some_entry s.oldest s.begun s.len s.store.commits s.numbers c.self.invariant c.args.id c.in-Some.number at

pub invariant_of-self-2 : goal.invariant_of-self-2
invariant_of-self-2 g c =
    let s = c.self.inside in
    let commits = s.store.commits in
    let at = sym c.get.ensures ∙ c.in-Some.is in
    let number : c.revision.result ≡ s.oldest + (length commits - s.begun) = c.revision.ensures.is ∙ ap revision_of (sym c.self.view_is) ∙ revision_is s.oldest s.begun commits c.self.invariant.list in
    let few : s.oldest + (length commits - s.begun) + 1 < 2 ^ 64 = omega (arith, number, c.if-revision.false, c.revision.type_inv) in
    subst (λ l. IsGeneration s.oldest s.begun (s.len - 1) l c.remove.new.self) (sym c.in_ok-delete.ensures.ok.commits)
    (generation_deleted s.oldest s.begun s.len commits s.numbers c.self.invariant c.args.id c.in-Some.number at c.remove.new.self few (subst (λ new. Updates s.numbers new c.args.id None) (sym c.remove.ensures.removed) (unset s.numbers c.args.id)))

pub returns-clause-had : goal.returns-clause-had
returns-clause-had g c =
    let s = c.self.inside in
    let at = sym c.get.ensures ∙ c.in-Some.is in
    sym (has_one s.oldest s.begun s.len s.store.commits s.numbers c.self.invariant c.args.id c.in-Some.number at) ∙ ap (λ m. has_id c.args.id (entries_of m)) c.self.view_is

pub returns-clause-ok : goal.returns-clause-ok
returns-clause-ok g c =
    let s = c.self.inside in
    let at = sym c.get.ensures ∙ c.in-Some.is in
    ap (map_of s.oldest s.begun) c.in_ok-delete.ensures.ok.commits ∙ removed s.oldest s.begun s.len s.store.commits s.numbers c.self.invariant c.args.id c.in-Some.number at ∙ ap (with_change (Remove c.args.id)) c.self.view_is
