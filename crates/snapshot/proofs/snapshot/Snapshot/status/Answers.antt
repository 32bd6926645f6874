use Rattle.std.proofs.Common.{◌≡◌, ◌↔◌, Some, sym, subst, ◌∙◌, arith}
use Rattle.std.specs.Prelude.{IsTrue}
use Rattle.change_list.proofs.Made.{has_key, row_found}
use Rattle.change_list.specs.Changes.{NamesLive, row_at, status_of}
use Rattle.change_list.specs.declared.write.Status.TheVariants.{Dead, Live, NeverIssued}
use Rattle.page_table.proofs.Counting.{false_true}
use Rattle.snapshot.proofs.Living.{dead_else, never_issued}
use Rattle.snapshot.proofs.snapshot.Snapshot.status.Goals as goal

pub returns-in_default-clause-ok : goal.returns-in_default-clause-ok
returns-in_default-clause-ok g c =
    sym (subst (λ l. status_of l c.args.number ≡ NeverIssued) c.self.view_is (never_issued c.self.inside.list c.args.number c.self.invariant.legal (sym c.row.ensures ∙ c.in_default.is)))

pub overflow_cast-number : goal.overflow_cast-number
overflow_cast-number g c =
    let is : row_at c.self.inside.list c.args.number ≡ Some c.in-Some.made = sym c.row.ensures ∙ c.in-Some.is in
    let found = row_found c.self.inside.list c.args.number c.in-Some.made is in
    omega (arith, found.2, c.self.invariant.few)

pub returns-then-branch-clause-ok : goal.returns-then-branch-clause-ok
returns-then-branch-clause-ok g c =
    let list = c.self.inside.list in
    let is : row_at list c.args.number ≡ Some c.in-Some.made = sym c.row.ensures ∙ c.in-Some.is in
    let told : IsTrue c.in_ok-lives.field-0 ↔ NamesLive list c.args.number = c.in_ok-lives.ensures list c.self.invariant.agrees (has_key list c.args.number c.in-Some.made is) in
    sym (subst (λ l. status_of l c.args.number ≡ Live) c.self.view_is (told.0 c.if-branch.true))

pub returns-else-branch-clause-ok : goal.returns-else-branch-clause-ok
returns-else-branch-clause-ok g c =
    let list = c.self.inside.list in
    let is : row_at list c.args.number ≡ Some c.in-Some.made = sym c.row.ensures ∙ c.in-Some.is in
    let told : IsTrue c.in_ok-lives.field-0 ↔ NamesLive list c.args.number = c.in_ok-lives.ensures list c.self.invariant.agrees (has_key list c.args.number c.in-Some.made is) in
    let dead = dead_else list c.args.number c.in-Some.made is (λ live. false_true c.in_ok-lives.field-0 c.if-branch.false (told.1 live)) in
    sym (subst (λ l. status_of l c.args.number ≡ Dead) c.self.view_is dead)
