use Rattle.std.proofs.Common.{◌≡◌, ◌++◌, ◌∷◌, [], true, sym, ap, ◌∙◌, subst, arith, None}
use Rattle.std.specs.Prelude.{is_ok}
use Rattle.change_list.specs.Changes.{HasKey}
use Rattle.change_list.proofs.Made.{row_found}
use Rattle.split.specs.Tests.{first_failing}
use Rattle.world.specs.Beginnings.{MayBegin}
use Rattle.world.specs.Steps.{find_tests}
use Rattle.world.proofs.FinderSteps.{begun_sound}
use Rattle.world.proofs.world.World.begin.Goals as goal

pub overflow_cast-row : goal.overflow_cast-row
overflow_cast-row g c =
    let made = subst (λ s. HasKey s.commits c.args.row c.args.key) (sym c.self.view_is) c.requires.made in
    let w = row_found c.self.inside.changes c.args.row _ made.1 in
    omega (arith, w.2, c.self.invariant.few_commits, c.self.invariant.commit_limit)

pub invariant_of-self-2 : goal.invariant_of-self-2
invariant_of-self-2 g c =
    let kept : is_ok c.push.result ≡ true = c.if-is_err.ensures.negation in
    let pushed : c.push.new.self.items ≡ c.self.inside.finders.items ++ c.new-finder.result ∷ [] = rw kept at c.push.ensures.items in
    let passed = subst (λ s. first_failing (find_tests s c.args.row) ≡ None) (sym c.self.view_is) c.requires.passed in
    let made = subst (λ s. HasKey s.commits c.args.row c.args.key) (sym c.self.view_is) c.requires.made in
    let may = subst (λ s. MayBegin s c.args.row c.args.page) (sym c.self.view_is) c.requires.may in
    rw (pushed, c.new-finder.ensures) (begun_sound g.C.KeyClass.rules.is_cover _ c.self.invariant c.args.row c.args.key c.args.page c.counter-counter.result passed made may (c.counter-counter.ensures ∙ ap (λ t. t.counter) c.pages.ensures.table))
