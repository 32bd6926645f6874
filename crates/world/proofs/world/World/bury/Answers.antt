use Rattle.std.proofs.Common.{◌≡◌, ◌+◌, refl, sym, ap, ◌∙◌, subst, arith, inl, inr, length, true}
use Rattle.std.proofs.lemmas.Result.{err_from_is_err_and}
use Rattle.std.proofs.lemmas.Grind.{common_steps}
use Rattle.change_list.specs.Changes.{status_of}
use Rattle.change_list.specs.declared.write.Status.TheVariants.{Live}
use Rattle.change_list.specs.declared.write.Write.TheVariants.{Delete}
use Rattle.split.specs.SearchTrees.{with_death}
use Rattle.split.specs.Tests.{is_leaf}
use Rattle.world.specs.States.{Meets}
use Rattle.world.proofs.FinderSteps.{meets_on, row_lives, buries_sound}
use Rattle.world.proofs.Meeting.{finder_within, finder_is, meets_full, meets_row, meets_passes, bury_change}
use Rattle.world.proofs.world.World.bury.Goals as goal

pub returns-then-len-self : goal.returns-then-len-self
returns-then-len-self g c =
    let m = subst (λ s. Meets s c.args.f c.args.at c.args.page) (sym c.self.view_is) c.requires in
    rw (← c.self.view_is) (record {
      cause = inl (meets_full g.C.KeyClass.rules.is_cover _ c.self.invariant c.args.f c.args.at c.args.page m (omega (arith, c.if-len-self.true, c.len.ensures.len)));
      unchanged = refl;
    })

pub index-requires : goal.index-requires
index-requires g c =
    let m = subst (λ s. Meets s c.args.f c.args.at c.args.page) (sym c.self.view_is) c.requires in
    let l = finder_within g.C.KeyClass.rules.is_cover _ c.self.invariant c.args.f c.args.at m.here in
    grind (arith, common_steps)

pub commit-requires-clause-follows : goal.commit-requires-clause-follows
commit-requires-clause-follows g c =
    let m = subst (λ s. Meets s c.args.f c.args.at c.args.page) (sym c.self.view_is) c.requires in
    let same = finder_is g.C.KeyClass.rules.is_cover _ c.self.invariant c.args.f c.args.at m.here c.index.result.now c.index.ensures in
    let row : m.here.value.row ≡ c.row.result = ap (λ k. k.row) same ∙ sym c.row.ensures in
    let live = row_lives g.C.KeyClass.rules.is_cover _ c.self.invariant c.args.f m.here.value m.here.found m.alive in
    subst (λ n. status_of c.self.inside.changes n ≡ Live) row live

pub commit-requires-clause-takes : goal.commit-requires-clause-takes
commit-requires-clause-takes g c =
    let m = subst (λ s. Meets s c.args.f c.args.at c.args.page) (sym c.self.view_is) c.requires in
    let there = (meets_on g.C.KeyClass.rules.is_cover _ c.self.invariant c.args.f m.here.value c.args.page m.here.found m.finds).leaf in
    subst (λ p. is_leaf c.self.inside.search.tree p ≡ true) (sym c.from.ensures) there

pub let_go-requires : goal.let_go-requires
let_go-requires g c =
    let m = subst (λ s. Meets s c.args.f c.args.at c.args.page) (sym c.self.view_is) c.requires in
    let l = finder_within g.C.KeyClass.rules.is_cover _ c.self.invariant c.args.f c.args.at m.here in
    grind (arith, common_steps)

pub invariant_of-self-2 : goal.invariant_of-self-2
invariant_of-self-2 g c =
    let m = subst (λ s. Meets s c.args.f c.args.at c.args.page) (sym c.self.view_is) c.requires in
    let same = finder_is g.C.KeyClass.rules.is_cover _ c.self.invariant c.args.f c.args.at m.here c.index.result.now c.index.ensures in
    let row : m.here.value.row ≡ c.row.result = ap (λ k. k.row) same ∙ sym c.row.ensures in
    let passed = meets_passes g.C.KeyClass.rules.is_cover _ c.self.invariant c.args.f c.args.at c.args.page m (omega (arith, c.if-len-self.false, c.len.ensures.len)) in
    let buried : c.commit.new.search ≡ with_death c.self.inside.search c.args.page c.row.result (length c.self.inside.changes + 1)
    = c.in_ok-number.ensures.changed ∙ ap (λ p. with_death c.self.inside.search p c.row.result (length c.self.inside.changes + 1)) c.from.ensures in
    let change = bury_change g.C.KeyClass.rules.is_cover _ c.self.invariant c.args.f c.args.at c.args.page m c.args.seat (record { number = length c.self.inside.changes + 1; seat = c.args.seat; write = Delete c.row.result })
    c.commit.new.search c.commit.new.commits c.let_go.new.members.items c.row.result (length c.self.inside.changes + 1) row refl buried c.in_ok-number.ensures.committed c.let_go.ensures refl in
    buries_sound g.C.KeyClass.rules.is_cover _ c.self.invariant c.args.seat c.args.f _ _ passed change

pub returns : goal.returns
returns g c =
    let m = subst (λ s. Meets s c.args.f c.args.at c.args.page) (sym c.self.view_is) c.requires in
    let same = finder_is g.C.KeyClass.rules.is_cover _ c.self.invariant c.args.f c.args.at m.here c.index.result.now c.index.ensures in
    let row : m.here.value.row ≡ c.row.result = ap (λ k. k.row) same ∙ sym c.row.ensures in
    let buried : c.commit.new.search ≡ with_death c.self.inside.search c.args.page c.row.result (length c.self.inside.changes + 1)
    = c.in_ok-number.ensures.changed ∙ ap (λ p. with_death c.self.inside.search p c.row.result (length c.self.inside.changes + 1)) c.from.ensures in
    let stamped = c.new.ensures ∙ ap (λ n. record { number = n; seat = c.args.seat; write = c.write.result }) c.in_ok-number.ensures.number ∙ ap (λ w. record { number = length c.self.inside.changes + 1; seat = c.args.seat; write = w }) c.write.ensures in
    rw (← c.self.view_is) (record {
      passed = meets_passes g.C.KeyClass.rules.is_cover _ c.self.invariant c.args.f c.args.at c.args.page m (omega (arith, c.if-len-self.false, c.len.ensures.len));
      change = bury_change g.C.KeyClass.rules.is_cover _ c.self.invariant c.args.f c.args.at c.args.page m c.args.seat _
          c.commit.new.search c.commit.new.commits c.let_go.new.members.items c.row.result (length c.self.inside.changes + 1) row refl buried c.in_ok-number.ensures.committed c.let_go.ensures stamped;
    })

pub returns-in_err-number : goal.returns-in_err-number
returns-in_err-number g c =
    let m = subst (λ s. Meets s c.args.f c.args.at c.args.page) (sym c.self.view_is) c.requires in
    let passed = meets_passes g.C.KeyClass.rules.is_cover _ c.self.invariant c.args.f c.args.at c.args.page m (omega (arith, c.if-len-self.false, c.len.ensures.len)) in
    let p = err_from_is_err_and c.from_residual.result c.from_residual.ensures.1 in
    rw (← c.self.view_is, p.1, p.2, c.in_err-number.ensures.pages_kept, c.in_err-number.ensures.commits_kept) (record {
      cause = inr (passed, record { memory = c.in_err-number.ensures.refused; finder = m.here.value; is_open = m.here.found; grows = inl (meets_row g.C.KeyClass.rules.is_cover _ c.self.invariant c.args.f c.args.at c.args.page m) });
      unchanged = refl;
    })
