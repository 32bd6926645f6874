use Rattle.std.proofs.Common.{◌≡◌, Bool, List, None, refl, sym, ap, ◌∙◌, subst, arith, Some}
use Rattle.std.proofs.lemmas.Grind.{common_steps}
use Rattle.change_list.specs.Changes.{status_of}
use Rattle.scan.specs.declared.stack.Sought.TheVariants.{Here, Further}
use Rattle.descent.specs.Finders.{IsSeeking, SeeksRow}
use Rattle.world.specs.Serials.{IsMember}
use Rattle.key_class.specs.declared.refusal.Refusal.{Refusal}
use Rattle.key_class.specs.declared.refusal.Refusal.TheVariants as refusal
use Rattle.split.specs.Tests.{first_failing}
use Rattle.world.specs.Steps.{IsRefusedVisit, visit_tests}
use Rattle.world.proofs.FinderSteps.{finder_of}
use Rattle.world.proofs.Meeting.{finder_within, finder_is, finder_same, not_dead, not_over, meets_at, further_sound, further_passes, further_after, refuses_dead, refuses_further}
use Rattle.world.proofs.world.World.visit_for.Goals as goal
use Rattle.world.proofs.world.World.visit_for.Goals.{in-Ok-Here, in-Ok-Further, in-Err}

pub index-requires : goal.index-requires
index-requires g c =
    let a : IsMember (λ k. k.serial) c.self.inside.finders.items c.args.f c.in-Some.at = rw c.as_slice.ensures.value at c.in-Some.ensures in
    let l = finder_within g.C.KeyClass.rules.is_cover _ c.self.invariant c.args.f c.in-Some.at a in
    grind (arith, common_steps)

pub returns-in-Dead : goal.returns-in-Dead
returns-in-Dead g c =
    let a : IsMember (λ k. k.serial) c.self.inside.finders.items c.args.f c.in-Some.at = rw c.as_slice.ensures.value at c.in-Some.ensures in
    let same = finder_is g.C.KeyClass.rules.is_cover _ c.self.invariant c.args.f c.in-Some.at a c.index.result.now c.index.ensures in
    let row = ap (λ n. status_of c.self.inside.changes n) (sym (c.from.ensures ∙ c.row.ensures)) ∙ sym c.status.ensures ∙ c.in-Dead.is in
    (subst (λ s. IsRefusedVisit g.C.KeyClass.rules g.O.Outlet.rule s c.args.f refusal.AlreadyDeleted) c.self.view_is (refuses_dead g.C.KeyClass.rules g.O.Outlet.rule _ c.self.invariant c.args.f c.in-Some.at a c.index.result.now same row), refl)

pub index_mut-requires : goal.index_mut-requires
index_mut-requires g c =
    let a : IsMember (λ k. k.serial) c.self.inside.finders.items c.args.f c.in-Some.at = rw c.as_slice.ensures.value at c.in-Some.ensures in
    let l = finder_within g.C.KeyClass.rules.is_cover _ c.self.invariant c.args.f c.in-Some.at a in
    grind (arith, common_steps)

pub seek-requires : goal.seek-requires
seek-requires g c =
    let a : IsMember (λ k. k.serial) c.self.inside.finders.items c.args.f c.in-Some.at = rw c.as_slice.ensures.value at c.in-Some.ensures in
    let same = finder_is g.C.KeyClass.rules.is_cover _ c.self.invariant c.args.f c.in-Some.at a c.index.result.now c.index.ensures in
    let alive = not_dead g.C.KeyClass.rules.is_cover _ c.self.invariant c.args.f c.in-Some.at a c.index.result.now same (λ e. c.in_default-status.not-Dead (c.status.ensures ∙ ap (λ n. status_of c.self.inside.changes n) (c.from.ensures ∙ c.row.ensures) ∙ e)) in
    let before = finder_is g.C.KeyClass.rules.is_cover _ c.self.invariant c.args.f c.in-Some.at a c.index_mut.result.now c.index_mut.ensures.value in
    let seeking = finder_of g.C.KeyClass.rules.is_cover _ c.self.invariant c.args.f a.value a.found in
    record {
      stack = rw (c.pages.ensures.table, ← before) seeking.stack;
      unfinished = not_over g.C.KeyClass.rules.is_cover _ c.self.invariant c.args.f c.in-Some.at a c.index_mut.result.now before alive;
    }

pub invariant_of-self : goal.invariant_of-self
invariant_of-self g c =
    let a : IsMember (λ k. k.serial) c.self.inside.finders.items c.args.f c.in-Some.at = rw c.as_slice.ensures.value at c.in-Some.ensures in
    let same = finder_is g.C.KeyClass.rules.is_cover _ c.self.invariant c.args.f c.in-Some.at a c.index.result.now c.index.ensures in
    let alive = not_dead g.C.KeyClass.rules.is_cover _ c.self.invariant c.args.f c.in-Some.at a c.index.result.now same (λ e. c.in_default-status.not-Dead (c.status.ensures ∙ ap (λ n. status_of c.self.inside.changes n) (c.from.ensures ∙ c.row.ensures) ∙ e)) in
    let before = finder_is g.C.KeyClass.rules.is_cover _ c.self.invariant c.args.f c.in-Some.at a c.index_mut.result.now c.index_mut.ensures.value in
    elim c.match-seek.branch [
      | in-Ok-Here w ↦
          let found : SeeksRow g.C.KeyClass.rules.is_cover c.self.inside.search.tree c.index_mut.result.now (Here w.in-Ok-Here.page) c.seek.new.self = rw (c.pages.ensures.table, w.in-Ok-Here.field-0-is) at w.in-Ok-Here.ensures.sought in
          let kept = finder_same g.C.KeyClass.rules.is_cover _ c.self.invariant c.args.f c.in-Some.at a c.index_mut.result.now c.seek.new.self c.index_mut.ensures.value found.1 in
          rw kept c.self.invariant
      | in-Ok-Further w ↦
          let further : SeeksRow g.C.KeyClass.rules.is_cover c.self.inside.search.tree c.index_mut.result.now (Further w.in-Ok-Further.field-0-0) c.seek.new.self = rw (c.pages.ensures.table, w.in-Ok-Further.field-0-is) at w.in-Ok-Further.ensures.sought in
          let seeking = subst (λ k. IsSeeking c.self.inside.search.tree c.self.inside.changes k) before (finder_of g.C.KeyClass.rules.is_cover _ c.self.invariant c.args.f a.value a.found) in
          let later : IsSeeking c.self.inside.search.tree c.self.inside.changes c.seek.new.self = rw c.pages.ensures.table at (w.in-Ok-Further.ensures.seeking c.self.inside.search.fan c.self.inside.changes (rw c.pages.ensures.table c.self.invariant.tree.sound) (rw c.pages.ensures.table c.self.invariant.agrees) (rw c.pages.ensures.table seeking)) in
          further_sound g.C.KeyClass.rules.is_cover _ c.self.invariant c.args.f c.in-Some.at a c.index_mut.result.now before alive w.in-Ok-Further.field-0-0 c.seek.new.self further later
      | in-Err w ↦
          let kept = finder_same g.C.KeyClass.rules.is_cover _ c.self.invariant c.args.f c.in-Some.at a c.index_mut.result.now c.seek.new.self c.index_mut.ensures.value w.in-Err.ensures.refused in
          rw kept c.self.invariant
    ]

pub returns : goal.returns
returns g c =
    let a : IsMember (λ k. k.serial) c.self.inside.finders.items c.args.f c.in-Some.at = rw c.as_slice.ensures.value at c.in-Some.ensures in
    let same = finder_is g.C.KeyClass.rules.is_cover _ c.self.invariant c.args.f c.in-Some.at a c.index.result.now c.index.ensures in
    let alive = not_dead g.C.KeyClass.rules.is_cover _ c.self.invariant c.args.f c.in-Some.at a c.index.result.now same (λ e. c.in_default-status.not-Dead (c.status.ensures ∙ ap (λ n. status_of c.self.inside.changes n) (c.from.ensures ∙ c.row.ensures) ∙ e)) in
    let before = finder_is g.C.KeyClass.rules.is_cover _ c.self.invariant c.args.f c.in-Some.at a c.index_mut.result.now c.index_mut.ensures.value in
    elim c.match-seek.branch [
      | in-Ok-Here w ↦
          let found : SeeksRow g.C.KeyClass.rules.is_cover c.self.inside.search.tree c.index_mut.result.now (Here w.in-Ok-Here.page) c.seek.new.self = rw (c.pages.ensures.table, w.in-Ok-Here.field-0-is) at w.in-Ok-Here.ensures.sought in
          let kept = finder_same g.C.KeyClass.rules.is_cover _ c.self.invariant c.args.f c.in-Some.at a c.index_mut.result.now c.seek.new.self c.index_mut.ensures.value found.1 in
          rw (w.result-is, ← c.self.view_is) (
            meets_at g.C.KeyClass.rules.is_cover _ c.self.invariant c.args.f c.in-Some.at a c.index_mut.result.now before alive w.in-Ok-Here.page found.0,
            ap (λ finders. record { search = c.self.inside.search; limit = c.self.inside.limit; commits = c.self.inside.changes; cursors = c.self.inside.cursors.items; last = c.self.inside.last; finders = finders; last_finder = c.self.inside.last_finder }) kept,
          )
      | in-Ok-Further w ↦
          let further : SeeksRow g.C.KeyClass.rules.is_cover c.self.inside.search.tree c.index_mut.result.now (Further w.in-Ok-Further.field-0-0) c.seek.new.self = rw (c.pages.ensures.table, w.in-Ok-Further.field-0-is) at w.in-Ok-Further.ensures.sought in
          rw w.result-is (
            subst (λ s. (tests : List (Bool × Refusal)) → first_failing (visit_tests s c.args.f tests) ≡ None) c.self.view_is
                (further_passes g.C.KeyClass.rules.is_cover _ c.self.invariant c.args.f c.in-Some.at a c.index_mut.result.now before alive w.in-Ok-Further.field-0-0 c.seek.new.self further),
            rw (← c.self.view_is) (record {
              before = c.index_mut.result.now;
              later = c.seek.new.self;
              is_open = a.found ∙ ap Some before;
              page = w.in-Ok-Further.field-0-0;
              further = further;
              after = further_after g.C.KeyClass.rules.is_cover _ c.self.invariant c.args.f c.in-Some.at a c.index_mut.result.now before alive w.in-Ok-Further.field-0-0 c.seek.new.self further;
            }),
          )
      | in-Err w ↦
          let kept = finder_same g.C.KeyClass.rules.is_cover _ c.self.invariant c.args.f c.in-Some.at a c.index_mut.result.now c.seek.new.self c.index_mut.ensures.value w.in-Err.ensures.refused in
          rw w.result-is (
            subst (λ s. IsRefusedVisit g.C.KeyClass.rules g.O.Outlet.rule s c.args.f refusal.OutOfMemory) c.self.view_is
                (refuses_further g.C.KeyClass.rules g.O.Outlet.rule _ c.self.invariant c.args.f c.in-Some.at a c.index_mut.result.now before alive (rw c.pages.ensures.table at w.in-Err.ensures.refused_further) (rw c.pages.ensures.table at w.in-Err.ensures.memory)),
            rw (← c.self.view_is) (ap (λ finders. record { search = c.self.inside.search; limit = c.self.inside.limit; commits = c.self.inside.changes; cursors = c.self.inside.cursors.items; last = c.self.inside.last; finders = finders; last_finder = c.self.inside.last_finder }) kept),
          )
    ]
