use Rattle.std.proofs.Common.{◌≡◌, ◌∷◌, [], inl, refl, sym, ap, ◌∙◌, subst, arith}
use Rattle.std.proofs.lemmas.Result.{err_from_is_err_and}
use Rattle.std.proofs.lemmas.Grind.{common_steps}
use Rattle.key_class.specs.declared.refusal.Refusal.TheVariants as refusal
use Rattle.world.specs.States.{IsAt}
use Rattle.world.specs.Steps.{cursor_tests}
use Rattle.world.proofs.Refusing.{failing_first}
use Rattle.world.proofs.Handling.{at_within, take_sound, take_done, empty_done, elsewhere_refused}
use Rattle.world.proofs.world.World.take.Goals as goal
use Rattle.world.proofs.world.World.take.Goals.{in-Item, in-Nothing, in-Elsewhere}

pub returns-in_err-at : goal.returns-in_err-at
returns-in_err-at g c = λ seat.
    let p = err_from_is_err_and c.from_residual.result c.from_residual.ensures.1 in
    rw (p.1, p.2) (record {
      cause = inl (failing_first (cursor_tests c.args.self.now c.args.c) ((g.O.Outlet.rule.is_emptied_elsewhere, refusal.NotHere) ∷ []) _ c.in_err-at.ensures.refused);
      unchanged = refl;
    })

pub index_mut-requires : goal.index_mut-requires
index_mut-requires g c =
    let a = subst (λ s. IsAt s c.args.c c.in_ok-at.at) (sym c.self.view_is) c.in_ok-at.ensures.found in
    let l = at_within g.C.KeyClass.rules.is_cover _ c.self.invariant c.args.c c.in_ok-at.at a in
    grind (arith, common_steps)

pub invariant_of-self : goal.invariant_of-self
invariant_of-self g c =
    let a = subst (λ s. IsAt s c.args.c c.in_ok-at.at) (sym c.self.view_is) c.in_ok-at.ensures.found in
    take_sound g.C.KeyClass.rules g.O.Outlet.rule _ c.self.invariant c.args.c c.in_ok-at.at a c.index_mut.result.now c.index_mut.ensures.value c.take.new.self c.take.new.self.unread c.take.ensures.others

pub returns : goal.returns
returns g c = λ seat.
    let a = subst (λ s. IsAt s c.args.c c.in_ok-at.at) (sym c.self.view_is) c.in_ok-at.ensures.found in
    elim c.match-take.branch [
      | in-Item w ↦
          let t = w.in-Item.ensures.takes in
          rw (w.result-is, ← c.self.view_is) (take_done _ _ _ c.self.invariant c.args.c c.in_ok-at.at a c.index_mut.result.now c.index_mut.ensures.value c.take.new.self _ seat w.in-Item.item c.take.new.self.unread c.take.ensures.others t.0 t.1)
      | in-Nothing w ↦
          let t = w.in-Nothing.ensures.takes in
          let same : c.take.new.self ≡ c.index_mut.result.now = c.take.ensures.others ∙ ap (λ u. record c.index_mut.result.now { unread = u }) (t.2 ∙ sym t.1) in
          rw (w.result-is, ← c.self.view_is) (empty_done _ _ _ c.self.invariant c.args.c c.in_ok-at.at a c.index_mut.result.now c.index_mut.ensures.value c.take.new.self _ seat same t.0 t.1)
      | in-Elsewhere w ↦
          let t = w.in-Elsewhere.ensures.takes in
          let same : c.take.new.self ≡ c.index_mut.result.now = c.take.ensures.others ∙ ap (λ u. record c.index_mut.result.now { unread = u }) t.1 in
          rw (w.result-is, ← c.self.view_is) (elsewhere_refused _ _ _ c.self.invariant c.args.c c.in_ok-at.at a c.index_mut.result.now c.index_mut.ensures.value c.take.new.self same t.0)
    ]
