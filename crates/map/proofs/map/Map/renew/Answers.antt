use Rattle.std.proofs.Common.{refl, sym, subst, ◌∙◌}
use Rattle.revisions.specs.Maps.{Forgets}
use Rattle.map.specs.Kept.{ForgetsOnly, kept_map}
use Rattle.map.specs.Successors.{IsReady}
use Rattle.map.proofs.Forgetting.{forgets_none, ready_forgets}
use Rattle.map.proofs.map.Map.renew.Goals as goal

pub returns-then-is_ready : goal.returns-then-is_ready
returns-then-is_ready g c =
    let s = c.self.inside in
    let ready = subst (λ h. IsReady s.present h c.work.new.next.generation) c.from.ensures (c.is_ready.ensures c.if-is_ready.true) in
    subst (λ old. ForgetsOnly old (kept_map s.config c.replace-former.new.dest)) c.self.view_is (record {
      config = refl;
      forgets = subst (λ m. Forgets s.config.history s.present m) (sym (c.replace-former.ensures.after ∙ c.into_present-present.ensures)) (ready_forgets s.present s.config.history c.work.new.next.generation ready);
    })

pub returns : goal.returns
returns g c = let s = c.self.inside in forgets_none c.args.self.now (kept_map s.config s.present) c.self.view_is
