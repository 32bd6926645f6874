use Rattle.std.proofs.Common.{sym, ap, ◌∙◌, subst}
use Rattle.std.specs.Prelude.{option_map}
use Rattle.map.specs.Kept.{ForgetsOnly, IsKept, kept_map}
use Rattle.map.proofs.map.Map.tend.Goals as goal

pub invariant_of-self : goal.invariant_of-self
invariant_of-self g c =
    let s = c.self.inside in
    subst (λ m. IsKept m (option_map (λ n. (n.roll, n.generation)) s.next)) (sym c.sweep.ensures) c.self.invariant

pub returns : goal.returns
returns g c =
    let s = c.self.inside in
    let kept = subst (λ m. ForgetsOnly c.args.self.now m) (sym c.shed.ensures) c.renew.ensures in
    subst (λ new. ForgetsOnly c.args.self.now new) (sym (ap (kept_map s.config) c.sweep.ensures ∙ c.self.view_is)) kept
