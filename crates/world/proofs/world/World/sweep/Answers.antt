use Rattle.std.proofs.Common.{ap, length, inl, inr}
use Rattle.std.proofs.lemmas.Result.{err_from_is_err_and}
use Rattle.collector.specs.Horizons.{IsHorizon}
use Rattle.world.proofs.FinderSteps.{sweeps_call_sound}
use Rattle.world.proofs.world.World.sweep.Goals as goal

pub invariant_of-self : goal.invariant_of-self
invariant_of-self g c = sweeps_call_sound g.C.KeyClass.rules.is_cover _ c.self.invariant c.args.page c.sweep.result c.sweep.new.self c.horizon-horizon.result c.sweep.ensures.passed c.sweep.ensures.swept c.sweep.ensures.unchanged

pub invariant_of-self-2 : goal.invariant_of-self-2
invariant_of-self-2 g c = sweeps_call_sound g.C.KeyClass.rules.is_cover _ c.self.invariant c.args.page c.sweep.result c.sweep.new.self c.horizon-horizon.result c.sweep.ensures.passed c.sweep.ensures.swept c.sweep.ensures.unchanged

pub returns : goal.returns
returns g c = λ seat.
    let is : IsHorizon (length c.self.inside.changes) c.self.inside.cursors.items c.horizon-horizon.result = rw (c.as_slice.ensures.value, c.len.ensures.len) at c.horizon-horizon.ensures in
    rw (← c.self.view_is) (record {
      passed = c.in_ok-count.ensures.passed;
      change = record {
        horizon = c.horizon-horizon.result;
        is = is;
        counted = c.in_ok-count.ensures.count;
        after = ap (λ search. record { search = search; limit = c.self.inside.limit; commits = c.self.inside.changes; cursors = c.self.inside.cursors.items; last = c.self.inside.last; finders = c.self.inside.finders.items; last_finder = c.self.inside.last_finder }) c.in_ok-count.ensures.swept;
      };
    })

pub returns-in_err-count : goal.returns-in_err-count
returns-in_err-count g c = λ seat.
    let p = err_from_is_err_and c.from_residual.result c.from_residual.ensures.1 in
    rw (← c.self.view_is, p.1, p.2) (record {
      cause = elim c.in_err-count.ensures.refused [
        | inl failed ↦ inl failed
        | inr wanting ↦ inr (wanting.0, record { memory = wanting.1; horizon = c.horizon-horizon.result; is = rw (c.as_slice.ensures.value, c.len.ensures.len) at c.horizon-horizon.ensures; some = c.in_err-count.ensures.memory wanting.1 })
      ];
      unchanged = ap (λ search. record { search = search; limit = c.self.inside.limit; commits = c.self.inside.changes; cursors = c.self.inside.cursors.items; last = c.self.inside.last; finders = c.self.inside.finders.items; last_finder = c.self.inside.last_finder }) c.in_err-count.ensures.unchanged;
    })
