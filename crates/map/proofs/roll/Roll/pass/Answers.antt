use Rattle.std.proofs.Common.{◌+◌, length, ap, ◌∙◌, subst, arith}
use Rattle.map.specs.Rolls.{Advances, RollState, roll_state}
use Rattle.map.proofs.Rolling.{advances_passed, giving, passed_on}
use Rattle.map.proofs.roll.Roll.pass.Goals as goal

pub invariant_of-self : goal.invariant_of-self
invariant_of-self g c =
    let r = c.self.inside in
    let there = giving r.list (length r.ended.items) r.next c.requires.0 (ap (λ (x : RollState _). x.offer) c.self.view_is ∙ c.requires.1) in
    passed_on r.list r.ended.items r.next c.self.invariant there.0 there.1

pub returns : goal.returns
returns g c =
    let r = c.self.inside in
    let there = giving r.list (length r.ended.items) r.next c.requires.0 (ap (λ (x : RollState _). x.offer) c.self.view_is ∙ c.requires.1) in
    subst (λ old. Advances old (roll_state r.list (length r.ended.items) (r.next + 1))) c.self.view_is (advances_passed r.list r.ended.items r.next c.self.invariant there.0 there.1)

pub overflow_add-self : goal.overflow_add-self
overflow_add-self g c =
    let r = c.self.inside in
    let there = giving r.list (length r.ended.items) r.next c.requires.0 (ap (λ (x : RollState _). x.offer) c.self.view_is ∙ c.requires.1) in
    omega (arith, there.1, c.len-count.ensures.len, c.len-count.type_inv)
