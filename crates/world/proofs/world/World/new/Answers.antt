use Rattle.change_list.specs.Configs.{IsWithinLimits}
use Rattle.world.proofs.Sounding.{new_sound_world}
use Rattle.world.proofs.world.World.new.Goals as goal

pub invariant_of-result : goal.invariant_of-result
invariant_of-result g c =
    let limits : IsWithinLimits c.args.config = c.is_within_limits.ensures.0 c.if-not-is_within_limits.false in
    let made = c.in_ok-search.ensures.made in
    rw (made, c.from.ensures, c.from-2.ensures, c.from-3.ensures, c.from-4.ensures, c.new-2.ensures, c.new-3.ensures.items, c.new-4.ensures.items) (new_sound_world g.C.KeyClass.rules.is_cover c.args.config limits)

pub returns-clause-bad : goal.returns-clause-bad
returns-clause-bad g c =
    let limits : IsWithinLimits c.args.config = c.is_within_limits.ensures.0 c.if-not-is_within_limits.false in
    (λ e. absurd (cc), λ n. absurd (n limits))

pub returns-clause-within : goal.returns-clause-within
returns-clause-within g c = c.is_within_limits.ensures.0 c.if-not-is_within_limits.false
