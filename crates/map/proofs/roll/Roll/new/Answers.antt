use Rattle.std.proofs.Common.{sym, subst}
use Rattle.map.specs.Rolls.{IsRoll}
use Rattle.map.proofs.Rolling.{begun_roll}
use Rattle.map.proofs.roll.Roll.new.Goals as goal

pub invariant_of-result : goal.invariant_of-result
invariant_of-result g c = subst (λ l. IsRoll c.args.list l 0) (sym c.new.ensures.items) (begun_roll c.args.list)
