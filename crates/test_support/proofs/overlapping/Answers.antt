use Rattle.std.proofs.Common.{rules, refl}
use Rattle.key_class.specs.declared.sides.Rel.TheVariants.{Overlaps}
use Rattle.test_support.proofs.overlapping.Goals as goal

pub returns-clause-asks : goal.returns-clause-asks
returns-clause-asks c = record {
  atom = record { rel = Overlaps; operand = c.in_ok-operand.operand };
  is = refl;
  overlaps = refl;
  low = search rules;
  high = search rules;
}
