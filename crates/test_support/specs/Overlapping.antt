use Rattle.std.specs.Prelude.{ℤ, ◌≡◌, negsuc, pos}
use Rattle.key_class.specs.declared.pred.Pred.{Pred}
use Rattle.key_class.specs.declared.pred.Pred.TheVariants.{Atom}
use Rattle.key_class.specs.declared.sides.Rel.TheVariants.{Overlaps}
use Rattle.interval_class.specs.declared.atom.Atom as asked

-- a query that asks for what overlaps the interval from one end to another
pub record AsksForOverlaps (lo hi : ℤ) (query : Pred asked.Atom) : Type 0 where
  pub atom : asked.Atom
  pub is : query ≡ Atom atom
  pub overlaps : atom.rel ≡ Overlaps
  pub low : atom.operand.lo ≡ lo
  pub high : atom.operand.hi ≡ hi

-- the least and the greatest end that an interval can have
abbrev pub lowest : ℤ
lowest = negsuc 9223372036854775807

abbrev pub highest : ℤ
highest = pos 9223372036854775807
