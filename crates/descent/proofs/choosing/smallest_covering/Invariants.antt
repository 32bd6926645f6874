use Rattle.std.proofs.Common.{◌≡◌, ◌-◌, ◌/◌, ◌^◌, length}
use Rattle.key_class.specs.Bits.{bits_of}
use Rattle.descent.proofs.Best.{IsSmallestOf}
use Rattle.descent.proofs.choosing.smallest_covering.Given as goal

abbrev pub invariant-loop-rest : goal.invariant-loop-rest
invariant-loop-rest g l = record {
  smallest : IsSmallestOf g.C.KeyClass.rules.union_of g.C.KeyClass.rules.size_of l.fn.key l.branches g.C.KeyClass.rules.is_cover (λ bound. g.met.C.KeyClass.lawful.covered_adds_nothing bound l.fn.key) l.from l.best l.least;
  left : l.rest ≡ bits_of (λ branch. g.C.KeyClass.rules.is_cover branch.key l.fn.key) l.branches / 2 ^ l.from;
}

abbrev pub decreases-loop-rest : goal.decreases-loop-rest
decreases-loop-rest g l = length l.branches - l.from
