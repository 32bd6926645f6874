use Rattle.std.proofs.lemmas.Simd.{Each1-from_get_or}
use mir.Val.{Fits}
use mir.Syntax.{w64}
use Rattle.set_class.proofs.lanes.are_in_range.Goals as goal

pub returns : goal.returns
returns c = Each1-from_get_or (Fits w64) c.args.numbers.now 0 (λ k h. c.type_inv.numbers k)
