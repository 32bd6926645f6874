use Rattle.std.proofs.Common.{arith}
use Rattle.set_class.specs.SetLaws.{added_means}
use Rattle.set_class.proofs.elements.Elements.with.Goals as goal

pub returns-clause-elements : goal.returns-clause-elements
returns-clause-elements c e = added_means c.args.self.mask c.args.number e (omega arith)
