use Rattle.std.proofs.Common.{subst}
use Rattle.change_list.specs.Records.{FindsKept}
use Rattle.change_list.proofs.Keeping.{found_kept}
use Rattle.change_list.proofs.view.View.find.Goals as goal

pub returns : goal.returns
returns g c = subst (λ cs. FindsKept cs c.args.number c.get.result) c.self.view_is (found_kept c.self.inside.kept c.args.number c.get.result c.self.invariant c.if-number-eq0.false c.get.ensures)
