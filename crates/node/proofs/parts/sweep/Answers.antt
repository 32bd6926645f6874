use Rattle.std.proofs.Common.{ap, arith, length, not, refl}
use Rattle.std.proofs.lemmas.List.Filters.{length-filter_both}
use Rattle.row_version.specs.Entries.{is_needed}
use Rattle.node.proofs.parts.sweep.Goals as goal

pub returns-clause-fewer : goal.returns-clause-fewer
returns-clause-fewer g c =
    let horizon = c.args.horizon in
    omega (arith, ap length c.remove_where.ensures, length-filter_both (λ e. not (is_needed horizon e)) (λ e. not (not (is_needed horizon e))) (λ e. refl) c.args.rows.now)
