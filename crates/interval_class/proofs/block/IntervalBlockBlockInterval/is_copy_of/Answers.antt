use Rattle.std.proofs.Common.{sym, ◌∙◌}
use Rattle.std.proofs.lemmas.Bool.{and_parts}
use Rattle.std.specs.Cmp.Rules.{signed_items}
use Rattle.interval_class.proofs.Columns.{copied}
use Rattle.interval_class.proofs.block.IntervalBlockBlockInterval.is_copy_of.Goals as goal

pub returns : goal.returns
returns c = λ same.
    let parts = and_parts c.eq.result c.eq-2.result same in
    copied c.args.self.now c.args.other.now ((signed_items _ _).0 (sym c.eq.ensures ∙ parts.0)) ((signed_items _ _).0 (sym c.eq-2.ensures ∙ parts.1))
