use Rattle.std.proofs.Common.{sym, ◌∙◌}
use Rattle.std.specs.Prelude.{◌&&◌}
use Rattle.std.proofs.lemmas.Bool.{and_parts}
use Rattle.std.specs.Cmp.Rules.{signed_items}
use Rattle.box_class.proofs.Columns.{copied}
use Rattle.box_class.proofs.block.BoxBlockBlockBoxKey.is_copy_of.Goals as goal

pub returns : goal.returns
returns c = λ same.
    let three = and_parts (c.eq.result && c.eq-2.result && c.eq-3.result) c.eq-4.result same in
    let two = and_parts (c.eq.result && c.eq-2.result) c.eq-3.result three.0 in
    let one = and_parts c.eq.result c.eq-2.result two.0 in
    copied c.args.self.now c.args.other.now ((signed_items _ _).0 (sym c.eq.ensures ∙ one.0)) ((signed_items _ _).0 (sym c.eq-2.ensures ∙ one.1)) ((signed_items _ _).0 (sym c.eq-3.ensures ∙ two.1)) ((signed_items _ _).0 (sym c.eq-4.ensures ∙ three.1))
