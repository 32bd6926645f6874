use Rattle.std.proofs.Common.{rules, w32, ◌∙◌, ap, sym}
use Rattle.std.proofs.lemmas.Int.{to_z-of_z}
use Rattle.std.specs.Prelude.{pos, slice_index_or, Some}
use mir.Val.{SFits}
use Rattle.key_class.specs.BlockLaws.{place_of_eight}
use Rattle.box_class.specs.Blocks.{box_at}
use Rattle.box_class.specs.BoxLaws.{same_box}
use Rattle.box_class.proofs.block.BoxBlockBlockBoxKey.get.Goals as goal

pub returns : goal.returns
returns c =
    let b = c.args.self.now in
    let lefts : SFits w32 (slice_index_or b.lefts c.args.place (pos 0)) = search rules in
    let lows : SFits w32 (slice_index_or b.lows c.args.place (pos 0)) = search rules in
    let rights : SFits w32 (slice_index_or b.rights c.args.place (pos 0)) = search rules in
    let highs : SFits w32 (slice_index_or b.highs c.args.place (pos 0)) = search rules in
    place_of_eight (box_at b) c.args.place c.requires
    ∙ ap Some (same_box (box_at b c.args.place) _ (sym (to_z-of_z w32 _ lefts)) (sym (to_z-of_z w32 _ lows)) (sym (to_z-of_z w32 _ rights)) (sym (to_z-of_z w32 _ highs)))
