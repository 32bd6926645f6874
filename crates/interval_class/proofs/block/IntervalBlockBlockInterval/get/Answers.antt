use Rattle.std.proofs.Common.{rules, w64, ◌∙◌, ap, sym}
use Rattle.std.proofs.lemmas.Int.{to_z-of_z}
use Rattle.std.specs.Prelude.{pos, slice_index_or, Some}
use mir.Val.{SFits}
use Rattle.key_class.specs.BlockLaws.{place_of_eight}
use Rattle.interval_class.specs.Blocks.{interval_at}
use Rattle.interval_class.specs.Same.{same_interval}
use Rattle.interval_class.proofs.block.IntervalBlockBlockInterval.get.Goals as goal

pub returns : goal.returns
returns c =
    let b = c.args.self.now in
    let lo : SFits w64 (slice_index_or b.lows c.args.place (pos 0)) = search rules in
    let hi : SFits w64 (slice_index_or b.highs c.args.place (pos 0)) = search rules in
    place_of_eight (interval_at b) c.args.place c.requires
    ∙ ap Some (same_interval (interval_at b c.args.place) _ (sym (to_z-of_z w64 _ lo)) (sym (to_z-of_z w64 _ hi)))
