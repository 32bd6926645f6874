use Rattle.std.proofs.Common.{◌∙◌, ap, ap₂, sym}
use Rattle.std.specs.Prelude.{Some, ◌+◌, ◌*◌, ◌^◌}
use Rattle.key_class.specs.BlockLaws.{place_of_eight}
use Rattle.set_class.specs.Blocks.{set_at}
use Rattle.set_class.proofs.block.SetBlockBlockElements.get.Goals as goal

pub returns : goal.returns
returns c =
    let b = c.args.self.now in
    place_of_eight (set_at b) c.args.place c.requires
    ∙ ap Some (ap₂ (λ u l. record { mask = u * 2 ^ 64 + l }) (sym c.from-upper.ensures) (sym c.from-lower.ensures))
