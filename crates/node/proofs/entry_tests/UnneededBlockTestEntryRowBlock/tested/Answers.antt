use Rattle.std.proofs.Common.{◌∙◌, not, sym}
use Rattle.row_version.specs.Entries.{lives_at}
use Rattle.node.specs.EntryBlocks.{entries_by_versions}
use Rattle.node.proofs.entry_tests.UnneededBlockTestEntryRowBlock.tested.Goals as goal

pub returns : goal.returns
returns g c =
    let b = c.args.block.now in
    c.unneeded.ensures ∙ sym (entries_by_versions (λ v. not (lives_at c.args.self.now.horizon v.died)) (g.B.Block.items b.keys) b.versions (g.met.B.Block.eight b.keys))
