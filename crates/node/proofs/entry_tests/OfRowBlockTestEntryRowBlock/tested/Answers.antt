use Rattle.std.proofs.Common.{◌∙◌, nat_eq, sym}
use Rattle.node.specs.EntryBlocks.{entries_by_versions}
use Rattle.node.proofs.entry_tests.OfRowBlockTestEntryRowBlock.tested.Goals as goal

pub returns : goal.returns
returns g c =
    let b = c.args.block.now in
    c.of_row.ensures ∙ sym (entries_by_versions (λ v. nat_eq v.row c.args.self.now.row) (g.B.Block.items b.keys) b.versions (g.met.B.Block.eight b.keys))
