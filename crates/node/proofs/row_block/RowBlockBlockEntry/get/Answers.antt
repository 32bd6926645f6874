use Rattle.std.proofs.Common.{◌∙◌, ap, sym}
use Rattle.std.specs.Prelude.{Some}
use Rattle.row_version.specs.Entries.{entry_of}
use Rattle.row_version.specs.VersionBlocks.{versions_of}
use Rattle.node.proofs.Zipped.{zip_get}
use Rattle.node.proofs.row_block.RowBlockBlockEntry.get.Goals as goal

pub returns : goal.returns
returns g c =
    let b = c.args.self.now in
    zip_get entry_of (g.B.Block.items b.keys) (versions_of b.versions) c.args.place c.get.result c.get-2.result c.get.ensures c.get-2.ensures
    ∙ ap Some (sym c.of.ensures)
