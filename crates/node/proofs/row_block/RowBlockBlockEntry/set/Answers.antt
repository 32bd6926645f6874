use Rattle.std.proofs.Common.{◌∙◌, ap, ap₂, set}
use lib.Lanes.{zip2}
use Rattle.row_version.specs.Entries.{entry_of}
use Rattle.row_version.specs.VersionBlocks.{versions_of}
use Rattle.node.proofs.Zipped.{zip_set}
use Rattle.node.proofs.row_block.RowBlockBlockEntry.set.Goals as goal

pub returns : goal.returns
returns g c =
    let b = c.args.self.now in
    let i = c.args.place in
    let x = c.version.result in
    let keys = g.B.Block.items b.keys in
    ap₂ (zip2 entry_of) (c.set.ensures ∙ ap (set keys i) c.key.ensures) c.set-2.ensures
    ∙ zip_set entry_of i c.args.entry.key x keys (versions_of b.versions)
    ∙ ap (λ v. set (zip2 entry_of keys (versions_of b.versions)) i (entry_of c.args.entry.key v)) c.version.ensures
