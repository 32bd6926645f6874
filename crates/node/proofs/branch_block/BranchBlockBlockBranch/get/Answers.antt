use Rattle.std.specs.Prelude.{slice_index_or}
use Rattle.key_class.specs.Blocks.{eight_of}
use Rattle.key_class.specs.BlockLaws.{place_of_eight}
use Rattle.node.specs.EntryBlocks.{branch_of}
use Rattle.node.proofs.Zipped.{zip_get}
use Rattle.node.proofs.branch_block.BranchBlockBlockBranch.get.Goals as goal

pub returns : goal.returns
returns g c =
    let b = c.args.self.now in
    zip_get branch_of (g.B.Block.items b.keys) (eight_of (λ k. slice_index_or b.children k 0)) c.args.place c.get.result (slice_index_or b.children c.args.place 0) c.get.ensures (place_of_eight (λ k. slice_index_or b.children k 0) c.args.place c.requires)
