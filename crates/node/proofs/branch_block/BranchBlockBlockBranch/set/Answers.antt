use Rattle.std.proofs.Common.{rules, ◌≡◌, ◌∙◌, ap₂, arith, length, set}
use Rattle.std.specs.Prelude.{slice_index_or}
use Rattle.std.proofs.lemmas.List.{get_or-set_other, get_or-set_same}
use lib.Lanes.{zip2}
use Rattle.key_class.specs.Blocks.{eight_of}
use Rattle.key_class.specs.BlockLaws.{eight_set}
use Rattle.node.specs.EntryBlocks.{branch_of}
use Rattle.node.proofs.Zipped.{zip_set}
use Rattle.node.proofs.branch_block.BranchBlockBlockBranch.set.Goals as goal

pub returns : goal.returns
returns g c =
    let b = c.args.self.now in
    let i = c.args.place in
    let x = c.args.branch.child in
    let all : length b.children ≡ 8 = search rules in
    let children = eight_set (λ k. slice_index_or (set b.children i x) k 0) (λ k. slice_index_or b.children k 0) i x c.requires (get_or-set_same b.children i x 0 (omega (arith, all, c.requires))) (λ k l n. get_or-set_other b.children i k x 0 n) in
    ap₂ (zip2 branch_of) c.set.ensures children
    ∙ zip_set branch_of i c.args.branch.key x (g.B.Block.items b.keys) (eight_of (λ k. slice_index_or b.children k 0))
