use Rattle.std.proofs.Common.{rules, ◌≡◌, ◌∙◌, ap, length, sym}
use Rattle.std.specs.Prelude.{nat_eq}
use Rattle.key_class.specs.Bits.{bits_of}
use Rattle.key_class.specs.BlockLaws.{eight_by_places}
use Rattle.node.specs.EntryBlocks.{branches_by_children}
use Rattle.node.proofs.entry_tests.ToChildBlockTestBranchBranchBlock.tested.Goals as goal

pub returns : goal.returns
returns g c =
    let b = c.args.block.now in
    let child = c.args.self.now.child in
    let eight : length b.children ≡ 8 = search rules in
    c.equal_children.ensures
    ∙ ap (bits_of (λ each. nat_eq each child)) (eight_by_places b.children eight 0)
    ∙ sym (branches_by_children (λ each. nat_eq each child) (g.B.Block.items b.keys) b.children (g.met.B.Block.eight b.keys))
