use Rattle.std.proofs.Common.{◌∙◌, ap, ap₂, sym}
use Rattle.std.specs.Int.Bits.{and_zero_r}
use Rattle.std.specs.Prelude.{◌≡◌, bit_and}
use Rattle.key_class.specs.BitLaws.{both_tell}
use Rattle.key_class.specs.Bits.{bits_of}
use Rattle.node.specs.EntryBlocks.{entries_by_keys, entries_by_versions, entries_in}
use Rattle.row_version.specs.VersionBlocks.{versions_of}
use Rattle.search.specs.Live.{is_live}
use Rattle.search.proofs.picks.FoundBlockTestEntryKeyRowBlockBlock.tested.Goals as goal

pub returns : goal.returns
returns g c =
    let b = c.args.block.now in
    let keys = g.C.Key.Block.Block.items b.keys in
    let eight = g.met.C.Key.Block.Block.eight b.keys in
    let accepts = g.T.KeyTest.accepts c.args.self.now.test.now in
    ap₂ bit_and (c.live_bits.ensures ∙ sym (entries_by_versions (λ v. is_live v.died) keys b.versions eight)) (c.accepted_block-accepted.ensures ∙ sym (entries_by_keys accepts keys b.versions eight))
    ∙ both_tell (λ e. is_live e.died) (λ e. accepts e.key) (entries_in keys (versions_of b.versions))

pub returns-then-accepted-eq0 : goal.returns-then-accepted-eq0
returns-then-accepted-eq0 g c =
    let b = c.args.block.now in
    let keys = g.C.Key.Block.Block.items b.keys in
    let entries = entries_in keys (versions_of b.versions) in
    let accepts = g.T.KeyTest.accepts c.args.self.now.test.now in
    let live = bits_of (λ e. is_live e.died) entries in
    let none : bits_of (λ e. accepts e.key) entries ≡ 0 = entries_by_keys accepts keys b.versions (g.met.C.Key.Block.Block.eight b.keys) ∙ sym c.accepted_block-accepted.ensures ∙ c.if-accepted-eq0.true in
    sym (and_zero_r live) ∙ ap (bit_and live) (sym none) ∙ both_tell (λ e. is_live e.died) (λ e. accepts e.key) entries
