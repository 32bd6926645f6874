use Rattle.std.proofs.Common.{length}
use Rattle.page_table.specs.Trees.{page_at, pages_under}
use Rattle.search.specs.Picks.{HasBitsFor}
use Rattle.search.proofs.Below.{GivesBut}
use Rattle.search.proofs.search.Search.+below.Given as goal

abbrev pub decreases-below : goal.decreases-below
decreases-below g l = length (pages_under l.self.now.table.now l.number l.self.now.table.now.counter)

abbrev pub invariant-children : goal.invariant-children
invariant-children g l =
    let t = l.fn.self.table.now in
    let page = page_at t l.fn.number in record {
      bits : HasBitsFor page.branches l.wanted;
      but : GivesBut g.S.RowSink.takes (g.T.KeyTest.accepts l.fn.self.test.now) (g.T.BranchTest.wants l.fn.self.test.now) t page l.wanted l.fn.sink l.sink;
    }

abbrev pub decreases-children : goal.decreases-children
decreases-children g l = l.wanted
