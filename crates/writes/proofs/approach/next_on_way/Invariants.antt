use Rattle.std.proofs.Common.{◌≢◌, ◌<◌, length}
use Rattle.page_table.specs.Trees.{page_at}
use Rattle.descent.specs.NextSteps.{HasRoom}
use Rattle.writes.specs.InsertVisits.{CoversKey, LeadsDown}
use Rattle.writes.proofs.approach.next_on_way.Given as goal

-- the way has led down to a page where it may go on
abbrev pub invariant-descending : goal.invariant-descending
invariant-descending g l = record {
  down : LeadsDown g.C.KeyClass.rules l.search l.key l.page l.here;
  exists : l.here < length l.search.tree.pages;
  covers : CoversKey g.C.KeyClass.rules.is_cover l.search l.here l.key;
  room : l.here ≢ 0 → HasRoom l.search l.here;
}

abbrev pub decreases-descending : goal.decreases-descending
decreases-descending g l = (page_at l.search.tree l.here).level
