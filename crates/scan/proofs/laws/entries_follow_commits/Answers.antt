use Rattle.std.proofs.Common.{◌+◌, arith, length, map}
use Rattle.row_version.specs.Entries.{marked}
use Rattle.page_table.specs.LeafChanges.{after_bury}
use Rattle.page_table.specs.Trees.{page_at}
use Rattle.scan.proofs.Agreement.{new_agrees, keeps_agrees, place_agrees, bury_agrees, remade_agrees, sweep_agrees}
use Rattle.scan.proofs.Scans.{rows_length}
use Rattle.scan.proofs.laws.entries_follow_commits.Goals as goal

pub returns : goal.returns
returns g c = record {
  new = new_agrees;
  moved = λ t t' commits keeps each agrees. keeps_agrees t t' commits keeps each agrees;
  placed = λ t fan p commits key tag sound legal agrees l. place_agrees g.C.KeyClass.rules.is_cover t fan sound commits legal agrees p l key tag;
  buried = λ t fan p commits row sound legal agrees l live there. bury_agrees g.C.KeyClass.rules.is_cover t fan sound commits legal agrees p l row live there;
  row_moved = λ t fan p q commits row key r sound after legal agrees l k live there found.
      remade_agrees g.C.KeyClass.rules.is_cover (after_bury t p row (length commits + 1)) fan after commits legal row live
      (bury_agrees g.C.KeyClass.rules.is_cover t fan sound commits legal agrees p l row live there) key r found q
      (omega (arith, k, rows_length t p (map (marked row (length commits + 1)) (page_at t p).rows)));
  swept = λ t fan p horizon commits sound agrees l. sweep_agrees g.C.KeyClass.rules.is_cover t fan sound commits agrees p l horizon;
}
