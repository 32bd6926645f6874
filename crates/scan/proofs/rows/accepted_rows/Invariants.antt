use Rattle.std.proofs.Common.{◌≡◌, ◌++◌, drop}
use Rattle.scan.specs.Scanning.{seen}
use Rattle.scan.proofs.rows.accepted_rows.Given as goal

abbrev pub invariant-loop-place : goal.invariant-loop-place
invariant-loop-place g l =
    let accepts = g.T.KeyTest.accepts l.test in
    l.rows.items ++ seen accepts l.commit (drop l.place l.entries) ≡ seen accepts l.commit l.entries
