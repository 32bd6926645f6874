use Rattle.scan.proofs.Arranged.{same_rows_arranged}
use Rattle.scan.proofs.Opening.{open_find, open_stack}
use Rattle.scan.proofs.laws.scans_begin_with_snapshots.Goals as goal

pub returns : goal.returns
returns g c = record {
  stack = λ t fan sound. open_stack g.C.KeyClass.rules.is_cover t fan sound;
  rows = λ t fan commits wanted sound agrees. open_find g.C.KeyClass.rules.is_cover t fan sound commits agrees wanted;
  arranged = λ xs ys same. same_rows_arranged g.C.Key.PartialEq.eq g.met.C.KeyClass.lawful.equal_keys_are_same xs ys same;
}
