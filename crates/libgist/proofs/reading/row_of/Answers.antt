use Rattle.std.proofs.Common.{rules}
use Rattle.libgist.proofs.reading.row_of.Goals as goal

pub returns : goal.returns
returns g c =
    let lives = c.is_live-lives.ensures in
    let status = c.in_ok-status.ensures.ok in
    record {
      ok = record { row = c.in-Some.row; is = search rules; shown = search rules; lives = rw (← status) lives };
      no_such_row = search rules;
      refusals = tt;
    }
