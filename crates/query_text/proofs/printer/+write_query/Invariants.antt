use Rattle.std.proofs.Common.{◌+◌, ◌*◌, cond}
use Rattle.query_text.proofs.printer.+write_query.Given as goal

-- brackets are written round the same query
abbrev pub decreases-write_query : goal.decreases-write_query
decreases-write_query g l = 2 * goal.size-write_query g l + cond l.in_brackets 1 0
