use Rattle.std.proofs.Common.{◌≡◌, take}
use Rattle.page_table.proofs.top.shared.Given as goal

abbrev pub invariant-loop-chunk : goal.invariant-loop-chunk
invariant-loop-chunk g l = l.made.items ≡ take l.chunk-index l.chunks
