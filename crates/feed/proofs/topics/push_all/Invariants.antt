use Rattle.std.proofs.Common.{◌≡◌, ◌++◌}
use Rattle.feed.proofs.topics.push_all.Given as goal

abbrev pub invariant-loop-member : goal.invariant-loop-member
invariant-loop-member l = l.into.items ++ l.member-iterator ≡ l.fn.into.items ++ l.members.keys
