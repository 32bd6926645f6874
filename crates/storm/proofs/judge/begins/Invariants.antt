use Rattle.std.proofs.Common.{◌≡◌, ℕ, ◌<◌, ◌+◌}
use Rattle.change_list.specs.Changes.{commit_at}
use Rattle.storm.proofs.judge.begins.Given as goal

abbrev pub invariant-loop-place : goal.invariant-loop-place
invariant-loop-place g l = (place : ℕ) → place < l.place → commit_at l.first (place + 1) ≡ commit_at l.commits (place + 1)
