use Rattle.std.proofs.Common.{◌≡◌, ◌++◌, ℕ, List, drop}
use Rattle.std.specs.Io.KnownBytes.{Appends}
use Rattle.gist.specs.Storms.{client_lines}
use Rattle.gist.proofs.program.tell_clients.Given as goal

-- what was written, followed by the lines of the clients that are left, is the lines of all clients
abbrev pub invariant-loop-place : goal.invariant-loop-place
invariant-loop-place g l =
    (said : List ℕ) × Appends (g.W.Write.contents l.initial.writer) (g.W.Write.contents l.writer) said × (said ++ client_lines l.role l.commits l.place (drop l.place l.verdicts) ≡ client_lines l.role l.commits 0 l.verdicts)
