use Rattle.std.proofs.Common.{◌≡◌, ◌+◌, ◌-◌, ◌≤◌, ◌++◌, List, length, false, drop, vec_capacity}
use Rattle.query_text.specs.Tokens.{Placed, placed, Cuts}
use Rattle.query_text.proofs.scanner.cut.Given as goal

abbrev pub invariant-cut : goal.invariant-cut
invariant-cut l = record {
  within : l.place ≤ length l.text;
  room : length l.lexemes.items + (length l.text - l.place) ≤ vec_capacity l.lexemes;
  capacity : vec_capacity l.lexemes ≡ vec_capacity l.initial.lexemes;
  so_far : (ts : List Placed) → Cuts l.glued l.place (drop l.place l.text) ts → Cuts false 0 l.text (placed l.text l.lexemes.items ++ ts);
}

abbrev pub decreases-cut : goal.decreases-cut
decreases-cut l = length l.text - l.place
