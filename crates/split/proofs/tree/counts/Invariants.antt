use Rattle.std.proofs.Common.{◌≡◌, ◌≤◌, take, count_by}
use Rattle.key_class.specs.Splits.{is_left, is_right}
use Rattle.split.proofs.tree.counts.Given as goal

abbrev pub invariant-loop-place : goal.invariant-loop-place
invariant-loop-place l = record {
  lefts : l.lefts ≡ count_by is_left (take l.place l.sides);
  rights : l.rights ≡ count_by is_right (take l.place l.sides);
  few_lefts : l.lefts ≤ l.place;
  few_rights : l.rights ≤ l.place;
}
