use Rattle.std.proofs.Common.{take}
use Rattle.feed.specs.Planting.{IsPlanted, Tends}
use Rattle.feed.proofs.tree.plant.Given as goal

abbrev pub invariant-loop-key : goal.invariant-loop-key
invariant-loop-key g l = record {
  tends : Tends l.tag l.initial.tree.commits l.tree.commits;
  planted : IsPlanted l.tree.commits l.tag (take l.key-index l.keys) l.rows.items;
}
