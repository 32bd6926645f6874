use Rattle.std.proofs.Common.{◌≡◌, ◌<◌, ℕ, Some, None}
use Rattle.std.specs.Prelude.{slice_index_or}
use Rattle.key_class.specs.Queries.{query_of}
use Rattle.change_list.specs.Changes.{IsLegal}
use Rattle.feed.specs.declared.topics.Topic.{Topic}
use Rattle.feed.specs.Holding.{IsAsked}
use Rattle.feed.proofs.topics.planted.Given as goal

abbrev pub invariant-loop-number : goal.invariant-loop-number
invariant-loop-number g l = record {
  legal : IsLegal l.tree.commits;
  asked : (number : ℕ) (t : Topic _) → number < l.number → slice_index_or l.topics.slots number None ≡ Some t → IsAsked g.C.Reach.reach_of g.C.KeyClass.rules.size_of l.tree.commits l.always.keys (query_of t.query) number;
}
