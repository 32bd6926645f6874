use Rattle.feed.specs.QueryLaws.{satisfied_overlap}
use Rattle.feed.proofs.laws.matching_keys_are_reached.Goals as goal

pub returns : goal.returns
returns g c =
    satisfied_overlap g.C.KeyClass.rules.is_match g.C.Reach.reach_of g.C.Reach.overlap_with g.C.KeyClass.rules.size_of g.met.C.Reach.reaches
