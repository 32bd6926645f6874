use Rattle.key_class.specs.QueryLaws.{consistent_above_match, no_match_below}
use Rattle.key_class.proofs.pred.bounds_miss_no_match.Goals as goal

pub returns-clause-consistent : goal.returns-clause-consistent
returns-clause-consistent g c =
    consistent_above_match g.C.KeyClass.rules.is_match g.C.KeyClass.rules.is_consistent g.C.KeyClass.rules.is_cover g.met.C.KeyClass.lawful.consistent_above_match

pub returns-clause-no_match : goal.returns-clause-no_match
returns-clause-no_match g c q b k v n =
    no_match_below g.C.KeyClass.rules.is_match g.C.KeyClass.rules.is_consistent g.C.KeyClass.rules.is_cover g.met.C.KeyClass.lawful.consistent_above_match q b k n v
