use Rattle.std.proofs.Common.{◌-◌, take}
use Rattle.revisions.proofs.Going.{goes_on}
use Rattle.revisions.proofs.Applying.{apart_after, items_apply}
use Rattle.revisions.proofs.laws.maps_go_on.Goals as goal

pub returns-clause-keeps_up : goal.returns-clause-keeps_up
returns-clause-keeps_up g c = λ wanted map from upto items a are. items_apply wanted map from upto items a are

pub returns-clause-apart : goal.returns-clause-apart
returns-clause-apart g c = λ map n a. apart_after map.first (take (n - map.oldest) map.changes) a

pub returns-clause-on : goal.returns-clause-on
returns-clause-on g c = λ wanted map from n upto given further are more. goes_on wanted map from n upto given further are more
