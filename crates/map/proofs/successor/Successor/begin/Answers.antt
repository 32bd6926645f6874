use Rattle.std.proofs.Common.{ap, ◌∙◌}
use Rattle.revisions.specs.Maps.{empty_map}
use Rattle.map.proofs.Succeeding.{successor_begun}
use Rattle.map.proofs.successor.Successor.begin.Goals as goal

pub returns : goal.returns
returns g c = successor_begun c.args.present.now c.in_ok-roll.roll c.in_ok-generation.generation c.roll.ensures.apart c.in_ok-roll.ensures.all c.in_ok-roll.ensures.none (c.in_ok-generation.ensures.ok ∙ ap empty_map c.revision.ensures.is)
