use Rattle.std.proofs.Common.{sym, ◌∙◌}
use Rattle.map.proofs.Succeeding.{absent, successor_skipped}
use Rattle.map.proofs.successor.Successor.step.Goals as goal

pub returns-in-Pass : goal.returns-in-Pass
returns-in-Pass g c =
    let s = c.args.self.now in
    successor_skipped c.args.present.now s.roll s.generation c.requires c.skip.new.self c.skip.ensures (sym c.offer.ensures.is ∙ c.in-Pass.is)

pub add-requires : goal.add-requires
add-requires g c =
    let s = c.args.self.now in
    let a = absent c.args.present.now s.roll s.generation c.requires c.offer.ensures.ahead c.in-Give.entry (sym c.offer.ensures.is ∙ c.in-Give.is) in
    record { unchanged = a.0; absent = a.1 }

pub pass-requires : goal.pass-requires
pass-requires g c = (c.in-Give.entry, sym c.offer.ensures.is ∙ c.in-Give.is)
