use Rattle.std.proofs.Common.{◌∷◌, refl, arith}
use Rattle.std.proofs.lemmas.List.Elements.{All-cons}
use Rattle.desk.specs.Turns.{IsTurnMade}
use Rattle.desk.proofs.turns.DeskOver+World+C+Ring+C+Key+L.turns.Goals as goal

pub loop-made-preserved : goal.loop-made-preserved
loop-made-preserved g c =
    let before = c.loop-made.invariant in
    record {
      answers = c.turn.result ∷ before.answers;
      turned = All-cons (IsTurnMade g.C.KeyClass.rules c.args.cursor) c.turn.result before.answers (record { replied = c.turn.ensures.visit; done = c.in_default.not-Refused }) before.turned;
      count = omega (arith, before.count);
      latest = refl;
    }
