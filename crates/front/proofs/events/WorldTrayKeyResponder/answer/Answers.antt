use Rattle.std.proofs.Common.{[], refl, sym}
use Rattle.std.proofs.lemmas.List.{append-nil}
use Rattle.front.proofs.Writing.{gathers}
use Rattle.front.proofs.events.WorldTrayKeyResponder.answer.Goals as goal

pub returns-in_default-clause-answers : goal.returns-in_default-clause-answers
returns-in_default-clause-answers g c =
    let gathered = c.args.gathered.now.items in
    ([], rw c.in_default.ensures (refl, refl), gathers (g.W.Write.contents c.args.writer.now) gathered gathered [] (sym (append-nil gathered)))
