use Rattle.std.proofs.Common.{[], None, refl, sym}
use Rattle.std.proofs.lemmas.List.{append-nil}
use Rattle.front.proofs.Writing.{gathers}
use Rattle.front.proofs.serve.StoreResponder.answer.Goals as goal

pub returns-in-None-clause-answers : goal.returns-in-None-clause-answers
returns-in-None-clause-answers g c =
    let told = rw c.in-None.is at c.reply_to_tokens.ensures in
    let gathered = c.args.gathered.now.items in (
      [],
      record { said = None; is_text = refl; replies = told },
      gathers (g.W.Write.contents c.args.writer.now) gathered gathered [] (sym (append-nil gathered)),
    )
