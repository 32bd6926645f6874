use Rattle.std.proofs.Common.{ℕ, List, Result, length, Some, refl, sym, subst}
use Rattle.query_text.specs.declared.lexeme.Lexeme.{Lexeme}
use Rattle.query_text.specs.Tokens.{placed}
use Rattle.front.specs.Requests.{Command}
use Rattle.front.specs.Sessions.{RepliesTokens, RepliesAsked}
use Rattle.front.proofs.serve.reply_to_tokens.Goals as goal

pub returns-in-Ok : goal.returns-in-Ok
returns-in-Ok g c told t =
    let r = c.carry_out.ensures told t in
    let said = c.carry_out.result in
    let asked = subst (λ (x : Result (Command _) ℕ). RepliesAsked g.C.ClassText.texts g.C.KeyClass.rules (length c.args.text.now) x (Some said) told r.0) (sym c.in-Ok.ensures) (said, refl, r.1) in
    (r.0, subst (λ (ls : List Lexeme). RepliesTokens g.C.ClassText.texts g.C.KeyClass.rules (length c.args.text.now) (placed c.args.text.now ls) (Some said) told r.0) (sym c.in_ok-first.ensures) asked, r.2)
