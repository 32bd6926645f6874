use Rattle.std.proofs.Common.{Err, ap, inl, length}
use Rattle.key_class.specs.Queries.{query_of}
use Rattle.query_text.specs.Tokens.{placed}
use Rattle.front.specs.Told.{RepliesOpen}
use Rattle.front.proofs.Replying.{refused_query}
use Rattle.front.proofs.serve.open_query.Goals as goal

pub returns-in-Ok : goal.returns-in-Ok
returns-in-Ok g c told t =
    let r = c.open_at.ensures told t in
    (r.0, inl (query_of c.in-Ok.query, c.in-Ok.ensures.spells, r.1), r.2)

pub returns-in-Err : goal.returns-in-Err
returns-in-Err g c told t =
    refused_query g.C.ClassText.texts g.C.KeyClass.rules c.args.store.now told t (length c.args.text.now) (placed c.args.text.now c.args.lexemes.now) (RepliesOpen c.args.room c.args.from) c.in-Err.why
    c.in-Err.ensures.refusals (λ place e. c.in-Err.ensures.refuses place (ap Err e))
