use Rattle.std.proofs.Common.{◌≡◌, ℕ, IsTrue, false, ◌<◌, ◌≤◌, ap, arith, length}
use Rattle.key_class.specs.Queries.{query_of, depth_of}
use Rattle.query_text.specs.Tokens.{placed, at, token_in}
use Rattle.key_class.specs.Limits.{most_depth}
use Rattle.query_text.specs.Grammar.{no_spelling}
use Rattle.query_text.proofs.ParserLaws.{refuses_empty, refuses_deep}
use Rattle.query_text.proofs.parser.parse_tokens.Goals as goal

lt-from-false : (m n : ℕ) → (m ≤ n → IsTrue false) → n < m
lt-from-false m n f = let g : m ≤ n → ⊥ = λ h. let e : IsTrue false = f h in cc in omega arith

pub returns-in_default-clause-refuses : goal.returns-in_default-clause-refuses
returns-in_default-clause-refuses g c = λ place e.
    let text = c.args.text.now in
    let same : length text ≡ place = cc in
    rw (← same) (refuses_empty g.C.ClassText.texts (length text) (placed text c.args.lexemes.now) (ap (placed text) c.in_default.ensures))

pub returns-else-is_within_depth-clause-refuses : goal.returns-else-is_within_depth-clause-refuses
returns-else-is_within_depth-clause-refuses g c = λ place e.
    let text = c.args.text.now in
    let same : c.in-Some.first.place ≡ place = cc in
    let first = at c.in-Some.first.place (token_in text c.in-Some.first) in
    let deep = lt-from-false (depth_of (query_of c.in-Ok.found)) most_depth c.if-is_within_depth.ensures.1 in
    rw (← same) (refuses_deep g.C.ClassText.texts (length text) (placed text c.args.lexemes.now) (placed text c.in-Some.field-0-1.now) first (query_of c.in-Ok.found) (ap (placed text) c.in-Some.ensures) c.in-Ok.ensures.spells deep)

pub returns-in-Err-At-clause-refuses : goal.returns-in-Err-At-clause-refuses
returns-in-Err-At-clause-refuses g c = λ place e.
    let same : c.in-Err-At.place ≡ place = cc in
    rw (← same) (no_spelling (rw c.in-Err-At.field-0-is at c.in-Err-At.ensures.refused))
