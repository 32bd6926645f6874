use Rattle.std.proofs.Common.{sym, ap, arith, length, ◌∙◌, refl}
use Rattle.key_class.specs.Queries.{query_of}
use Rattle.query_text.specs.declared.lexeme.Lexeme.{Lexeme}
use Rattle.query_text.specs.Tokens.{placed, at, token_in}
use Rattle.query_text.specs.Parsing.{pending}
use Rattle.query_text.proofs.ParserLaws.{waits_behind_and, waits_behind_or, closes_bracket, ends_whole, refuses_open_end, refuses_close, refuses_behind}
use Rattle.query_text.proofs.parser.read_behind.Goals as goal

pub returns-then-drops_top : goal.returns-then-drops_top
returns-then-drops_top g c = λ ts h.
    let text = c.args.text.now in
    let n = length text in
    let part = c.in_ok-last.ensures n ts (placed text c.brackets.rest.now) (c.brackets.invariant.read ts h) in
    let top = c.if-drops_top.ensures.dropped refl in
    refuses_open_end (g.C.ClassText.texts.key_at n) g.C.ClassText.texts.atom_of n c.query_of_conjunction.new.stack.items c.drops_top.new.stack.items top.0 (query_of c.in_ok-found.found) ts (placed text c.brackets.rest.now) top.1 (ap (placed text) c.in_default.ensures) (c.in_ok-found.ensures n ts (placed text c.brackets.rest.now) part)

pub returns-in_default : goal.returns-in_default
returns-in_default g c = λ ts h.
    let text = c.args.text.now in
    let n = length text in
    let part = c.in_ok-last.ensures n ts (placed text c.brackets.rest.now) (c.brackets.invariant.read ts h) in
    let none = c.if-drops_top.ensures.empty refl in
    ends_whole (g.C.ClassText.texts.key_at n) g.C.ClassText.texts.atom_of c.query_of_conjunction.new.stack.items (query_of c.in_ok-found.found) ts (placed text c.brackets.rest.now) none (ap (placed text) c.in_default.ensures) (c.in_ok-found.ensures n ts (placed text c.brackets.rest.now) part)

pub returns-in-And : goal.returns-in-And
returns-in-And g c = λ ts h.
    let text = c.args.text.now in
    let n = length text in
    let first = at c.in-Some.first.place (token_in text c.in-Some.first) in
    let part = c.in_ok-last.ensures n ts (placed text c.brackets.rest.now) (c.brackets.invariant.read ts h) in (
      waits_behind_and (g.C.ClassText.texts.key_at n) g.C.ClassText.texts.atom_of c.conjunction_of.new.stack.items c.push.new.self.items c.in_ok-last.last ts (placed text c.brackets.rest.now) (placed text c.in-Some.behind.now) first c.in_ok-push-in-And.ensures.items (ap (placed text) c.in-Some.ensures) (sym c.in-And.ensures) part,
      omega (arith, ap (length {A = Lexeme}) c.in-Some.ensures, c.brackets.invariant.shorter),
    )

pub returns-in-Or : goal.returns-in-Or
returns-in-Or g c = λ ts h.
    let text = c.args.text.now in
    let n = length text in
    let first = at c.in-Some.first.place (token_in text c.in-Some.first) in
    let part = c.in_ok-last.ensures n ts (placed text c.brackets.rest.now) (c.brackets.invariant.read ts h) in (
      waits_behind_or (g.C.ClassText.texts.key_at n) g.C.ClassText.texts.atom_of c.query_of_conjunction-in-Or.new.stack.items c.push-in-Or.new.self.items c.in_ok-found-in-Or.found ts (placed text c.brackets.rest.now) (placed text c.in-Some.behind.now) first c.in_ok-push-in-Or.ensures.items (ap (placed text) c.in-Some.ensures) (sym c.in-Or.ensures) (c.in_ok-found-in-Or.ensures n ts (placed text c.brackets.rest.now) part),
      omega (arith, ap (length {A = Lexeme}) c.in-Some.ensures, c.brackets.invariant.shorter),
    )

pub returns-then-not-drops_top : goal.returns-then-not-drops_top
returns-then-not-drops_top g c = λ ts h.
    let text = c.args.text.now in
    let n = length text in
    let first = at c.in-Some.first.place (token_in text c.in-Some.first) in
    let part = c.in_ok-last.ensures n ts (placed text c.brackets.rest.now) (c.brackets.invariant.read ts h) in
    let none = c.if-not-drops_top.ensures.empty refl in
    refuses_close (g.C.ClassText.texts.key_at n) g.C.ClassText.texts.atom_of n c.query_of_conjunction-in-Close.new.stack.items (query_of c.in_ok-part-in-Close.part) ts (placed text c.brackets.rest.now) (placed text c.in-Some.behind.now) first none (ap (placed text) c.in-Some.ensures) (sym c.in-Close.ensures) (c.in_ok-part-in-Close.ensures n ts (placed text c.brackets.rest.now) part)

pub brackets-preserved : goal.brackets-preserved
brackets-preserved g c =
    let text = c.args.text.now in
    let n = length text in
    let first = at c.in-Some.first.place (token_in text c.in-Some.first) in
    let top = c.if-not-drops_top.ensures.dropped refl in
    record {
      read = λ ts h.
          let part = c.in_ok-last.ensures n ts (placed text c.brackets.rest.now) (c.brackets.invariant.read ts h) in
          closes_bracket (g.C.ClassText.texts.key_at n) g.C.ClassText.texts.atom_of c.query_of_conjunction-in-Close.new.stack.items c.drops_top-in-Close.new.stack.items top.0 (query_of c.in_ok-part-in-Close.part) ts (placed text c.brackets.rest.now) (placed text c.in-Some.behind.now) first top.1 (ap (placed text) c.in-Some.ensures) (sym c.in-Close.ensures) (c.in_ok-part-in-Close.ensures n ts (placed text c.brackets.rest.now) part);
      shorter = omega (arith, ap (length {A = Lexeme}) c.in-Some.ensures, c.brackets.invariant.shorter);
    }

pub returns-in_default-terminal : goal.returns-in_default-terminal
returns-in_default-terminal g c = λ ts h.
    let text = c.args.text.now in
    let n = length text in
    let first = at c.in-Some.first.place (token_in text c.in-Some.first) in
    let part = c.in_ok-last.ensures n ts (placed text c.brackets.rest.now) (c.brackets.invariant.read ts h) in
    refuses_behind (g.C.ClassText.texts.key_at n) g.C.ClassText.texts.atom_of n (pending c.conjunction_of.new.stack.items) (query_of c.in_ok-last.last) ts (placed text c.brackets.rest.now) (placed text c.in-Some.behind.now) first (ap (placed text) c.in-Some.ensures) (λ e. c.in_default-terminal.not-And (c.terminal.ensures ∙ e)) (λ e. c.in_default-terminal.not-Or (c.terminal.ensures ∙ e)) (λ e. c.in_default-terminal.not-Close (c.terminal.ensures ∙ e)) part
