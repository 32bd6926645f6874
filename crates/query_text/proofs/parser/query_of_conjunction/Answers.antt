use Rattle.std.proofs.Common.{◌≡◌, [], rules}
use Rattle.key_class.specs.Queries.{query_of}
use Rattle.query_text.proofs.ParserLaws.{completes_or, completes_first, completes_no_or}
use Rattle.query_text.proofs.parser.query_of_conjunction.Goals as goal

pub returns-in_default : goal.returns-in_default
returns-in_default g c = λ len ts rest h.
    let empty : c.args.stack.now.items ≡ [] = search rules in
    completes_first (g.C.ClassText.texts.key_at len) g.C.ClassText.texts.atom_of c.args.stack.now.items c.pop.new.self.items (query_of c.args.last) c.in_default.ensures.items empty ts rest h

pub returns-in_ok-new-in-Or-2 : goal.returns-in_ok-new-in-Or-2
returns-in_ok-new-in-Or-2 g c = λ len ts rest h.
    let popped = rw c.in-Or.is at c.in-Some.ensures.items in
    rw (c.in_ok-new-in-Or.ensures.ok, c.in_ok-new-in-Or-2.ensures.ok) (completes_or (g.C.ClassText.texts.key_at len) g.C.ClassText.texts.atom_of c.args.stack.now.items c.pop.new.self.items c.in-Or.left (query_of c.args.last) popped ts rest h)

pub returns-in_default-top : goal.returns-in_default-top
returns-in_default-top g c = λ len ts rest h.
    completes_no_or (g.C.ClassText.texts.key_at len) g.C.ClassText.texts.atom_of c.args.stack.now.items c.pop.new.self.items c.push_reserved.new.self.items c.in-Some.top (query_of c.args.last) c.in-Some.ensures.items c.push_reserved.ensures.items c.in_default-top.not-Or ts rest h
