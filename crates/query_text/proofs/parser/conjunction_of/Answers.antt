use Rattle.std.proofs.Common.{◌≡◌, [], rules}
use Rattle.key_class.specs.Queries.{query_of}
use Rattle.query_text.proofs.ParserLaws.{completes_not, completes_and, completes_first_unit, completes_unit_behind_or, completes_unit_behind_bracket}
use Rattle.query_text.proofs.parser.conjunction_of.Goals as goal

pub nots-preserved : goal.nots-preserved
nots-preserved g c = λ len ts rest h.
    let popped = rw c.in-Some-Not.field-0-is at c.in-Some-Not.ensures.items in
    rw c.in_ok-new-in-Some-Not.ensures.ok (completes_not (g.C.ClassText.texts.key_at len) g.C.ClassText.texts.atom_of c.nots.stack.items c.pop.new.self.items (query_of c.nots.part) popped ts rest (c.nots.invariant len ts rest h))

pub returns-in-Some-And : goal.returns-in-Some-And
returns-in-Some-And g c = λ len ts rest h.
    let popped = rw c.in-Some-And.field-0-is at c.in-Some-And.ensures.items in
    rw (c.in_ok-new-in-Some-And.ensures.ok, c.in_ok-new-in-Some-And-2.ensures.ok) (completes_and (g.C.ClassText.texts.key_at len) g.C.ClassText.texts.atom_of c.nots.stack.items c.pop.new.self.items c.in-Some-And.left (query_of c.nots.part) popped ts rest (c.nots.invariant len ts rest h))

pub returns-in-Some-Or : goal.returns-in-Some-Or
returns-in-Some-Or g c = λ len ts rest h.
    let popped = rw c.in-Some-Or.field-0-is at c.in-Some-Or.ensures.items in
    completes_unit_behind_or (g.C.ClassText.texts.key_at len) g.C.ClassText.texts.atom_of c.nots.stack.items c.pop.new.self.items c.push_reserved.new.self.items c.in-Some-Or.left (query_of c.nots.part) popped c.push_reserved.ensures.items ts rest (c.nots.invariant len ts rest h)

pub returns-in-Some-Bracket : goal.returns-in-Some-Bracket
returns-in-Some-Bracket g c = λ len ts rest h.
    let popped = rw c.in-Some-Bracket.field-0-is at c.in-Some-Bracket.ensures.items in
    completes_unit_behind_bracket (g.C.ClassText.texts.key_at len) g.C.ClassText.texts.atom_of c.nots.stack.items c.pop.new.self.items c.push_reserved-in-Some-Bracket.new.self.items (query_of c.nots.part) popped c.push_reserved-in-Some-Bracket.ensures.items ts rest (c.nots.invariant len ts rest h)

pub returns-in-None : goal.returns-in-None
returns-in-None g c = λ len ts rest h.
    let empty : c.nots.stack.items ≡ [] = search rules in
    completes_first_unit (g.C.ClassText.texts.key_at len) g.C.ClassText.texts.atom_of c.nots.stack.items c.pop.new.self.items (query_of c.nots.part) c.in-None.ensures.items empty ts rest (c.nots.invariant len ts rest h)
