use Rattle.std.proofs.Common.{arith, length}
use Rattle.std.proofs.lemmas.Result.{err_from_is_err_and}
use Rattle.query_text.specs.Tokens.{placed}
use Rattle.query_text.proofs.ParserLaws.{waits_at_start}
use Rattle.query_text.proofs.parser.query.Goals as goal

pub units-init : goal.units-init
units-init g c = waits_at_start (g.C.ClassText.texts.key_at (length c.args.text.now)) g.C.ClassText.texts.atom_of c.new-stack.result.items (placed c.args.text.now c.args.lexemes.now) c.new-stack.ensures.items

pub returns-in_err-next-clause-refused : goal.returns-in_err-next-clause-refused
returns-in_err-next-clause-refused g c =
    let p = err_from_is_err_and c.from_residual-in_err-next.result c.from_residual-in_err-next.ensures.1 in
    let ts = placed c.args.text.now c.args.lexemes.now in
    rw (p.1, p.2) (c.in_err-next.ensures ts (c.in_ok-atom.ensures.read ts c.units.invariant))

pub units-smaller : goal.units-smaller
units-smaller g c =
    let ts = placed c.args.text.now c.args.lexemes.now in
    let next = rw c.in-More.is at (c.in_ok-next.ensures ts (c.in_ok-atom.ensures.read ts c.units.invariant)) in
    omega (arith, next.1, c.in_ok-atom.ensures.shorter)

pub units-preserved : goal.units-preserved
units-preserved g c =
    let ts = placed c.args.text.now c.args.lexemes.now in
    let next = rw c.in-More.is at (c.in_ok-next.ensures ts (c.in_ok-atom.ensures.read ts c.units.invariant)) in
    next.0

pub returns-in-End-clause-spells : goal.returns-in-End-clause-spells
returns-in-End-clause-spells g c =
    let ts = placed c.args.text.now c.args.lexemes.now in
    rw c.in-End.is at (c.in_ok-next.ensures ts (c.in_ok-atom.ensures.read ts c.units.invariant))
