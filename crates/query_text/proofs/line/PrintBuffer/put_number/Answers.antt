use Rattle.std.proofs.Common.{arith, rules, ap, length, length-append, length-drop, drop}
use Rattle.std.specs.Fmt.{decimal}
use Rattle.query_text.proofs.LineLaws.{digits_short}
use Rattle.query_text.proofs.line.PrintBuffer.put_number.Goals as goal

pub write_digits-self-inside-requires : goal.write_digits-self-inside-requires
write_digits-self-inside-requires c =
    let digits = digits_short c.args.number (search rules) in
    (omega (arith, digits, c.requires.room, ap length c.self.view_is, length-drop c.self.inside.start c.self.inside.bytes), search rules)

pub returns-clause-short : goal.returns-clause-short
returns-clause-short c =
    let digits = digits_short c.args.number (search rules) in
    omega (arith, digits, ap length c.write_digits-self-inside.ensures.written, ap length c.self.view_is, length-append (decimal c.args.number) (drop c.self.inside.start c.self.inside.bytes))
