use Rattle.std.proofs.Common.{arith, rules, ap, length, length-append, length-drop, drop}
use Rattle.std.specs.Fmt.{decimal}
use Rattle.query_text.proofs.LineLaws.{size_short}
use Rattle.query_text.proofs.line.PrintBuffer.put_signed.Goals as goal

pub write_digits-self-inside-requires : goal.write_digits-self-inside-requires
write_digits-self-inside-requires c =
    let digits = size_short c.unsigned_abs.result (search rules) in
    (omega (arith, digits, c.requires.room, ap length c.self.view_is, length-drop c.self.inside.start c.self.inside.bytes), search rules)

pub put_byte-requires : goal.put_byte-requires
put_byte-requires c =
    let digits = size_short c.unsigned_abs.result (search rules) in
    record { room = omega (arith, c.requires.room, digits, ap length c.write_digits-self-inside.ensures.written, ap length c.self.view_is, length-append (decimal c.unsigned_abs.result) (drop c.self.inside.start c.self.inside.bytes)) }

pub returns-then-number-lt0-clause-short : goal.returns-then-number-lt0-clause-short
returns-then-number-lt0-clause-short c =
    let digits = size_short c.unsigned_abs.result (search rules) in
    omega (arith, digits, ap length c.put_byte.ensures, ap length c.write_digits-self-inside.ensures.written, ap length c.self.view_is, length-append (decimal c.unsigned_abs.result) (drop c.self.inside.start c.self.inside.bytes))

pub returns-else-number-lt0-clause-short : goal.returns-else-number-lt0-clause-short
returns-else-number-lt0-clause-short c =
    let digits = size_short c.unsigned_abs.result (search rules) in
    omega (arith, digits, ap length c.write_digits-self-inside.ensures.written, ap length c.self.view_is, length-append (decimal c.unsigned_abs.result) (drop c.self.inside.start c.self.inside.bytes))
