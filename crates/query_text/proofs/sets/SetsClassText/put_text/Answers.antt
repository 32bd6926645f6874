use Rattle.std.proofs.Common.{arith, rules, ap, length, length-append}
use Rattle.query_text.specs.SetTexts.{spaced, elements_below}
use Rattle.query_text.proofs.SetLaws.{elements_short, set_reads_back}
use Rattle.query_text.proofs.sets.SetsClassText.put_text.Goals as goal

pub put_byte-requires-2 : goal.put_byte-requires-2
put_byte-requires-2 c =
    record { room = omega (arith, c.requires.room, ap length c.put_elements.ensures, ap length c.put_byte.ensures, length-append (spaced (elements_below 128 c.args.key.mask)) c.put_byte.new.self, elements_short 128 c.args.key.mask (omega arith)) }

pub returns-clause-short : goal.returns-clause-short
returns-clause-short c =
    omega (arith, ap length c.put_byte-2.ensures, ap length c.put_elements.ensures, ap length c.put_byte.ensures, length-append (spaced (elements_below 128 c.args.key.mask)) c.put_byte.new.self, elements_short 128 c.args.key.mask (omega arith))

pub returns-clause-read_back : goal.returns-clause-read_back
returns-clause-read_back c = set_reads_back c.args.key (search rules)
