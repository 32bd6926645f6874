use Rattle.std.proofs.Common.{arith, rules}
use Rattle.std.proofs.lemmas.Fmt.{length-decimal-le}
use Rattle.front.proofs.answers.append_last.Goals as goal

pub write_digits-start-requires : goal.write_digits-start-requires
write_digits-start-requires c = (length-decimal-le 20 c.args.number (omega arith) (search rules) (search rules), omega arith)
