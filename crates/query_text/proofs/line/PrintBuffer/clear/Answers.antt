use Rattle.std.proofs.Common.{rules}
use Rattle.std.proofs.lemmas.List.{drop_all}
use Rattle.query_text.proofs.line.PrintBuffer.clear.Goals as goal

pub returns : goal.returns
returns c = drop_all 4096 c.self.inside.bytes (search rules)
