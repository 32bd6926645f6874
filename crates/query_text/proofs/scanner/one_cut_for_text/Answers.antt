use Rattle.std.proofs.Common.{false}
use Rattle.query_text.proofs.CutLaws.{one_cut}
use Rattle.query_text.proofs.scanner.one_cut_for_text.Goals as goal

pub returns : goal.returns
returns c = λ bytes ts us p q. one_cut false 0 bytes ts us p q
