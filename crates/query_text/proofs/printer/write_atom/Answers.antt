use Rattle.std.proofs.Common.{Result, Ok, Err, OnOk}
use Rattle.query_text.proofs.printer.write_atom.Goals as goal

on_ok : {T E P : Type 0} (r : Result T E) → P → OnOk r P
on_ok (Ok x) p = p
on_ok (Err e) p = tt

pub returns-clause-read_back : goal.returns-clause-read_back
returns-clause-read_back g c = on_ok c.write_all-2.result (rw c.parts-rel.ensures.operand at c.put_text.ensures.read_back)
