use Rattle.key_class.specs.Queries.{query_of}
use Rattle.std.proofs.Common.{◌≡◌}
use Rattle.query_text.specs.Printing.{text_of, IsSpelling}
use Rattle.query_text.proofs.PrintLaws.{spells_written, spelling_is_read}
use Rattle.query_text.proofs.printer.print.Goals as goal

spelling : (g : _) (c : goal.In-Ok g) → IsSpelling g.C.ClassText.texts c.write_query.new.writer.items (query_of c.args.query.now)
spelling g c =
    let texts = g.C.ClassText.texts in
    let written : c.write_query.new.writer.items ≡ text_of texts (query_of c.args.query.now) = rw c.new-text.ensures.items at c.in-Ok.ensures.text in
    spells_written texts g.met.C.ClassText.atom_of_parts g.met.C.ClassText.key_text_is_apart c.write_query.new.writer.items (query_of c.args.query.now) written c.in-Ok.ensures.read_back

pub returns-in-Ok-clause-spelling : goal.returns-in-Ok-clause-spelling
returns-in-Ok-clause-spelling g c = spelling g c

pub returns-in-Ok-clause-read_again : goal.returns-in-Ok-clause-read_again
returns-in-Ok-clause-read_again g c = λ short shallow.
    spelling_is_read g.C.ClassText.texts c.write_query.new.writer.items (query_of c.args.query.now) (spelling g c) short shallow
