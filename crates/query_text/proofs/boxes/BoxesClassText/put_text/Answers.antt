use Rattle.std.proofs.Common.{rules, w32, FitsSigned}
use Rattle.query_text.proofs.BoxLaws.{points_joined, box_reads_back}
use Rattle.std.proofs.lemmas.Int.{to_z-of_z}
use Rattle.std.specs.Fmt.{signed_decimal}
use Rattle.query_text.proofs.boxes.BoxesClassText.put_text.Goals as goal

pub returns-clause-text : goal.returns-clause-text
returns-clause-text c =
    let x1 : FitsSigned w32 c.args.key.x1 = search rules in
    let y1 : FitsSigned w32 c.args.key.y1 = search rules in
    let x2 : FitsSigned w32 c.args.key.x2 = search rules in
    let y2 : FitsSigned w32 c.args.key.y2 = search rules in
    points_joined (signed_decimal c.args.key.x1) (signed_decimal c.args.key.y1) (signed_decimal c.args.key.x2) (signed_decimal c.args.key.y2) c.args.line.now c.put_byte.new.self c.put_point.new.line c.put_byte-2.new.self c.put_point-2.new.line c.put_byte-3.new.self
    c.put_byte.ensures (simp to_z-of_z at c.put_point.ensures.numbers) c.put_byte-2.ensures (simp to_z-of_z at c.put_point-2.ensures.numbers) c.put_byte-3.ensures

pub returns-clause-read_back : goal.returns-clause-read_back
returns-clause-read_back c =
    let x1 : FitsSigned w32 c.args.key.x1 = search rules in
    let y1 : FitsSigned w32 c.args.key.y1 = search rules in
    let x2 : FitsSigned w32 c.args.key.x2 = search rules in
    let y2 : FitsSigned w32 c.args.key.y2 = search rules in
    box_reads_back c.args.key x1 y1 x2 y2
