use Rattle.std.proofs.Common.{ap, Err, length, rules, w32, FitsSigned}
use Rattle.std.proofs.lemmas.Int.{to_z-of_z}
use Rattle.query_text.specs.Tokens.{placed}
use Rattle.query_text.proofs.BoxLaws.{box_of_points, no_box_of_points, first_point_fails, second_point_fails, closing_fails}
use Rattle.query_text.proofs.boxes.BoxesClassText.read_key.Goals as goal

pub returns-in_err-x1-clause-gives : goal.returns-in_err-x1-clause-gives
returns-in_err-x1-clause-gives c =
    let fault = first_point_fails (length c.args.text.now) (placed c.args.text.now c.args.lexemes.now) _ _ _ c.in_ok-place.ensures.gives c.in_err-x1.ensures.gives in
    search (rules, fault)

pub returns-in_err-x2-clause-gives : goal.returns-in_err-x2-clause-gives
returns-in_err-x2-clause-gives c =
    let fault = second_point_fails (length c.args.text.now) (placed c.args.text.now c.args.lexemes.now) _ _ _ c.in_ok-place.ensures.gives _ _ c.in_ok-x1.ensures.gives c.in_err-x2.ensures.gives in
    search (rules, fault)

pub returns-in_err-rest-clause-gives : goal.returns-in_err-rest-clause-gives
returns-in_err-rest-clause-gives c =
    let fault = closing_fails (length c.args.text.now) (placed c.args.text.now c.args.lexemes.now) _ _ _ c.in_ok-place.ensures.gives _ _ _ _ c.in_ok-x1.ensures.gives c.in_ok-x2.ensures.gives c.in_err-rest.ensures.gives in
    search (rules, fault)

pub returns-in-Ok-clause-gives : goal.returns-in-Ok-clause-gives
returns-in-Ok-clause-gives c =
    let fx1 : FitsSigned w32 c.in_ok-x1.x1 = search rules in
    let fy1 : FitsSigned w32 c.in_ok-x1.y1 = search rules in
    let fx2 : FitsSigned w32 c.in_ok-x2.x2 = search rules in
    let fy2 : FitsSigned w32 c.in_ok-x2.y2 = search rules in
    let ends = c.in-Ok.ensures in
    box_of_points (length c.args.text.now) (placed c.args.text.now c.args.lexemes.now) _ _ _ _ _ _ c.in_ok-x1.x1 c.in_ok-x1.y1 c.in_ok-x2.x2 c.in_ok-x2.y2 c.in_ok-place.ensures.gives c.in_ok-x1.ensures.gives c.in_ok-x2.ensures.gives c.in_ok-rest.ensures.gives c.in-Ok.key (simp to_z-of_z at ends.across.0) (simp to_z-of_z at ends.along.0) (simp to_z-of_z at ends.across.1) (simp to_z-of_z at ends.along.1)

pub returns-in-Err-clause-gives : goal.returns-in-Err-clause-gives
returns-in-Err-clause-gives c =
    let fx1 : FitsSigned w32 c.in_ok-x1.x1 = search rules in
    let fy1 : FitsSigned w32 c.in_ok-x1.y1 = search rules in
    let fx2 : FitsSigned w32 c.in_ok-x2.x2 = search rules in
    let fy2 : FitsSigned w32 c.in_ok-x2.y2 = search rules in
    let bad = c.in-Err.ensures.out_of_order.0 (ap Err c.in-Err.ensures.refusal) in
    no_box_of_points (length c.args.text.now) (placed c.args.text.now c.args.lexemes.now) _ _ _ _ _ _ c.in_ok-x1.x1 c.in_ok-x1.y1 c.in_ok-x2.x2 c.in_ok-x2.y2 c.in_ok-place.ensures.gives c.in_ok-x1.ensures.gives c.in_ok-x2.ensures.gives c.in_ok-rest.ensures.gives (simp to_z-of_z at bad)
