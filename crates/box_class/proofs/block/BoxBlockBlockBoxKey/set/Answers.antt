use Rattle.std.proofs.Common.{rules, w32, ◌≡◌, length, set, ap}
use Rattle.std.proofs.lemmas.Int.{to_z-of_z}
use mir.Val.{SFits}
use Rattle.box_class.proofs.Columns.{ordered_lanes, with_one}
use Rattle.box_class.proofs.block.BoxBlockBlockBoxKey.set.Goals as goal

pub returns : goal.returns
returns c =
    let b = c.args.self.now in
    let q = c.args.item in
    let fits_x1 : SFits w32 q.x1 = search rules in
    let fits_y1 : SFits w32 q.y1 = search rules in
    let fits_x2 : SFits w32 q.x2 = search rules in
    let fits_y2 : SFits w32 q.y2 = search rules in
    let all_lefts : length b.lefts ≡ 8 = search rules in
    let all_lows : length b.lows ≡ 8 = search rules in
    let all_rights : length b.rights ≡ 8 = search rules in
    let all_highs : length b.highs ≡ 8 = search rules in
    let lefts = ap (set b.lefts c.args.place) (to_z-of_z w32 q.x1 fits_x1) in
    let lows = ap (set b.lows c.args.place) (to_z-of_z w32 q.y1 fits_y1) in
    let rights = ap (set b.rights c.args.place) (to_z-of_z w32 q.x2 fits_x2) in
    let highs = ap (set b.highs c.args.place) (to_z-of_z w32 q.y2 fits_y2) in
    search (with_one, all_lefts, all_lows, all_rights, all_highs, lefts, lows, rights, highs, c.requires)

pub invariant_of-self : goal.invariant_of-self
invariant_of-self c =
    let b = c.args.self.now in
    let q = c.args.item in
    let fits_x1 : SFits w32 q.x1 = search rules in
    let fits_y1 : SFits w32 q.y1 = search rules in
    let fits_x2 : SFits w32 q.x2 = search rules in
    let fits_y2 : SFits w32 q.y2 = search rules in
    let all_lefts : length b.lefts ≡ 8 = search rules in
    let all_lows : length b.lows ≡ 8 = search rules in
    let all_rights : length b.rights ≡ 8 = search rules in
    let all_highs : length b.highs ≡ 8 = search rules in record {
      x_ordered = ordered_lanes b.lefts b.rights c.args.place q.x1 q.x2 fits_x1 fits_x2 q.x_ordered all_lefts all_rights b.x_ordered;
      y_ordered = ordered_lanes b.lows b.highs c.args.place q.y1 q.y2 fits_y1 fits_y2 q.y_ordered all_lows all_highs b.y_ordered;
    }
