use Rattle.std.proofs.Common.{◌<◌, length, arith, ◌∙◌}
use Rattle.std.proofs.lemmas.Bool.Decides.{nat_tests}
use Rattle.box_class.proofs.Bounds.{bound_within, put_within, left_within}
use Rattle.box_class.proofs.Places.{written_length}
use Rattle.box_class.proofs.quadratic.part_rest.Goals as goal

pub of-requires : goal.of-requires
of-requires g c = bound_within g.A.Area.limit c.parting.left c.parting.entries.keys.items c.parting.invariant.left_small

pub of-requires-in-parting : goal.of-requires-in-parting
of-requires-in-parting g c = bound_within g.A.Area.limit c.parting.right c.parting.entries.keys.items c.parting.invariant.right_small

pub gain_anew-requires-clause-small : goal.gain_anew-requires-clause-small
gain_anew-requires-clause-small g c =
    put_within g.A.Area.limit c.parting.right c.put.result c.union-right.result c.parting.entries.keys.items c.deref.result.now c.most_decided-at.result c.parting.invariant.right_small (omega (arith, c.parting.invariant.keys, c.most_decided-at.ensures)) c.put.ensures.key (c.deref.ensures.value ∙ c.put.ensures.keys) c.union-right.ensures

pub parting-preserved-then-lt : goal.parting-preserved-then-lt
parting-preserved-then-lt g c =
    let within : c.most_decided-at.result < length c.parting.entries.keys.items = omega (arith, c.parting.invariant.keys, c.most_decided-at.ensures) in
    let written = written_length c.gain_anew.new.gains c.put.new.entries.to_right.items c.put.new.entries.to_right.len (omega (arith, c.gain_anew.auto.gains)) in record {
      len = c.put.ensures.len ∙ c.parting.invariant.len;
      open_places = c.put.ensures.open_places;
      keys = omega (arith, c.put.ensures.one_each);
      to_right = omega (arith, written, c.put.ensures.to_right);
      to_left = omega (arith, c.put.ensures.to_left);
      right_small = put_within g.A.Area.limit c.parting.right c.put.result c.union-right.result c.parting.entries.keys.items c.put.new.entries.keys.items c.most_decided-at.result c.parting.invariant.right_small within c.put.ensures.key c.put.ensures.keys c.union-right.ensures;
      left_small = left_within g.A.Area.limit c.parting.left c.put.result c.parting.entries.keys.items c.put.new.entries.keys.items c.most_decided-at.result c.parting.invariant.left_small within c.put.ensures.keys;
      left_can = omega (arith, c.parting.invariant.left_can, c.put.ensures.opens, c.put.ensures.lefts, c.if-lefts-opens.false, c.lefts.ensures, c.opens.ensures.value);
      right_can = omega (arith, c.parting.invariant.right_can, c.put.ensures.opens, c.put.ensures.rights, c.if-rights-opens.false, c.rights.ensures, c.opens-in-parting.ensures.value);
    }

pub gain_anew-requires-else-lt-clause-small : goal.gain_anew-requires-else-lt-clause-small
gain_anew-requires-else-lt-clause-small g c =
    put_within g.A.Area.limit c.parting.left c.put-else-lt.result c.union-left.result c.parting.entries.keys.items c.deref-else-lt.result.now c.most_decided-at.result c.parting.invariant.left_small (omega (arith, c.parting.invariant.keys, c.most_decided-at.ensures)) c.put-else-lt.ensures.key (c.deref-else-lt.ensures.value ∙ c.put-else-lt.ensures.keys) c.union-left.ensures

pub parting-preserved : goal.parting-preserved
parting-preserved g c =
    let within : c.most_decided-at.result < length c.parting.entries.keys.items = omega (arith, c.parting.invariant.keys, c.most_decided-at.ensures) in
    let written = written_length c.gain_anew-else-lt.new.gains c.put-else-lt.new.entries.to_left.items c.put-else-lt.new.entries.to_left.len (omega (arith, c.gain_anew-else-lt.auto.gains)) in record {
      len = c.put-else-lt.ensures.len ∙ c.parting.invariant.len;
      open_places = c.put-else-lt.ensures.open_places;
      keys = omega (arith, c.put-else-lt.ensures.one_each);
      to_left = omega (arith, written, c.put-else-lt.ensures.to_left);
      to_right = omega (arith, c.put-else-lt.ensures.to_right);
      left_small = put_within g.A.Area.limit c.parting.left c.put-else-lt.result c.union-left.result c.parting.entries.keys.items c.put-else-lt.new.entries.keys.items c.most_decided-at.result c.parting.invariant.left_small within c.put-else-lt.ensures.key c.put-else-lt.ensures.keys c.union-left.ensures;
      right_small = left_within g.A.Area.limit c.parting.right c.put-else-lt.result c.parting.entries.keys.items c.put-else-lt.new.entries.keys.items c.most_decided-at.result c.parting.invariant.right_small within c.put-else-lt.ensures.keys;
      left_can = omega (arith, c.parting.invariant.left_can, c.put-else-lt.ensures.opens, c.put-else-lt.ensures.lefts, c.if-lefts-opens.false, c.lefts.ensures, c.opens.ensures.value);
      right_can = omega (arith, c.parting.invariant.right_can, c.put-else-lt.ensures.opens, c.put-else-lt.ensures.rights, c.if-rights-opens.false, c.rights.ensures, c.opens-in-parting.ensures.value);
    }

pub most_decided-at-requires-clause-some : goal.most_decided-at-requires-clause-some
most_decided-at-requires-clause-some g c = grind (arith, nat_tests)
