use Rattle.std.proofs.Common.{ap, arith, length, length-append}
use Rattle.std.proofs.lemmas.Bool.{false≢true}
use Rattle.box_class.proofs.Bounds.{among_pushed, among_within}
use Rattle.box_class.proofs.Places.{places_pushed, places_kept, places_all}
use Rattle.box_class.proofs.quadratic.open_entries.Goals as goal
use Rattle.box_class.proofs.quadratic.open_entries.Goals.{then-is_open+in_ok-push+in_ok-push-2, else-is_open}

pub loop-place-preserved : goal.loop-place-preserved
loop-place-preserved g c =
    let i = c.loop-place.invariant in
    elim c.if-is_open.branch [
      | then-is_open+in_ok-push+in_ok-push-2 w ↦ record {
        places = rw w.places-is (places_pushed c.args.groups.now c.loop-place.place c.loop-place.places.items w.push.new.self.items w.in_ok-push.ensures.items (c.is_open.ensures.0 w.if-is_open.true) i.places);
        keys = rw w.places-is (rw w.open_keys-is (omega (arith, i.keys, ap length w.in_ok-push.ensures.items, ap length w.in_ok-push-2.ensures.items, length-append c.loop-place.places.items, length-append c.loop-place.open_keys.items)));
        among = rw w.open_keys-is (among_pushed c.args.keys.now c.loop-place.open_keys.items w.push-then-is_open.new.self.items c.loop-place.place w.index-keys-place.result w.in_ok-push-2.ensures.items (omega arith) w.index-keys-place.is i.among);
      }
      | else-is_open w ↦ record {
        places = rw w.places-is (places_kept c.args.groups.now c.loop-place.place _ (omega arith) (λ o. false≢true (w.if-is_open.ensures.1 o)) i.places);
        keys = rw w.places-is (rw w.open_keys-is i.keys);
        among = rw w.open_keys-is i.among;
      }
    ]

pub gains-requires : goal.gains-requires
gains-requires g c = rw c.deref.ensures.value (among_within g.A.Area.limit c.args.left c.args.keys.now c.loop-place.open_keys.items c.loop-place.invariant.among c.requires.left_small)

pub gains-requires-2 : goal.gains-requires-2
gains-requires-2 g c = rw c.deref-2.ensures.value (among_within g.A.Area.limit c.args.right c.args.keys.now c.loop-place.open_keys.items c.loop-place.invariant.among c.requires.right_small)

pub returns-clause-open_places : goal.returns-clause-open_places
returns-clause-open_places g c = places_all c.args.groups.now c.loop-place.place _ (omega arith) c.loop-place.invariant.places

pub returns-clause-left_small : goal.returns-clause-left_small
returns-clause-left_small g c = among_within g.A.Area.limit c.args.left c.args.keys.now c.loop-place.open_keys.items c.loop-place.invariant.among c.requires.left_small

pub returns-clause-right_small : goal.returns-clause-right_small
returns-clause-right_small g c = among_within g.A.Area.limit c.args.right c.args.keys.now c.loop-place.open_keys.items c.loop-place.invariant.among c.requires.right_small
