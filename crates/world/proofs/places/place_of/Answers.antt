use Rattle.std.proofs.Common.{◌≡◌, ◌+◌, ◌-◌, ◌/◌, ◌<◌, Some, sym, ap, ◌∙◌, arith, length}
use Rattle.std.specs.Prelude.{slice_get}
use Rattle.std.proofs.lemmas.Option.{slice_get-get_or}
use Rattle.world.proofs.Searching.{between_upper, between_lower, found_at, none_between}
use Rattle.world.proofs.places.place_of.Goals as goal

pub returns-then-found-serial : goal.returns-then-found-serial
returns-then-found-serial g c =
    let middle = c.loop-low.low + (c.loop-low.high - c.loop-low.low) / 2 in
    let within : middle < length c.args.members.now = omega (arith, c.loop-low.invariant.within, c.loop-low-test.true) in
    let is : slice_get c.args.members.now middle ≡ Some c.index-members-middle.result = slice_get-get_or c.args.members.now middle _ within ∙ ap Some (sym c.index-members-middle.is) in
    found_at g.T.Numbered.serial_of c.args.members.now c.args.serial c.requires.0 c.requires.1 middle c.index-members-middle.result is (sym c.serial-found.ensures ∙ c.if-found-serial.true)

pub loop-low-preserved-then-found-serial-2 : goal.loop-low-preserved-then-found-serial-2
loop-low-preserved-then-found-serial-2 g c =
    let middle = c.loop-low.low + (c.loop-low.high - c.loop-low.low) / 2 in
    let within : middle < length c.args.members.now = omega (arith, c.loop-low.invariant.within, c.loop-low-test.true) in
    let is : slice_get c.args.members.now middle ≡ Some c.index-members-middle.result = slice_get-get_or c.args.members.now middle _ within ∙ ap Some (sym c.index-members-middle.is) in
    between_upper g.T.Numbered.serial_of c.args.members.now c.args.serial c.requires.0 c.requires.1 c.loop-low.low c.loop-low.high middle c.index-members-middle.result c.loop-low.invariant (omega arith) (omega (arith, c.loop-low-test.true)) is
    (omega (arith, c.if-found-serial-2.true, c.serial-found.ensures))

pub loop-low-preserved : goal.loop-low-preserved
loop-low-preserved g c =
    let middle = c.loop-low.low + (c.loop-low.high - c.loop-low.low) / 2 in
    let within : middle < length c.args.members.now = omega (arith, c.loop-low.invariant.within, c.loop-low-test.true) in
    let is : slice_get c.args.members.now middle ≡ Some c.index-members-middle.result = slice_get-get_or c.args.members.now middle _ within ∙ ap Some (sym c.index-members-middle.is) in
    between_lower g.T.Numbered.serial_of c.args.members.now c.args.serial c.requires.0 c.requires.1 c.loop-low.low c.loop-low.high middle c.index-members-middle.result c.loop-low.invariant (omega arith) (omega (arith, c.loop-low-test.true)) is
    (omega (arith, c.if-found-serial-2.false, c.if-found-serial.false, c.serial-found.ensures))

pub returns : goal.returns
returns g c = none_between g.T.Numbered.serial_of c.args.members.now c.args.serial c.requires.0 c.requires.1 c.loop-low.low c.loop-low.high c.loop-low.invariant (omega (arith, c.loop-low-test.false))
