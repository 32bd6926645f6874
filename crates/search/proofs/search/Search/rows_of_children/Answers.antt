use Rattle.std.proofs.Common.{arith, ◌-◌, ◌<◌, subst, sym}
use Rattle.search.specs.Picks.{HasBitsFor}
use Rattle.search.proofs.Picking.{last_bits, last_low, last_shifted, last_within}
use Rattle.search.proofs.search.Search.rows_of_children.Goals as goal

pub get-child-requires : goal.get-child-requires
get-child-requires g c = last_within c.args.branches.now c.children.wanted (omega (arith, c.children-test.true)) c.children.invariant c.requires.few

pub overflow_sub-wanted : goal.overflow_sub-wanted
overflow_sub-wanted g c =
    let branches = c.args.branches.now in
    let some : 0 < c.children.wanted = omega (arith, c.children-test.true) in
    omega (arith, last_shifted branches c.children.wanted some c.children.invariant c.requires.few, last_low branches c.children.wanted some c.children.invariant c.requires.few)

pub children-preserved : goal.children-preserved
children-preserved g c =
    let branches = c.args.branches.now in
    let some : 0 < c.children.wanted = omega (arith, c.children-test.true) in
    subst (λ n. HasBitsFor branches (c.children.wanted - n)) (sym (last_shifted branches c.children.wanted some c.children.invariant c.requires.few)) (last_bits branches c.children.wanted some c.children.invariant c.requires.few)
