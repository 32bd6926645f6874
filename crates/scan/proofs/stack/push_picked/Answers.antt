use Rattle.std.proofs.Common.{◌-◌, ◌^◌, ◌<◌, ◌++◌, ◌∷◌, ◌∙◌, [], arith, ap, append_assoc, length, length-append, map, reverse, subst, sym}
use Rattle.std.proofs.lemmas.List.{append-nil, reverse-append}
use lib.Count.{count_leading_zeros}
use Rattle.scan.specs.Scanning.{item_of_child}
use Rattle.search.specs.Picks.{HasBitsFor, picked}
use Rattle.search.proofs.Picking.{last_bits, last_low, last_shifted, last_told, last_within, none_picked}
use Rattle.scan.proofs.stack.push_picked.Goals as goal

pub get-page-requires : goal.get-page-requires
get-page-requires g c = last_within c.args.branches.now c.loop-bits.bits (omega (arith, c.loop-bits-test.true)) c.loop-bits.invariant.bits c.requires.few

pub push_reserved-requires : goal.push_reserved-requires
push_reserved-requires g c =
    let branches = c.args.branches.now in
    let loop = c.loop-bits in
    let b = c.get-page.result in
    let told = last_told branches loop.bits (omega (arith, c.loop-bits-test.true)) loop.invariant.bits c.requires.few b c.get-page.ensures in
    let j = 63 - count_leading_zeros 64 loop.bits in
    (omega arith, omega (arith, loop.invariant.room, ap length told, length-append (picked (loop.bits - 2 ^ j) branches) (b ∷ [])))

pub overflow_sub-bits : goal.overflow_sub-bits
overflow_sub-bits g c =
    let branches = c.args.branches.now in
    let loop = c.loop-bits in
    let some : 0 < loop.bits = omega (arith, c.loop-bits-test.true) in
    omega (arith, last_shifted branches loop.bits some loop.invariant.bits c.requires.few, last_low branches loop.bits some loop.invariant.bits c.requires.few)

pub loop-bits-preserved : goal.loop-bits-preserved
loop-bits-preserved g c =
    let branches = c.args.branches.now in
    let loop = c.loop-bits in
    let b = c.get-page.result in
    let memo = c.args.memo in
    let some : 0 < loop.bits = omega (arith, c.loop-bits-test.true) in
    let j = 63 - count_leading_zeros 64 loop.bits in
    let rest = picked (loop.bits - 2 ^ j) branches in
    let items = loop.items.items in
    let after = c.push_reserved.new.self.items in
    let shifted = last_shifted branches loop.bits some loop.invariant.bits c.requires.few in
    let told = last_told branches loop.bits some loop.invariant.bits c.requires.few b c.get-page.ensures in
    let turned = ap reverse told ∙ reverse-append rest (b ∷ []) in
    let grown = c.push_reserved.ensures.items in record {
      bits = subst (λ n. HasBitsFor branches (loop.bits - n)) (sym shifted) (last_bits branches loop.bits some loop.invariant.bits c.requires.few);
      room = omega (arith, loop.invariant.room, ap length told, length-append rest (b ∷ []), ap (λ n. length (picked (loop.bits - n) branches)) shifted, ap length grown, length-append items (item_of_child memo b ∷ []), c.push_reserved.ensures.capacity);
      pushed =
          ap (λ n. after ++ map (item_of_child memo) (reverse (picked (loop.bits - n) branches))) shifted
          ∙ ap (λ xs. xs ++ map (item_of_child memo) (reverse rest)) grown
          ∙ append_assoc items (item_of_child memo b ∷ []) (map (item_of_child memo) (reverse rest))
          ∙ ap (λ l. items ++ map (item_of_child memo) l) (sym turned)
          ∙ loop.invariant.pushed;
    }

pub returns : goal.returns
returns g c =
    let branches = c.args.branches.now in
    let loop = c.loop-bits in
    sym (append-nil loop.items.items)
    ∙ ap (λ l. loop.items.items ++ map (item_of_child c.args.memo) (reverse l)) (sym (none_picked branches))
    ∙ ap (λ n. loop.items.items ++ map (item_of_child c.args.memo) (reverse (picked n branches))) (sym c.loop-bits-test.false)
    ∙ loop.invariant.pushed
