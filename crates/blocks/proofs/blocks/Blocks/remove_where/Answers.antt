use Rattle.std.proofs.Common.{◌≡◌, ◌∙◌, ◌<◌, ◌+◌, ◌-◌, ◌*◌, ◌/◌, ◌%◌, ◌^◌, ap, arith, drop, get_or, not, subst, sym, take}
use Rattle.std.proofs.lemmas.List.{drop-drop, drop-take}
use lib.Count.{count_trailing_zeros}
use Rattle.key_class.specs.Bits.{bits_of}
use Rattle.blocks.proofs.Removing.{IsClosedUp, all_stay, bits_behind, next_told, next_within, none_left, one_kept, until_first}
use Rattle.blocks.proofs.blocks.Blocks.remove_where.Goals as goal

pub returns-in_default : goal.returns-in_default
returns-in_default g c = all_stay (g.S.BlockTest.passes c.args.test.now) c.args.self.now c.in_default.ensures

pub loop-number-init : goal.loop-number-init
loop-number-init g c =
    let first = c.in-Some.first in record {
      within = omega arith;
      closed = until_first (g.S.BlockTest.passes c.args.test.now) c.args.self.now first (8 * (first / 8) + first % 8) c.in-Some.ensures (omega arith);
    }

pub loop-left-init : goal.loop-left-init
loop-left-init g c =
    let p = g.S.BlockTest.passes c.args.test.now in
    let loop = c.loop-number in
    let closed = loop.invariant.closed in
    let old = c.args.self.now in
    let q = 8 * loop.number in
    let room : 8 ≡ loop.skipped + (8 - loop.skipped) = omega (arith, loop.invariant.within) in record {
      within = loop.invariant.within;
      closed = closed;
      bits = ap (λ n. n / 2 ^ loop.skipped) c.failing.ensures
          ∙ bits_behind (λ x. not (p x)) loop.skipped (take 8 (drop q loop.self))
          ∙ ap (λ n. bits_of (λ x. not (p x)) (drop loop.skipped (take n (drop q loop.self)))) room
          ∙ ap (bits_of (λ x. not (p x))) (drop-take loop.skipped (8 - loop.skipped) (drop q loop.self))
          ∙ ap (λ xs. bits_of (λ x. not (p x)) (take (8 - loop.skipped) xs)) (drop-drop loop.skipped q loop.self ∙ closed.rest);
    }

pub overflow_add-number : goal.overflow_add-number
overflow_add-number g c =
    let i = c.loop-left.invariant in
    let kept = c.loop-left.kept in
    let place = 8 * c.loop-number.number + c.loop-left.skipped in
    let room = 8 - c.loop-left.skipped in
    let within = next_within (λ x. not (g.S.BlockTest.passes c.args.test.now x)) c.args.self.now c.loop-left.self kept place i.closed room c.loop-left.left (omega arith) i.bits 0 (omega (arith, c.loop-left-test.true)) in
    record { fits = omega (arith, within, i.closed.len, c.len.ensures) }

pub get-requires : goal.get-requires
get-requires g c =
    let i = c.loop-left.invariant in
    let kept = c.loop-left.kept in
    let place = 8 * c.loop-number.number + c.loop-left.skipped in
    let room = 8 - c.loop-left.skipped in
    let within = next_within (λ x. not (g.S.BlockTest.passes c.args.test.now x)) c.args.self.now c.loop-left.self kept place i.closed room c.loop-left.left (omega arith) i.bits 0 (omega (arith, c.loop-left-test.true)) in
    omega (arith, within)

pub loop-left-preserved : goal.loop-left-preserved
loop-left-preserved g c =
    let i = c.loop-left.invariant in
    let old = c.args.self.now in
    let now = c.loop-left.self in
    let kept = c.loop-left.kept in
    let left = c.loop-left.left in
    let skipped = c.loop-left.skipped in
    let q = 8 * c.loop-number.number in
    let t = count_trailing_zeros 64 left in
    let room = 8 - skipped in
    let some : 0 < left = omega (arith, c.loop-left-test.true) in
    let next = q + (skipped + t + 1) in
    let e : next ≡ q + skipped + t + 1 = omega arith in
    let within = next_within (λ x. not (g.S.BlockTest.passes c.args.test.now x)) old now kept (q + skipped) i.closed room left (omega arith) i.bits next some in
    let same : q + (skipped + t) ≡ q + skipped + t = omega arith in record {
      within = omega (arith, within, i.within);
      closed = subst (λ xs. IsClosedUp (λ x. not (g.S.BlockTest.passes c.args.test.now x)) old xs (kept + 1) next) (sym c.set.ensures)
          (one_kept (λ x. not (g.S.BlockTest.passes c.args.test.now x)) old now kept (q + skipped) i.closed room left (omega arith) i.bits next some e c.get.result (c.get.ensures ∙ ap (λ n. get_or now n c.get.result) same));
      bits = next_told (λ x. not (g.S.BlockTest.passes c.args.test.now x)) old now kept (q + skipped) i.closed room left (omega arith) i.bits next some e
          ∙ ap (λ n. bits_of (λ x. not (g.S.BlockTest.passes c.args.test.now x)) (take n (drop next old))) (let less : 8 - skipped - (t + 1) ≡ 8 - (skipped + t + 1) = omega arith in less);
    }

pub loop-number-preserved : goal.loop-number-preserved
loop-number-preserved g c =
    let i = c.loop-left.invariant in
    let q = 8 * c.loop-number.number in
    let skipped = c.loop-left.skipped in record {
      within = omega arith;
      closed = none_left (λ x. not (g.S.BlockTest.passes c.args.test.now x)) c.args.self.now c.loop-left.self c.loop-left.kept (q + skipped) i.closed (8 - skipped) c.loop-left.left (omega arith) i.bits (8 * (c.loop-number.number + 1) + 0) (omega (arith, c.loop-left-test.false)) (omega (arith, i.within));
    }
