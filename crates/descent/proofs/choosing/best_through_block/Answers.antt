use Rattle.std.proofs.Common.{◌≡◌, ◌+◌, ◌-◌, ◌*◌, ◌/◌, ◌%◌, ◌<◌, ◌≤◌, ℕ, get_or, length, min, ap, subst, arith, ◌∙◌, sym}
use Rattle.std.proofs.lemmas.Bool.{true≢false}
use Rattle.std.proofs.lemmas.List.{get_or_default}
use Rattle.descent.specs.Choosing.{IsBestCandidate}
use Rattle.descent.proofs.Best.{candidate_kept, candidate_passed, candidate_replaced}
use Rattle.descent.proofs.Gains.{gain_at}
use Rattle.descent.proofs.choosing.best_through_block.Goals as goal
use Rattle.descent.proofs.choosing.best_through_block.Goals.{then-gain-best+then-is_better, then-gain-best+else-is_better, else-gain-best}

-- the places from one on to the end of its block, or of the list
module _ (from place all count : ℕ) (l : from ≤ all) (e : count ≡ min (all - from) (8 - from % 8)) where
  within : place < from + count → place < all
  within h = omega (arith, l, e, h)

  in_block : from ≤ place → place < from + count → place / 8 ≡ from / 8
  in_block b h = omega (arith, l, e, b, h)

  the_end : place ≤ from + count → from + count ≤ place → place ≡ min all (8 * (from / 8 + 1))
  the_end b h = omega (arith, l, e, b, h)

pub is_better-requires-clause-one : goal.is_better-requires-clause-one
is_better-requires-clause-one g c =
    let rules = g.C.KeyClass.rules in
    let place = c.loop-place.place in
    let l = c.requires.within in
    let e = c.min.ensures ∙ ap (λ n. min (n - c.args.from) (8 - c.args.from % 8)) c.len.ensures in
    let inside = in_block c.args.from place (length c.args.branches.now) c.min.result l e c.loop-place.auto.place c.loop-place-test.true in
    gain_at rules.union_of rules.size_of c.args.key c.args.branches.now place c.args.gains.now (λ q b h. c.requires.gains q b (h ∙ inside))
    (within c.args.from place (length c.args.branches.now) c.min.result l e c.loop-place-test.true) c.get.result c.get.ensures

pub loop-place-preserved : goal.loop-place-preserved
loop-place-preserved g c =
    let rules = g.C.KeyClass.rules in
    let branches = c.args.branches.now in
    let place = c.loop-place.place in
    let old = c.loop-place.best in
    let best = c.loop-place.invariant.best in
    let l = c.requires.within in
    let e = c.min.ensures ∙ ap (λ n. min (n - c.args.from) (8 - c.args.from % 8)) c.len.ensures in
    let is_within = within c.args.from place (length branches) c.min.result l e c.loop-place-test.true in
    let inside = in_block c.args.from place (length branches) c.min.result l e c.loop-place.auto.place c.loop-place-test.true in
    let gain_of = gain_at rules.union_of rules.size_of c.args.key branches place c.args.gains.now (λ q b h. c.requires.gains q b (h ∙ inside)) is_within in
    record {
      best = elim c.if-gain-best.branch [
        | then-gain-best+then-is_better w ↦ rw (w.best-is) (candidate_replaced rules.union_of rules.size_of c.args.key branches place old best is_within w.get.result w.get.ensures (w.is_better.ensures.0 w.if-is_better.true) _ (gain_of w.get.result w.get.ensures))
        | then-gain-best+else-is_better w ↦ rw (w.best-is) (candidate_kept rules.union_of rules.size_of c.args.key branches place old best is_within w.get.result w.get.ensures (λ better. true≢false (sym (w.is_better.ensures.1 better) ∙ w.if-is_better.false)))
        | else-gain-best w ↦ rw (w.best-is)
            (let d = get_or branches place best.best.branch in
            let is : d ≡ get_or branches place d = get_or_default branches place best.best.branch d is_within in
            candidate_passed rules.union_of rules.size_of c.args.key branches place old best is_within d is _ (gain_of d is) w.if-gain-best.false)
      ];
    }

pub returns : goal.returns
returns g c =
    let more : c.args.from ≤ c.args.from + c.min.result = omega arith in
    let e = c.min.ensures ∙ ap (λ n. min (n - c.args.from) (8 - c.args.from % 8)) c.len.ensures in
    let ends = the_end c.args.from c.loop-place.place (length c.args.branches.now) c.min.result c.requires.within e (c.loop-place.auto.place-end more) c.loop-place-test.false in
    subst (λ n. IsBestCandidate g.C.KeyClass.rules.union_of g.C.KeyClass.rules.size_of c.args.key c.args.branches.now n c.loop-place.best) ends c.loop-place.invariant.best
