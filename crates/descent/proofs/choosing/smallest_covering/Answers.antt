use Rattle.std.proofs.Common.{◌≡◌, ◌∙◌, ◌+◌, ◌/◌, ◌^◌, ap, arith, subst, sym, w64}
use Rattle.std.specs.Int.{trailing_zeros}
use Rattle.key_class.specs.Bits.{bits_of}
use Rattle.blocks.specs.Firsts.{IsFirstFrom}
use Rattle.descent.proofs.Best.{IsSmallestOf, best_of_smallest, smallest_first, smallest_kept, smallest_replaced}
use Rattle.descent.proofs.Covering.{all_left, behind, found, none_left}
use Rattle.descent.proofs.choosing.smallest_covering.Goals.{then-size-least, else-size-least}
use Rattle.descent.proofs.choosing.smallest_covering.Goals as goal

pub get-requires : goal.get-requires
get-requires g c =
    let bits = c.args.covering in
    let first = found (λ branch. g.C.KeyClass.rules.is_cover branch.key c.args.key) c.args.branches.now c.requires.few 0 bits (all_left (λ branch. g.C.KeyClass.rules.is_cover branch.key c.args.key) c.args.branches.now bits c.requires.bits) c.requires.some in
    omega (arith, first.within)

pub loop-rest-init : goal.loop-rest-init
loop-rest-init g c =
    let size = g.C.KeyClass.rules.size_of in
    let bits = c.args.covering in
    let branches = c.args.branches.now in
    let left = all_left (λ branch. g.C.KeyClass.rules.is_cover branch.key c.args.key) branches bits c.requires.bits in
    let place = trailing_zeros w64 bits in
    let same : 0 + place ≡ place = omega arith in
    let first = subst (λ n. IsFirstFrom (λ branch. g.C.KeyClass.rules.is_cover branch.key c.args.key) branches 0 n) same (found (λ branch. g.C.KeyClass.rules.is_cover branch.key c.args.key) branches c.requires.few 0 bits left c.requires.some) in record {
      smallest =
          smallest_first g.C.KeyClass.rules.union_of size c.args.key branches g.C.KeyClass.rules.is_cover (λ bound. g.met.C.KeyClass.lawful.covered_adds_nothing bound c.args.key)
          place c.get.result c.size-least.result first (c.size-least.ensures ∙ ap (λ b. size b.key) c.get.ensures);
      left = behind (λ branch. g.C.KeyClass.rules.is_cover branch.key c.args.key) branches c.requires.few 0 bits left place ∙ ap (λ n. bits_of (λ branch. g.C.KeyClass.rules.is_cover branch.key c.args.key) branches / 2 ^ (n + 1)) same;
    }

pub get-requires-in-loop-rest : goal.get-requires-in-loop-rest
get-requires-in-loop-rest g c =
    let loop = c.loop-rest in
    (found (λ branch. g.C.KeyClass.rules.is_cover branch.key c.args.key) c.args.branches.now c.requires.few loop.from loop.rest loop.invariant.left (omega (arith, c.loop-rest-test.true))).within

pub overflow_add-place : goal.overflow_add-place
overflow_add-place g c =
    let loop = c.loop-rest in
    let first = found (λ branch. g.C.KeyClass.rules.is_cover branch.key c.args.key) c.args.branches.now c.requires.few loop.from loop.rest loop.invariant.left (omega (arith, c.loop-rest-test.true)) in
    record { fits = omega (arith, first.within, c.requires.few) }

pub overflow_add-from-in-loop-rest : goal.overflow_add-from-in-loop-rest
overflow_add-from-in-loop-rest g c =
    let loop = c.loop-rest in
    let first = found (λ branch. g.C.KeyClass.rules.is_cover branch.key c.args.key) c.args.branches.now c.requires.few loop.from loop.rest loop.invariant.left (omega (arith, c.loop-rest-test.true)) in
    record { fits = omega (arith, first.within, c.requires.few) }

pub loop-rest-smaller : goal.loop-rest-smaller
loop-rest-smaller g c =
    let loop = c.loop-rest in
    let first = found (λ branch. g.C.KeyClass.rules.is_cover branch.key c.args.key) c.args.branches.now c.requires.few loop.from loop.rest loop.invariant.left (omega (arith, c.loop-rest-test.true)) in
    omega (arith, first.within)

pub loop-rest-preserved : goal.loop-rest-preserved
loop-rest-preserved g c =
    let union = g.C.KeyClass.rules.union_of in
    let size = g.C.KeyClass.rules.size_of in
    let key = c.args.key in
    let branches = c.args.branches.now in
    let is_cover = g.C.KeyClass.rules.is_cover in
    let loop = c.loop-rest in
    let passed = trailing_zeros w64 loop.rest in
    let place = loop.from + passed in
    let smallest = loop.invariant.smallest in
    let first = found (λ branch. g.C.KeyClass.rules.is_cover branch.key c.args.key) branches c.requires.few loop.from loop.rest loop.invariant.left (omega (arith, c.loop-rest-test.true)) in
    let told = c.size-size.ensures ∙ ap (λ b. size b.key) c.get-in-loop-rest.ensures in record {
      smallest = elim c.if-size-least.branch [
        | then-size-least w ↦
            subst (λ at. IsSmallestOf union size key branches is_cover (λ bound. g.met.C.KeyClass.lawful.covered_adds_nothing bound c.args.key) (place + 1) at c.if-size-least.least) (sym w.best-is)
            (subst (λ least. IsSmallestOf union size key branches is_cover (λ bound. g.met.C.KeyClass.lawful.covered_adds_nothing bound c.args.key) (place + 1) place least) (sym (w.least-is ∙ told))
            (smallest_replaced union size key branches is_cover (λ bound. g.met.C.KeyClass.lawful.covered_adds_nothing bound c.args.key) loop.from loop.best loop.least place smallest first c.get-in-loop-rest.result (omega (arith, told, w.if-size-least.true))))
        | else-size-least w ↦
            subst (λ at. IsSmallestOf union size key branches is_cover (λ bound. g.met.C.KeyClass.lawful.covered_adds_nothing bound c.args.key) (place + 1) at c.if-size-least.least) (sym w.best-is)
            (subst (λ least. IsSmallestOf union size key branches is_cover (λ bound. g.met.C.KeyClass.lawful.covered_adds_nothing bound c.args.key) (place + 1) loop.best least) (sym w.least-is)
            (smallest_kept union size key branches is_cover (λ bound. g.met.C.KeyClass.lawful.covered_adds_nothing bound c.args.key) loop.from loop.best loop.least place smallest first c.get-in-loop-rest.result (λ l. omega (arith, told, w.if-size-least.false, l))))
      ];
      left = behind (λ branch. g.C.KeyClass.rules.is_cover branch.key c.args.key) branches c.requires.few loop.from loop.rest loop.invariant.left passed;
    }

pub returns : goal.returns
returns g c =
    let loop = c.loop-rest in
    best_of_smallest g.C.KeyClass.rules.union_of g.C.KeyClass.rules.size_of c.args.key c.args.branches.now g.C.KeyClass.rules.is_cover (λ bound. g.met.C.KeyClass.lawful.covered_adds_nothing bound c.args.key)
    loop.from loop.best loop.least loop.invariant.smallest (none_left (λ branch. g.C.KeyClass.rules.is_cover branch.key c.args.key) c.args.branches.now c.requires.few loop.from loop.rest loop.invariant.left (omega (arith, c.loop-rest-test.false)))
