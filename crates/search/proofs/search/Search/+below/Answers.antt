use Rattle.std.proofs.Common.{arith, ◌≡◌, ◌-◌, ◌^◌, ◌<◌, ◌≤◌, length, get_or, [], ◌∙◌, ap, append-nil, filter, map, sym, subst}
use lib.Count.{count_leading_zeros}
use Rattle.std.specs.Prelude.{OnErr, OnOk, Ok, Err, Result}
use Rattle.node.specs.Pages.{followed}
use Rattle.page_table.specs.Trees.{page_at, pages_under}
use Rattle.search.specs.Live.{live_rows, row_of}
use Rattle.search.specs.Picks.{HasBitsFor, picked}
use Rattle.search.specs.Searches.{rows_below}
use Rattle.search.specs.Sinks.{TakesAll, TakesSome}
use Rattle.search.proofs.Below.{GivesBut, before_some, child_exists, child_fewer, child_some, gives_all, gives_child, gives_own, gives_right, own_some, right_exists, right_fewer, right_some}
use Rattle.search.proofs.Picking.{last_bits, last_low, last_shifted, last_told, last_within}
use Rattle.search.proofs.Sinking.{on_err}
use Rattle.search.proofs.search.Search.+below.Goals as goal

ok_goes_on : {E P Q : Type 0} (r : Result (Unit {0}) E) → (P → Q) → OnOk r P → OnOk r Q
ok_goes_on (Ok x) f p = f p
ok_goes_on (Err e) f p = p

err_goes_on : {E P Q : Type 0} (r : Result (Unit {0}) E) → (P → Q) → OnErr r P → OnErr r Q
err_goes_on (Ok x) f p = p
err_goes_on (Err e) f p = f p

pub returns-in_err-take_picked-clause-some : goal.returns-in_err-take_picked-clause-some
returns-in_err-take_picked-clause-some g m c =
    let takes = g.S.RowSink.takes in
    let accepts = g.T.KeyTest.accepts c.args.self.now.test.now in
    let wants = g.T.BranchTest.wants c.args.self.now.test.now in
    let t = c.args.self.now.table.now in
    let page = page_at t c.args.number in
    let sound = c.requires.searchable.sound in
    let rows_are = c.rows-rows.ensures ∙ ap (λ p. p.rows) c.page-page.ensures in
    let found = c.found_bits.result in
    let own : map row_of (picked found c.rows-rows.result.now) ≡ live_rows accepts page.rows = ap (map row_of) c.found_bits.ensures.found ∙ ap (live_rows accepts) rows_are in
    on_err _ (own_some takes accepts wants t g.met.S.RowSink.takes_more g.C.KeyClass.rules.is_cover g.met.C.KeyClass.lawful.bounds.through (g.met.T.PageTest.prunes c.args.self.now.test.now) c.requires.searchable.fan sound c.args.number c.requires.exists c.args.sink.now c.take_picked.new.self
    (subst (λ l. TakesSome takes l c.args.sink.now c.take_picked.new.self) own c.in_err-take_picked.ensures.some))

pub returns-in_err-expect-clause-some : goal.returns-in_err-expect-clause-some
returns-in_err-expect-clause-some g m c =
    let takes = g.S.RowSink.takes in
    let accepts = g.T.KeyTest.accepts c.args.self.now.test.now in
    let wants = g.T.BranchTest.wants c.args.self.now.test.now in
    let t = c.args.self.now.table.now in
    let page = page_at t c.args.number in
    let sound = c.requires.searchable.sound in
    let rows_are = c.rows-rows.ensures ∙ ap (λ p. p.rows) c.page-page.ensures in
    let branches_are = c.branches-branches.ensures ∙ ap (λ p. p.branches) c.page-page.ensures in
    let found = c.found_bits.result in
    let bits = c.wanted_bits-wanted.result in
    let own : map row_of (picked found c.rows-rows.result.now) ≡ live_rows accepts page.rows = ap (map row_of) c.found_bits.ensures.found ∙ ap (live_rows accepts) rows_are in
    let taken : takes c.args.sink.now (live_rows accepts page.rows) c.expect.new.self =
    subst (λ l. takes c.args.sink.now l c.expect.new.self) (append-nil (live_rows accepts page.rows))
    (g.met.S.RowSink.takes_more c.args.sink.now c.take_picked.new.self c.expect.new.self (live_rows accepts page.rows) [] (subst (λ l. takes c.args.sink.now l c.take_picked.new.self) own c.in_ok-take_picked.ensures.all) c.in_err-expect.ensures.none) in
    on_err _ (before_some takes accepts wants t g.met.S.RowSink.takes_more g.C.KeyClass.rules.is_cover g.met.C.KeyClass.lawful.bounds.through (g.met.T.PageTest.prunes c.args.self.now.test.now) c.requires.searchable.fan sound c.args.number c.requires.exists bits c.args.sink.now c.expect.new.self
    (gives_own takes accepts wants t page bits c.args.sink.now c.expect.new.self taken (subst (λ bs. picked bits bs ≡ filter (λ b. wants b.key) bs) branches_are c.wanted_bits-wanted.ensures.wanted)))

pub children-init : goal.children-init
children-init g m c =
    let takes = g.S.RowSink.takes in
    let accepts = g.T.KeyTest.accepts c.args.self.now.test.now in
    let wants = g.T.BranchTest.wants c.args.self.now.test.now in
    let t = c.args.self.now.table.now in
    let page = page_at t c.args.number in
    let rows_are = c.rows-rows.ensures ∙ ap (λ p. p.rows) c.page-page.ensures in
    let branches_are = c.branches-branches.ensures ∙ ap (λ p. p.branches) c.page-page.ensures in
    let found = c.found_bits.result in
    let bits = c.wanted_bits-wanted.result in
    let own : map row_of (picked found c.rows-rows.result.now) ≡ live_rows accepts page.rows = ap (map row_of) c.found_bits.ensures.found ∙ ap (live_rows accepts) rows_are in
    let taken : takes c.args.sink.now (live_rows accepts page.rows) c.expect.new.self =
    subst (λ l. takes c.args.sink.now l c.expect.new.self) (append-nil (live_rows accepts page.rows))
    (g.met.S.RowSink.takes_more c.args.sink.now c.take_picked.new.self c.expect.new.self (live_rows accepts page.rows) [] (subst (λ l. takes c.args.sink.now l c.take_picked.new.self) own c.in_ok-take_picked.ensures.all) c.in_ok-expect.ensures.none) in record {
      bits = subst (λ bs. HasBitsFor bs bits) branches_are c.wanted_bits-wanted.ensures.within;
      but = gives_own takes accepts wants t page bits c.args.sink.now c.expect.new.self taken (subst (λ bs. picked bits bs ≡ filter (λ b. wants b.key) bs) branches_are c.wanted_bits-wanted.ensures.wanted);
    }

pub get-requires : goal.get-requires
get-requires g m c =
    let t = c.args.self.now.table.now in
    let p = c.args.number in
    let l = c.requires.exists in
    let page = page_at t p in
    let wanted = c.children.wanted in
    let sound = c.requires.searchable.sound in
    let few : length page.branches ≤ 64 = omega (arith, (sound.shape p l).fits, c.requires.searchable.few) in
    let some : 0 < wanted = omega (arith, c.children-test.true) in
    let bits : HasBitsFor page.branches wanted = c.children.invariant.bits in
    let branches_are = c.branches-branches.ensures ∙ ap (λ p. p.branches) c.page-page.ensures in
    subst (λ bs. 63 - count_leading_zeros 64 wanted < length bs) (sym branches_are) (last_within page.branches wanted some bits few)

pub below-requires : goal.below-requires
below-requires g m c κs within =
    let t = c.args.self.now.table.now in
    let p = c.args.number in
    let l = c.requires.exists in
    let page = page_at t p in
    let wanted = c.children.wanted in
    let is_cover = g.C.KeyClass.rules.is_cover in
    let sound = c.requires.searchable.sound in
    let fan = c.requires.searchable.fan in
    let few : length page.branches ≤ 64 = omega (arith, (sound.shape p l).fits, c.requires.searchable.few) in
    let some : 0 < wanted = omega (arith, c.children-test.true) in
    let bits : HasBitsFor page.branches wanted = c.children.invariant.bits in
    let branches_are = c.branches-branches.ensures ∙ ap (λ p. p.branches) c.page-page.ensures in
    let last = 63 - count_leading_zeros 64 wanted in
    let b = c.get.result in
    let is : b ≡ get_or page.branches last b = subst (λ bs. b ≡ get_or bs last b) branches_are c.get.ensures in
    let w = last_within page.branches wanted some bits few in
    let exists = child_exists is_cover t fan sound p l last b w is in
    let fewer : length (pages_under t b.child t.counter) < length (pages_under t p t.counter) = child_fewer is_cover t fan sound p l last b w is in
    (omega (arith, fewer), (within.0, (within.1.0, (within.1.1.0, (within.1.1.1.0, (within.1.1.1.1.0, (within.1.1.1.1.1, (exists, c.requires.searchable))))))))

pub returns-in_err-below-clause-some : goal.returns-in_err-below-clause-some
returns-in_err-below-clause-some g m c =
    let t = c.args.self.now.table.now in
    let p = c.args.number in
    let l = c.requires.exists in
    let page = page_at t p in
    let wanted = c.children.wanted in
    let sound = c.requires.searchable.sound in
    let few : length page.branches ≤ 64 = omega (arith, (sound.shape p l).fits, c.requires.searchable.few) in
    let some : 0 < wanted = omega (arith, c.children-test.true) in
    let bits : HasBitsFor page.branches wanted = c.children.invariant.bits in
    let branches_are = c.branches-branches.ensures ∙ ap (λ p. p.branches) c.page-page.ensures in
    let last = 63 - count_leading_zeros 64 wanted in
    let b = c.get.result in
    let is : b ≡ get_or page.branches last b = subst (λ bs. b ≡ get_or bs last b) branches_are c.get.ensures in
    let takes = g.S.RowSink.takes in
    let accepts = g.T.KeyTest.accepts c.args.self.now.test.now in
    let wants = g.T.BranchTest.wants c.args.self.now.test.now in
    on_err _ (child_some takes accepts wants t g.met.S.RowSink.takes_more g.C.KeyClass.rules.is_cover g.met.C.KeyClass.lawful.bounds.through (g.met.T.PageTest.prunes c.args.self.now.test.now) c.requires.searchable.fan sound p l wanted (wanted - 2 ^ last) b c.args.sink.now c.children.sink c.below.new.sink
    (last_told page.branches wanted some bits few b is) c.children.invariant.but c.in_err-below.ensures.some)

pub overflow_sub-wanted : goal.overflow_sub-wanted
overflow_sub-wanted g m c =
    let t = c.args.self.now.table.now in
    let p = c.args.number in
    let l = c.requires.exists in
    let page = page_at t p in
    let wanted = c.children.wanted in
    let sound = c.requires.searchable.sound in
    let few : length page.branches ≤ 64 = omega (arith, (sound.shape p l).fits, c.requires.searchable.few) in
    let some : 0 < wanted = omega (arith, c.children-test.true) in
    let bits : HasBitsFor page.branches wanted = c.children.invariant.bits in
    omega (arith, last_shifted page.branches wanted some bits few, last_low page.branches wanted some bits few)

pub children-preserved : goal.children-preserved
children-preserved g m c =
    let t = c.args.self.now.table.now in
    let p = c.args.number in
    let l = c.requires.exists in
    let page = page_at t p in
    let wanted = c.children.wanted in
    let sound = c.requires.searchable.sound in
    let few : length page.branches ≤ 64 = omega (arith, (sound.shape p l).fits, c.requires.searchable.few) in
    let some : 0 < wanted = omega (arith, c.children-test.true) in
    let bits : HasBitsFor page.branches wanted = c.children.invariant.bits in
    let branches_are = c.branches-branches.ensures ∙ ap (λ p. p.branches) c.page-page.ensures in
    let last = 63 - count_leading_zeros 64 wanted in
    let b = c.get.result in
    let is : b ≡ get_or page.branches last b = subst (λ bs. b ≡ get_or bs last b) branches_are c.get.ensures in
    let takes = g.S.RowSink.takes in
    let accepts = g.T.KeyTest.accepts c.args.self.now.test.now in
    let wants = g.T.BranchTest.wants c.args.self.now.test.now in
    let shifted = last_shifted page.branches wanted some bits few in
    let told = last_told page.branches wanted some bits few b is in record {
      bits = subst (λ n. HasBitsFor page.branches (wanted - n)) (sym shifted) (last_bits page.branches wanted some bits few);
      but = subst (λ n. GivesBut takes accepts wants t page (wanted - n) c.args.sink.now c.below.new.sink) (sym shifted)
          (gives_child takes accepts wants t g.met.S.RowSink.takes_more page wanted (wanted - 2 ^ last) b c.args.sink.now c.children.sink c.below.new.sink told c.children.invariant.but c.in_ok-below.ensures.all);
    }

pub below-requires-in-Some : goal.below-requires-in-Some
below-requires-in-Some g m c κs within =
    let t = c.args.self.now.table.now in
    let p = c.args.number in
    let l = c.requires.exists in
    let page = page_at t p in
    let is_cover = g.C.KeyClass.rules.is_cover in
    let sound = c.requires.searchable.sound in
    let fan = c.requires.searchable.fan in
    let is = c.in-Some.ensures ∙ ap (λ q. followed q c.counter.result) c.page-page.ensures ∙ ap (λ n. followed page n) c.counter.ensures in
    let exists = right_exists is_cover t fan sound p l c.in-Some.right is in
    let fewer : length (pages_under t c.in-Some.right t.counter) < length (pages_under t p t.counter) = right_fewer is_cover t fan sound p l c.in-Some.right is in
    (omega (arith, fewer), (within.0, (within.1.0, (within.1.1.0, (within.1.1.1.0, (within.1.1.1.1.0, (within.1.1.1.1.1, (exists, c.requires.searchable))))))))

pub returns-in-Some-clause-all : goal.returns-in-Some-clause-all
returns-in-Some-clause-all g m c =
    let t = c.args.self.now.table.now in
    let p = c.args.number in
    let page = page_at t p in
    let takes = g.S.RowSink.takes in
    let accepts = g.T.KeyTest.accepts c.args.self.now.test.now in
    let wants = g.T.BranchTest.wants c.args.self.now.test.now in
    let but : GivesBut takes accepts wants t page 0 c.args.sink.now c.children.sink = subst (λ n. GivesBut takes accepts wants t page n c.args.sink.now c.children.sink) c.children-test.false c.children.invariant.but in
    let is = c.in-Some.ensures ∙ ap (λ q. followed q c.counter.result) c.page-page.ensures ∙ ap (λ n. followed page n) c.counter.ensures in
    ok_goes_on _ (λ (more : TakesAll takes (rows_below accepts t c.in-Some.right) c.children.sink c.below-in-Some.new.sink). gives_right takes accepts wants t g.met.S.RowSink.takes_more g.C.KeyClass.rules.is_cover g.met.C.KeyClass.lawful.bounds.through (g.met.T.PageTest.prunes c.args.self.now.test.now)
    c.requires.searchable.fan c.requires.searchable.sound p c.requires.exists c.in-Some.right c.args.sink.now c.children.sink c.below-in-Some.new.sink is but more) c.below-in-Some.ensures.all

pub returns-in-Some-clause-some : goal.returns-in-Some-clause-some
returns-in-Some-clause-some g m c =
    let t = c.args.self.now.table.now in
    let p = c.args.number in
    let page = page_at t p in
    let takes = g.S.RowSink.takes in
    let accepts = g.T.KeyTest.accepts c.args.self.now.test.now in
    let wants = g.T.BranchTest.wants c.args.self.now.test.now in
    let but : GivesBut takes accepts wants t page 0 c.args.sink.now c.children.sink = subst (λ n. GivesBut takes accepts wants t page n c.args.sink.now c.children.sink) c.children-test.false c.children.invariant.but in
    let is = c.in-Some.ensures ∙ ap (λ q. followed q c.counter.result) c.page-page.ensures ∙ ap (λ n. followed page n) c.counter.ensures in
    err_goes_on _ (λ (more : TakesSome takes (rows_below accepts t c.in-Some.right) c.children.sink c.below-in-Some.new.sink). right_some takes accepts wants t g.met.S.RowSink.takes_more g.C.KeyClass.rules.is_cover g.met.C.KeyClass.lawful.bounds.through (g.met.T.PageTest.prunes c.args.self.now.test.now)
    c.requires.searchable.fan c.requires.searchable.sound p c.requires.exists c.in-Some.right c.args.sink.now c.children.sink c.below-in-Some.new.sink is but more) c.below-in-Some.ensures.some

pub returns-in-None-clause-all : goal.returns-in-None-clause-all
returns-in-None-clause-all g m c =
    let t = c.args.self.now.table.now in
    let p = c.args.number in
    let page = page_at t p in
    let takes = g.S.RowSink.takes in
    let accepts = g.T.KeyTest.accepts c.args.self.now.test.now in
    let wants = g.T.BranchTest.wants c.args.self.now.test.now in
    let but : GivesBut takes accepts wants t page 0 c.args.sink.now c.children.sink = subst (λ n. GivesBut takes accepts wants t page n c.args.sink.now c.children.sink) c.children-test.false c.children.invariant.but in
    let none = c.in-None.ensures ∙ ap (λ q. followed q c.counter.result) c.page-page.ensures ∙ ap (λ n. followed page n) c.counter.ensures in
    gives_all takes accepts wants t g.met.S.RowSink.takes_more g.C.KeyClass.rules.is_cover g.met.C.KeyClass.lawful.bounds.through (g.met.T.PageTest.prunes c.args.self.now.test.now) c.requires.searchable.fan c.requires.searchable.sound p c.requires.exists c.args.sink.now c.children.sink none but
