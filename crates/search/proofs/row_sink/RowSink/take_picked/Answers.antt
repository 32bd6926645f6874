use Rattle.std.proofs.Common.{arith, ◌+◌, ◌/◌, ◌^◌, ◌<◌, ◌∷◌, [], ◌∙◌, ap, drop, map, subst}
use lib.Count.{count_trailing_zeros}
use Rattle.search.specs.Live.{row_of}
use Rattle.search.specs.Picks.{picked}
use Rattle.search.specs.Sinks.{TakesSome}
use Rattle.search.proofs.Picking.{next_within, next_bits, next_told, none_picked}
use Rattle.search.proofs.Sinking.{all_taken, on_err, one_taken, some_taken}
use Rattle.search.proofs.row_sink.RowSink.take_picked.Goals as goal

pub get-requires : goal.get-requires
get-requires g c = next_within c.args.entries.now c.entries.place c.entries.left (omega (arith, c.entries-test.true)) c.entries.invariant.bits c.requires.few

pub returns-in_err-take-clause-some : goal.returns-in_err-take-clause-some
returns-in_err-take-clause-some g c =
    let entries = c.args.entries.now in
    let loop = c.entries in
    let passed = count_trailing_zeros 64 loop.left in
    let told = picked loop.left (drop loop.place entries) in
    let rest = picked (loop.left / 2 ^ passed / 2) (drop (loop.place + passed + 1) entries) in
    let some : 0 < loop.left = omega (arith, c.entries-test.true) in
    let entry = c.get.result in
    let is = next_told entries loop.place loop.left some loop.invariant.bits c.requires.few entry c.get.ensures in
    let takes = g.Self.RowSink.takes in
    on_err _ (some_taken takes g.met.Self.RowSink.takes_more (map row_of (picked c.args.bits entries)) told rest entry c.args.self.now loop.self c.take.new.self is loop.invariant.taken
    (subst (λ r. TakesSome takes (r ∷ []) loop.self c.take.new.self) c.row_of.ensures c.in_err-take.ensures.some))

pub entries-preserved : goal.entries-preserved
entries-preserved g c =
    let entries = c.args.entries.now in
    let loop = c.entries in
    let passed = count_trailing_zeros 64 loop.left in
    let told = picked loop.left (drop loop.place entries) in
    let rest = picked (loop.left / 2 ^ passed / 2) (drop (loop.place + passed + 1) entries) in
    let some : 0 < loop.left = omega (arith, c.entries-test.true) in
    let entry = c.get.result in
    let within = next_within entries loop.place loop.left some loop.invariant.bits c.requires.few in
    let is = next_told entries loop.place loop.left some loop.invariant.bits c.requires.few entry c.get.ensures in
    let takes = g.Self.RowSink.takes in record {
      within = omega (arith, within);
      bits = next_bits entries loop.place loop.left some loop.invariant.bits c.requires.few;
      taken = one_taken takes g.met.Self.RowSink.takes_more (map row_of (picked c.args.bits entries)) told rest entry c.args.self.now loop.self c.take.new.self is loop.invariant.taken
          (subst (λ r. takes loop.self (r ∷ []) c.take.new.self) c.row_of.ensures c.in_ok-take.ensures.all);
    }

pub returns-clause-all : goal.returns-clause-all
returns-clause-all g c =
    let entries = c.args.entries.now in
    let loop = c.entries in
    all_taken g.Self.RowSink.takes (map row_of (picked c.args.bits entries)) (map row_of (picked loop.left (drop loop.place entries))) c.args.self.now loop.self
    (ap (λ n. map row_of (picked n (drop loop.place entries))) c.entries-test.false ∙ ap (map row_of) (none_picked (drop loop.place entries))) loop.invariant.taken
