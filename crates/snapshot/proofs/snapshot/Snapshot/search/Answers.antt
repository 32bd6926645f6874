use Rattle.std.proofs.Common.{◌<◌, ◌^◌, length, subst}
use Rattle.std.specs.Prelude.{OnErr, OnOk}
use Rattle.key_class.specs.Rules.{satisfies}
use Rattle.search.specs.Sinks.{TakesAll, TakesSome}
use Rattle.snapshot.proofs.Counting.{countable}
use Rattle.snapshot.proofs.Taken.{all_live, ok_weaker, err_weaker, some_live}
use Rattle.snapshot.specs.Finds.{live_after}
use Rattle.snapshot.proofs.snapshot.Snapshot.search.Goals as goal

pub returns-clause-all : goal.returns-clause-all
returns-clause-all g c =
    let takes = g.S.RowSink.takes in
    let wanted = satisfies g.C.KeyClass.rules c.args.query.now in
    let i = c.self.invariant in
    subst (λ l. OnOk c.find_all.result (TakesAll takes (live_after wanted l) c.args.sink.now c.find_all.new.sink)) c.self.view_is
    (ok_weaker c.find_all.result (all_live g.C.KeyClass.rules.is_cover c.self.inside.pages (record { fan = i.fan; few = i.few_entries; sound = i.sound }) wanted c.self.inside.list i.agrees takes c.args.sink.now c.find_all.new.sink) c.find_all.ensures.all)

pub returns-clause-some : goal.returns-clause-some
returns-clause-some g c =
    let takes = g.S.RowSink.takes in
    let wanted = satisfies g.C.KeyClass.rules c.args.query.now in
    let i = c.self.invariant in
    subst (λ l. OnErr c.find_all.result (TakesSome takes (live_after wanted l) c.args.sink.now c.find_all.new.sink)) c.self.view_is
    (err_weaker c.find_all.result (some_live g.C.KeyClass.rules.is_cover c.self.inside.pages (record { fan = i.fan; few = i.few_entries; sound = i.sound }) wanted c.self.inside.list i.agrees takes c.args.sink.now c.find_all.new.sink) c.find_all.ensures.some)

pub returns-clause-few : goal.returns-clause-few
returns-clause-few g c =
    let wanted = satisfies g.C.KeyClass.rules c.args.query.now in
    subst (λ l. length (live_after wanted l) < 2 ^ 64) c.self.view_is (countable wanted c.self.inside.list c.self.invariant.few)
