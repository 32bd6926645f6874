use Rattle.std.proofs.Common.{◌≡◌, ◌∙◌, subst, take}
use Rattle.std.proofs.lemmas.List.{take_all}
use Rattle.feed.specs.Changing.{IsChangeOf}
use Rattle.feed.specs.Numberings.{commit_of}
use Rattle.feed.proofs.Giving.{TellsThose, those_all, those_more, those_none}
use Rattle.feed.proofs.topics.Topics.tell_commit.Goals as goal

pub loop-number-init : goal.loop-number-init
loop-number-init g c = those_none g.C.KeyClass.rules c.args.numbering c.args.snapshot.now c.args.self.now c.args.revision c.args.told.now.items

pub loop-number-preserved : goal.loop-number-preserved
loop-number-preserved g c =
    those_more g.C.KeyClass.rules c.args.numbering c.args.snapshot.now c.args.self.now c.args.revision c.deref-number-items.result.now c.at-change.result (subst (λ n. IsChangeOf c.args.snapshot.now n c.at-change.result) c.place_after.ensures.is c.at-change.ensures) c.loop-number.number-index c.loop-number-test.true c.args.told.now.items c.loop-number.told.items
    c.tell_topic.new.told.items c.loop-number.invariant c.in_ok-tell_topic.ensures.ok

pub returns-clause-ok : goal.returns-clause-ok
returns-clause-ok g c =
    let rules = g.C.KeyClass.rules in
    let commits = c.args.snapshot.now in
    let topics = c.args.self.now in
    let numbers = c.in_ok-numbers.numbers.items in
    let of = subst (λ n. IsChangeOf commits n c.at-change.result) c.place_after.ensures.is c.at-change.ensures in
    let all : take c.loop-number.number-index c.deref-number-items.result.now ≡ numbers = take_all c.loop-number.number-index c.deref-number-items.result.now c.loop-number-test.false ∙ c.deref-number-items.ensures.value in
    those_all rules c.args.numbering commits topics c.args.revision numbers c.args.told.now.items c.loop-number.told.items (c.in_ok-numbers.ensures.all commits (commit_of c.args.numbering c.args.revision) of) c.in_ok-numbers.ensures.rising
    (subst (λ l. TellsThose rules c.args.numbering commits topics c.args.revision l c.args.told.now.items c.loop-number.told.items) all c.loop-number.invariant)
