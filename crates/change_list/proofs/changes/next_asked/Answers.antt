use Rattle.std.proofs.Common.{◌≡◌, arith}
use Rattle.key_class.specs.Queries.{query_of}
use Rattle.key_class.specs.Rules.{satisfies}
use Rattle.change_list.proofs.Unasked.{none_asked}
use Rattle.change_list.proofs.changes.next_asked.Goals as goal

pub overflow_add-result : goal.overflow_add-result
overflow_add-result g c =
    let passed = none_asked (satisfies g.C.KeyClass.rules (query_of c.args.query.now)) c.args.commits.now c.args.place c.run-run.result.now c.count_unasked.result c.requires.exists c.run-run.ensures c.count_unasked.ensures in
    omega (arith, passed.within, c.requires.countable)

pub returns : goal.returns
returns g c = none_asked (satisfies g.C.KeyClass.rules (query_of c.args.query.now)) c.args.commits.now c.args.place c.run-run.result.now c.count_unasked.result c.requires.exists c.run-run.ensures c.count_unasked.ensures
