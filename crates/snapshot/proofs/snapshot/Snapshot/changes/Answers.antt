use Rattle.std.proofs.Common.{◌<◌, ◌+◌, ◌-◌, rules, length, min, sym, ap, ◌∙◌}
use Rattle.key_class.specs.Queries.{query_of}
use Rattle.key_class.specs.Rules.{satisfies}
use Rattle.snapshot.proofs.Passing.{all_none, next_none, next_told}
use Rattle.snapshot.proofs.snapshot.Snapshot.changes.Goals as goal
use Rattle.snapshot.proofs.snapshot.Snapshot.changes.Goals.{in-Some+in-Ok, in_default}

pub passing-preserved : goal.passing-preserved
passing-preserved g c =
    let wanted = satisfies g.C.KeyClass.rules (query_of c.args.query.now) in
    let old = c.args.into.now.items in
    let items = c.passing.into.items in
    let room : length items - length old < c.args.most = search rules in
    let next = c.next_asked-next.result in
    let passed = all_none wanted c.args.from c.args.most c.args.self.now old items c.passing.upto next c.passing.invariant (rw c.self.view_is at c.next_asked-next.ensures) in
    let item = rw c.self.view_is at c.change_item.ensures in
    let upto = c.min-upto.ensures ∙ ap (λ n. min n (next + 1)) (c.len-count.ensures.len ∙ ap length c.self.view_is) in
    elim c.match-change_item.branch [
      | in-Some+in-Ok w ↦
          rw (w.into-is)
          (next_told wanted c.args.from c.args.most c.args.self.now old items _ _ next _ w.in-Some.item passed room
          w.try_reserve.ensures.items w.push_reserved.ensures.items (sym item ∙ w.in-Some.is) upto)
      | in_default w ↦
          rw (w.into-is)
          (next_none wanted c.args.from c.args.most c.args.self.now old items next _ passed room (sym item ∙ w.in_default.is) upto)
    ]
