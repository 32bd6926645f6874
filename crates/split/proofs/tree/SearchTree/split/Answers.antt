use Rattle.std.proofs.Common.{sym, ◌∙◌, ap}
use Rattle.page_table.proofs.Entries.{entries_stay, entries_same}
use Rattle.split.proofs.SplitDone.{split_finished, split_finished_same}
use Rattle.split.proofs.tree.SearchTree.split.Goals as goal

pub returns-in-Some-clause-entries : goal.returns-in-Some-clause-entries
returns-in-Some-clause-entries g c = entries_stay c.args.self.now.tree

pub returns-in_err-sibling-clause-entries : goal.returns-in_err-sibling-clause-entries
returns-in_err-sibling-clause-entries g c = entries_same c.args.self.now.tree c.split.new.table (c.in_err-sibling.ensures.unchanged ∙ ap (λ s. s.tree) c.self.view_is)

pub invariant_of-self-2 : goal.invariant_of-self-2
invariant_of-self-2 g c =
    (split_finished g.C.KeyClass.rules.is_cover g.C.KeyClass.rules.union_of c.self.inside.table c.split.new.table c.self.inside.fan c.self.inside.least c.self.inside.limit c.args.self.now c.self.view_is c.self.invariant
    c.args.page c.args.sides.now (sym c.split_refusal.ensures ∙ c.in_default.is)
    c.in_ok-sibling.ensures.split g.met.C.KeyClass.lawful.bounds).inv

pub returns-clause-same_rows : goal.returns-clause-same_rows
returns-clause-same_rows g c = split_finished_same g.C.KeyClass.rules.is_cover g.C.KeyClass.rules.union_of c.self.inside.table c.split.new.table c.self.inside.fan c.self.inside.least c.self.inside.limit c.args.self.now c.self.view_is c.self.invariant
    c.args.page c.args.sides.now (sym c.split_refusal.ensures ∙ c.in_default.is)
    c.in_ok-sibling.ensures.split

pub returns-clause-kept : goal.returns-clause-kept
returns-clause-kept g c =
    (split_finished g.C.KeyClass.rules.is_cover g.C.KeyClass.rules.union_of c.self.inside.table c.split.new.table c.self.inside.fan c.self.inside.least c.self.inside.limit c.args.self.now c.self.view_is c.self.invariant
    c.args.page c.args.sides.now (sym c.split_refusal.ensures ∙ c.in_default.is)
    c.in_ok-sibling.ensures.split g.met.C.KeyClass.lawful.bounds).kept

pub returns-clause-entries : goal.returns-clause-entries
returns-clause-entries g c =
    (split_finished g.C.KeyClass.rules.is_cover g.C.KeyClass.rules.union_of c.self.inside.table c.split.new.table c.self.inside.fan c.self.inside.least c.self.inside.limit c.args.self.now c.self.view_is c.self.invariant
    c.args.page c.args.sides.now (sym c.split_refusal.ensures ∙ c.in_default.is)
    c.in_ok-sibling.ensures.split g.met.C.KeyClass.lawful.bounds).moved

pub returns-clause-sound : goal.returns-clause-sound
returns-clause-sound g c =
    (split_finished g.C.KeyClass.rules.is_cover g.C.KeyClass.rules.union_of c.self.inside.table c.split.new.table c.self.inside.fan c.self.inside.least c.self.inside.limit c.args.self.now c.self.view_is c.self.invariant
    c.args.page c.args.sides.now (sym c.split_refusal.ensures ∙ c.in_default.is)
    c.in_ok-sibling.ensures.split g.met.C.KeyClass.lawful.bounds).inv.sound
