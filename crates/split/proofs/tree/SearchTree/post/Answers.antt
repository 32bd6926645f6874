use Rattle.std.proofs.Common.{sym, ◌∙◌, ap}
use Rattle.page_table.proofs.Entries.{entries_stay, entries_same}
use Rattle.split.proofs.PostDone.{post_child_apart, post_finished, post_sibling_apart, post_sibling_exists, post_siblings_apart}
use Rattle.split.proofs.tree.SearchTree.post.Goals as goal

pub returns-in-Some-clause-entries : goal.returns-in-Some-clause-entries
returns-in-Some-clause-entries g c = entries_stay c.args.self.now.tree

pub returns-in_err-post-clause-entries : goal.returns-in_err-post-clause-entries
returns-in_err-post-clause-entries g c = entries_same c.args.self.now.tree c.post.new.table (c.in_err-post.ensures.unchanged ∙ ap (λ s. s.tree) c.self.view_is)

pub post-requires-clause-child_apart : goal.post-requires-clause-child_apart
post-requires-clause-child_apart g c = post_child_apart g.C.KeyClass.rules.is_cover g.C.KeyClass.rules.union_of c.self.inside.table c.self.inside.table c.self.inside.fan c.self.inside.least c.self.inside.limit c.args.self.now c.self.view_is c.self.invariant
    c.args.parent c.args.child c.in-Some-right.sibling (sym c.post_refusal.ensures ∙ c.in_default.is) (sym (ap (λ p. p.right) c.page.ensures) ∙ sym c.right.ensures ∙ c.in-Some-right.is)

pub post-requires-clause-sibling_apart : goal.post-requires-clause-sibling_apart
post-requires-clause-sibling_apart g c = post_sibling_apart g.C.KeyClass.rules.is_cover g.C.KeyClass.rules.union_of c.self.inside.table c.self.inside.table c.self.inside.fan c.self.inside.least c.self.inside.limit c.args.self.now c.self.view_is c.self.invariant
    c.args.parent c.args.child c.in-Some-right.sibling (sym c.post_refusal.ensures ∙ c.in_default.is) (sym (ap (λ p. p.right) c.page.ensures) ∙ sym c.right.ensures ∙ c.in-Some-right.is)

pub post-requires-clause-siblings_apart : goal.post-requires-clause-siblings_apart
post-requires-clause-siblings_apart g c = post_siblings_apart g.C.KeyClass.rules.is_cover g.C.KeyClass.rules.union_of c.self.inside.table c.self.inside.table c.self.inside.fan c.self.inside.least c.self.inside.limit c.args.self.now c.self.view_is c.self.invariant
    c.args.parent c.args.child c.in-Some-right.sibling (sym c.post_refusal.ensures ∙ c.in_default.is) (sym (ap (λ p. p.right) c.page.ensures) ∙ sym c.right.ensures ∙ c.in-Some-right.is)

pub post-requires-clause-sibling_exists : goal.post-requires-clause-sibling_exists
post-requires-clause-sibling_exists g c = post_sibling_exists g.C.KeyClass.rules.is_cover g.C.KeyClass.rules.union_of c.self.inside.table c.self.inside.table c.self.inside.fan c.self.inside.least c.self.inside.limit c.args.self.now c.self.view_is c.self.invariant
    c.args.parent c.args.child c.in-Some-right.sibling (sym c.post_refusal.ensures ∙ c.in_default.is) (sym (ap (λ p. p.right) c.page.ensures) ∙ sym c.right.ensures ∙ c.in-Some-right.is)

pub invariant_of-self-2 : goal.invariant_of-self-2
invariant_of-self-2 g c =
    (post_finished g.C.KeyClass.rules.is_cover g.C.KeyClass.rules.union_of c.self.inside.table c.post.new.table c.self.inside.fan c.self.inside.least c.self.inside.limit c.args.self.now c.self.view_is c.self.invariant
    c.args.parent c.args.child c.in-Some-right.sibling (sym c.post_refusal.ensures ∙ c.in_default.is)
    (sym (ap (λ p. p.right) c.page.ensures) ∙ sym c.right.ensures ∙ c.in-Some-right.is)
    g.met.C.KeyClass.lawful.bounds c.in_ok-post.ensures.posted).inv

pub returns-clause-kept : goal.returns-clause-kept
returns-clause-kept g c =
    (post_finished g.C.KeyClass.rules.is_cover g.C.KeyClass.rules.union_of c.self.inside.table c.post.new.table c.self.inside.fan c.self.inside.least c.self.inside.limit c.args.self.now c.self.view_is c.self.invariant
    c.args.parent c.args.child c.in-Some-right.sibling (sym c.post_refusal.ensures ∙ c.in_default.is)
    (sym (ap (λ p. p.right) c.page.ensures) ∙ sym c.right.ensures ∙ c.in-Some-right.is)
    g.met.C.KeyClass.lawful.bounds c.in_ok-post.ensures.posted).kept

pub returns-clause-entries : goal.returns-clause-entries
returns-clause-entries g c =
    (post_finished g.C.KeyClass.rules.is_cover g.C.KeyClass.rules.union_of c.self.inside.table c.post.new.table c.self.inside.fan c.self.inside.least c.self.inside.limit c.args.self.now c.self.view_is c.self.invariant
    c.args.parent c.args.child c.in-Some-right.sibling (sym c.post_refusal.ensures ∙ c.in_default.is)
    (sym (ap (λ p. p.right) c.page.ensures) ∙ sym c.right.ensures ∙ c.in-Some-right.is)
    g.met.C.KeyClass.lawful.bounds c.in_ok-post.ensures.posted).moved

pub returns-clause-sound : goal.returns-clause-sound
returns-clause-sound g c =
    (post_finished g.C.KeyClass.rules.is_cover g.C.KeyClass.rules.union_of c.self.inside.table c.post.new.table c.self.inside.fan c.self.inside.least c.self.inside.limit c.args.self.now c.self.view_is c.self.invariant
    c.args.parent c.args.child c.in-Some-right.sibling (sym c.post_refusal.ensures ∙ c.in_default.is)
    (sym (ap (λ p. p.right) c.page.ensures) ∙ sym c.right.ensures ∙ c.in-Some-right.is)
    g.met.C.KeyClass.lawful.bounds c.in_ok-post.ensures.posted).inv.sound
