use Rattle.std.proofs.Common.{◌≡◌, ◌+◌, true, sym, ap, ◌∙◌}
use Rattle.split.specs.Tests.{is_leaf}
use Rattle.writes.proofs.Swept.{has_swept_leaf, leaf_rests, sweep_refused, swept_none, swept_some}
use Rattle.writes.proofs.sweeping.sweep_page.Goals as goal

pub returns-then-not-is_leaf-clause-partly : goal.returns-then-not-is_leaf-clause-partly
returns-then-not-is_leaf-clause-partly g c =
    let old = c.args.world.now in
    swept_some g.C.KeyClass.rules g.O.Outlet.rule old c.args.page c.args.page 0 old (swept_none g.C.KeyClass.rules g.O.Outlet.rule old c.args.page c.recall_soundness.ensures)

pub returns-in_err-number-clause-partly : goal.returns-in_err-number-clause-partly
returns-in_err-number-clause-partly g c =
    let old = c.args.world.now in
    let leaf : is_leaf old.search.tree c.args.page ≡ true = ap (λ s. is_leaf s.tree c.args.page) (sym c.search.ensures) ∙ sym c.is_leaf.ensures ∙ c.if-not-is_leaf.false in
    let refused = sweep_refused g.C.KeyClass.rules g.O.Outlet.rule old c.args.page leaf c.sweep_page.new.self _ c.in_err-number.ensures.step in
    rw (refused.1) (swept_some g.C.KeyClass.rules g.O.Outlet.rule old c.args.page c.args.page 0 old (swept_none g.C.KeyClass.rules g.O.Outlet.rule old c.args.page c.recall_soundness.ensures))

pub returns-clause-rests : goal.returns-clause-rests
returns-clause-rests g c =
    let old = c.args.world.now in
    let leaf : is_leaf old.search.tree c.args.page ≡ true = ap (λ s. is_leaf s.tree c.args.page) (sym c.search.ensures) ∙ sym c.is_leaf.ensures ∙ c.if-not-is_leaf.false in
    leaf_rests g.C.KeyClass.rules g.O.Outlet.rule old c.args.page leaf c.sweep_page.new.self c.in_ok-number.number c.in_ok-number.ensures.serves c.in_ok-number.ensures.step.change

pub returns-clause-pages : goal.returns-clause-pages
returns-clause-pages g c =
    let old = c.args.world.now in
    let leaf : is_leaf old.search.tree c.args.page ≡ true = ap (λ s. is_leaf s.tree c.args.page) (sym c.search.ensures) ∙ sym c.is_leaf.ensures ∙ c.if-not-is_leaf.false in
    (has_swept_leaf g.C.KeyClass.rules g.O.Outlet.rule old c.args.page leaf c.sweep_page.new.self c.in_ok-number.number c.recall_soundness.ensures c.in_ok-number.ensures.serves c.in_ok-number.ensures.step.change c.in_ok-number.ensures.sound).pages

pub returns-clause-partly : goal.returns-clause-partly
returns-clause-partly g c =
    let old = c.args.world.now in
    let leaf : is_leaf old.search.tree c.args.page ≡ true = ap (λ s. is_leaf s.tree c.args.page) (sym c.search.ensures) ∙ sym c.is_leaf.ensures ∙ c.if-not-is_leaf.false in
    swept_some g.C.KeyClass.rules g.O.Outlet.rule old c.args.page (c.args.page + 1) (0 + c.in_ok-number.number) c.sweep_page.new.self
    (has_swept_leaf g.C.KeyClass.rules g.O.Outlet.rule old c.args.page leaf c.sweep_page.new.self c.in_ok-number.number c.recall_soundness.ensures c.in_ok-number.ensures.serves c.in_ok-number.ensures.step.change c.in_ok-number.ensures.sound)
