use Rattle.std.proofs.Common.{sym, ap, ◌∙◌}
use Rattle.std.specs.Prelude.{Some, option_map, vec_items}
use Rattle.std.proofs.lemmas.Result.{IfOk-weaker}
use Rattle.key_class.specs.Queries.{query_of}
use Rattle.feed.proofs.Tending.{may_be_rooted, tends_none}
use Rattle.feed.proofs.enrolling.plant_query.Goals as goal

pub returns-in_err-keys-clause-tends : goal.returns-in_err-keys-clause-tends
returns-in_err-keys-clause-tends g c = tends_none c.args.number c.args.tree.now.commits c.requires.legal

pub returns-clause-ok : goal.returns-clause-ok
returns-clause-ok g c =
    let reached = sym c.in_ok-keys.ensures ∙ ap (option_map vec_items) c.in-Some.is ∙ ap Some (sym c.deref.ensures.value) in
    IfOk-weaker c.plant.result _ _ (λ rows planted. may_be_rooted g.C.Reach.reach_of g.C.KeyClass.rules.size_of _ (query_of c.args.query.now) c.args.number c.deref.result.now reached (option_map vec_items rows) planted) c.plant.ensures.planted
