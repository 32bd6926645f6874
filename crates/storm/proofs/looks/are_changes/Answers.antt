use Rattle.std.proofs.Common.{◌≡◌, ◌↔◌, ◌∙◌, IsTrue, IfOk, sym, subst}
use Rattle.key_class.specs.Queries.{query_of}
use Rattle.key_class.specs.Rules.{satisfies}
use Rattle.change_list.specs.Listings.{AreChanges, without_marks}
use Rattle.storm.proofs.Looking.{changes_unmarked, unmarked}
use Rattle.storm.proofs.looks.are_changes.Goals as goal

pub returns-then-has_mark-clause-told : goal.returns-then-has_mark-clause-told
returns-then-has_mark-clause-told g c =
    let wanted = satisfies g.C.KeyClass.rules (query_of c.args.query.now) in
    (λ no. absurd (cc no), λ are. sym (changes_unmarked wanted c.args.commits.now c.args.from c.args.upto c.args.items.now are) ∙ sym c.has_mark.ensures ∙ c.if-has_mark.true)

pub returns-clause-told : goal.returns-clause-told
returns-clause-told g c =
    let wanted = satisfies g.C.KeyClass.rules (query_of c.args.query.now) in
    let all : without_marks c.args.items.now ≡ c.args.items.now = unmarked c.args.items.now (sym c.has_mark.ensures ∙ c.if-has_mark.false) in
    subst (λ items. IfOk c.is_given.result (λ told. IsTrue told ↔ AreChanges wanted c.args.from c.args.upto c.args.commits.now items)) all c.is_given.ensures.given
