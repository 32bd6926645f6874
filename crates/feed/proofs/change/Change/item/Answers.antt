use Rattle.std.proofs.Common.{Some, None, refl, ap, sym, ◌∙◌}
use Rattle.change_list.specs.declared.item.Item.TheVariants.{Moved}
use Rattle.key_class.specs.Queries.{query_of}
use Rattle.key_class.specs.Rules.{satisfies}
use Rattle.feed.proofs.Changing.{tells_item}
use Rattle.feed.proofs.change.Change.item.Goals as goal

pub returns-in-Some-Some : goal.returns-in-Some-Some
returns-in-Some-Some g c = tells_item (satisfies g.C.KeyClass.rules (query_of c.args.query.now)) c.args.self.now (Some c.in-Some-Some.old) (Some c.in-Some-Some.new) _ (sym c.in-Some-Some.is-0 ∙ c.asked-ended.ensures) (sym c.in-Some-Some.is-1 ∙ c.asked-made.ensures) (ap (λ o. Some (Moved c.in-Some-Some.new o.row)) c.in-Some-Some.old-is)

pub returns-in-Some-None : goal.returns-in-Some-None
returns-in-Some-None g c = tells_item (satisfies g.C.KeyClass.rules (query_of c.args.query.now)) c.args.self.now (Some c.in-Some-None.old) None _ (sym c.in-Some-None.is-0 ∙ c.asked-ended.ensures) (sym c.in-Some-None.is-1 ∙ c.asked-made.ensures) refl

pub returns-in-None-Some : goal.returns-in-None-Some
returns-in-None-Some g c = tells_item (satisfies g.C.KeyClass.rules (query_of c.args.query.now)) c.args.self.now None (Some c.in-None-Some.new) _ (sym c.in-None-Some.is-0 ∙ c.asked-ended.ensures) (sym c.in-None-Some.is-1 ∙ c.asked-made.ensures) refl

pub returns-in-None-None : goal.returns-in-None-None
returns-in-None-None g c = tells_item (satisfies g.C.KeyClass.rules (query_of c.args.query.now)) c.args.self.now None None _ (sym c.in-None-None.is-0 ∙ c.asked-ended.ensures) (sym c.in-None-None.is-1 ∙ c.asked-made.ensures) refl
