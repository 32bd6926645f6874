use Rattle.std.proofs.Common.{rules, ◌≡◌, ◌++◌, ◌∷◌, []}
use Rattle.change_list.specs.declared.item.Item.TheVariants as item
use Rattle.change_list.specs.Listings.{without_marks}
use Rattle.key_class.specs.Queries.{query_of}
use Rattle.key_class.specs.Rules.{satisfies}
use Rattle.storm.proofs.Judging.{told_alike}
use Rattle.storm.proofs.Marking.{by_mark}
use Rattle.storm.proofs.judge.is_given.Goals as goal

pub returns-clause-given : goal.returns-clause-given
returns-clause-given g c =
    let whole : c.as_slice.result.now ≡ without_marks c.args.items.now ++ item.Mark c.args.upto ∷ [] = search rules in
    let wanted = satisfies g.C.KeyClass.rules (query_of c.args.query.now) in
    told_alike c.is_delivered.result _ _ (rw whole at c.is_delivered.ensures.delivered) (by_mark wanted c.args.from c.args.upto c.args.commits.now c.args.follows c.args.items.now)
