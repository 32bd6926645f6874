use Rattle.std.proofs.Common.{rules, ◌≡◌, ◌↔◌, IsTrue, IfOk, map, subst}
use Rattle.key_class.specs.Queries.{query_of}
use Rattle.key_class.specs.Rules.{satisfies}
use Rattle.change_list.specs.declared.item.Item.TheVariants as item
use Rattle.change_list.specs.Listings.{IsListing, without_marks}
use Rattle.scan.proofs.Arranged.{same_rows_arranged}
use Rattle.storm.proofs.Judging.{told_alike}
use Rattle.storm.proofs.Looking.{found_alike, snapshot_sorted}
use Rattle.storm.proofs.looks.are_found.Goals as goal

pub returns-then-not-are_rising-clause-told : goal.returns-then-not-are_rising-clause-told
returns-then-not-are_rising-clause-told g c =
    let wanted = satisfies g.C.KeyClass.rules (query_of c.args.query.now) in (
      λ no. absurd (cc no),
      λ are.
          let rising : IsTrue c.are_rising.result = c.are_rising.ensures.1 (snapshot_sorted wanted c.args.commits.now c.args.number c.args.rows.now are) in
          cc (rising, c.if-not-are_rising.true),
    )

pub returns-clause-told : goal.returns-clause-told
returns-clause-told g c =
    let wanted = satisfies g.C.KeyClass.rules (query_of c.args.query.now) in
    let commits = c.args.commits.now in
    let rows = c.args.rows.now in
    let items : c.as_slice.result.now ≡ map item.Row rows = search rules in
    let rising : IsTrue c.are_rising.result = cc c.if-not-are_rising.false in
    told_alike c.is_given.result _ _
    (subst (λ l. IfOk c.is_given.result (λ told. IsTrue told ↔ IsListing wanted c.args.number c.args.number commits (without_marks l))) items c.is_given.ensures.given)
    (found_alike wanted commits (λ xs ys same. same_rows_arranged g.C.Key.PartialEq.eq g.met.C.KeyClass.lawful.equal_keys_are_same xs ys same) c.args.number rows c.requires (c.are_rising.ensures.0 rising))
