use Rattle.std.proofs.Common.{◌≤◌, length, refl, arith}
use Rattle.key_class.specs.Queries.{query_of, matches_query}
use Rattle.change_list.specs.Changes.{snapshot}
use Rattle.delivery_check.specs.Remaining.{AllTaken, HasWrongRow}
use Rattle.delivery_check.proofs.Cuts.{below_end, part_from}
use Rattle.delivery_check.proofs.Delivering.{none_wrong, rows_alone, delivered_from, none_left, followed_from}
use Rattle.delivery_check.proofs.delivery.is_listed.Goals as goal

pub returns-in-None-clause-delivered : goal.returns-in-None-clause-delivered
returns-in-None-clause-delivered g c =
    let wrong : HasWrongRow (snapshot (matches_query g.C.KeyClass.rules.is_match (query_of c.args.query.now)) c.args.opened c.args.commits.now) c.args.items.now = rw c.in_ok-remaining.ensures.rows at c.in-None.ensures in
    (λ no. absurd (cc no), λ d. absurd (none_wrong _ _ _ _ wrong d))

pub returns-then-count-items-clause-delivered : goal.returns-then-count-items-clause-delivered
returns-then-count-items-clause-delivered g c =
    let taken : AllTaken (snapshot (matches_query g.C.KeyClass.rules.is_match (query_of c.args.query.now)) c.args.opened c.args.commits.now) c.args.items.now c.in-Some.count c.take_rows.new.remaining = rw c.in_ok-remaining.ensures.rows at c.in-Some.ensures in
    (λ yes. rows_alone _ _ _ _ _ _ taken.taken (omega arith) (omega arith), λ d. refl)

pub returns-then-not-is_empty-clause-delivered : goal.returns-then-not-is_empty-clause-delivered
returns-then-not-is_empty-clause-delivered g c =
    let taken : AllTaken (snapshot (matches_query g.C.KeyClass.rules.is_match (query_of c.args.query.now)) c.args.opened c.args.commits.now) c.args.items.now c.in-Some.count c.take_rows.new.remaining = rw c.in_ok-remaining.ensures.rows at c.in-Some.ensures in
    let more = below_end c.in-Some.count (length c.args.items.now) taken.taken.within c.if-count-items.false in
    (λ no. absurd (cc no), λ d. c.if-not-is_empty.ensures.1 (none_left _ _ _ _ _ _ taken.taken taken.ends d more))

pub returns-clause-delivered : goal.returns-clause-delivered
returns-clause-delivered g c =
    let taken : AllTaken (snapshot (matches_query g.C.KeyClass.rules.is_match (query_of c.args.query.now)) c.args.opened c.args.commits.now) c.args.items.now c.in-Some.count c.take_rows.new.remaining = rw c.in_ok-remaining.ensures.rows at c.in-Some.ensures in
    let more = below_end c.in-Some.count (length c.args.items.now) taken.taken.within c.if-count-items.false in
    let whole = part_from c.in-Some.count c.args.items.now in
    let within : c.args.opened ≤ length c.args.commits.now = omega arith in (
      λ yes. delivered_from _ _ _ _ _ _ taken.taken within (c.if-not-is_empty.ensures.0 refl) (rw whole at (c.is_followed.ensures.0 yes)),
      λ d. c.is_followed.ensures.1 (rw whole (followed_from _ _ _ _ _ _ taken.taken taken.ends d more)),
    )
