use Rattle.std.proofs.Common.{◌∙◌, nat_eq, nat_lt, rules, sym, ap, ltb-true}
use Rattle.std.proofs.lemmas.List.Sorted.{IsPartitionPoint-from_clause}
use Rattle.desk.proofs.Weaves.{parted_by_number, has_none_past, has_at}
use Rattle.desk.proofs.checks.has.Goals as goal

pub returns-in-None : goal.returns-in-None
returns-in-None g c =
    let n = c.args.n in
    let stamps = c.args.stamps.now in
    let parts = IsPartitionPoint-from_clause (λ s. nat_lt s.number n) stamps _ c.partition_point-at.ensures.partitioned (parted_by_number stamps n c.requires) (λ a r q k. search rules) in
    sym (has_none_past n stamps _ parts c.in-None.ensures.lookup.3)

pub returns-in-Some : goal.returns-in-Some
returns-in-Some g c =
    let n = c.args.n in
    let stamps = c.args.stamps.now in
    let parts = IsPartitionPoint-from_clause (λ s. nat_lt s.number n) stamps _ c.partition_point-at.ensures.partitioned (parted_by_number stamps n c.requires) (λ a r q k. search rules) in
    let found = c.in-Some.ensures.lookup in
    let from = has_at n stamps 0 _ c.requires parts (ltb-true _ _ (sym found.0)) _ in
    ap (λ m. nat_eq m n) (c.number.ensures ∙ ap (λ s. s.number) found.1) ∙ sym from
