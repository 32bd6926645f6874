-- How many rows a snapshot has.
use Rattle.std.proofs.Common.{◌+◌, ◌<◌, ◌≤◌, ◌^◌, Bool, not, List, [], ◌∷◌, ◌++◌, length, take, Option, Some, None, ap, arith}
use Rattle.std.specs.Prelude.{option_to_list}
use Rattle.std.proofs.lemmas.List.{length-append}
use Rattle.std.proofs.Math.Seq.{take-length}
use Rattle.change_list.specs.declared.item.Row.{Row}
use Rattle.change_list.specs.declared.write.Write.{Write}
use Rattle.change_list.specs.Changes.{is_ended, made_row, made_rows, rows, snapshot}
use Rattle.change_list.proofs.Lists.{by_pushes}
use Rattle.change_list.proofs.Made.{made_none, made_push}
use Rattle.key_class.specs.Limits.{most_commits}
use Rattle.search.proofs.Sizes.{filter_shorter}

module _ {K : Type 0} where
  -- a commit makes one row at most
  made_few : (commits : List (Write K)) → length (made_rows commits) ≤ length commits
  made_few commits = by_pushes (λ cs. length (made_rows cs) ≤ length cs) (omega (arith, ap length (made_none {K = K}))) more commits
    where
      at_most_one : (o : Option (Row K)) → length (option_to_list o) ≤ 1
      at_most_one (Some r) = omega arith
      at_most_one None = omega arith

      more : (cs : List (Write K)) (write : Write K) → length (made_rows cs) ≤ length cs → length (made_rows (cs ++ write ∷ [])) ≤ length (cs ++ write ∷ [])
      more cs write h =
          let o = made_row (made_rows cs) (length cs + 1) write in
          omega (arith, h, ap length (made_push cs write), length-append (made_rows cs) (option_to_list o), at_most_one o, length-append cs (write ∷ []))

  -- a snapshot has no more rows than commits were made
  pub snapshot_few : (wanted : K → Bool) (commits : List (Write K)) → length (snapshot wanted (length commits) commits) ≤ length commits
  snapshot_few wanted commits =
      let first = take (length commits) commits in
      omega (
        arith,
        filter_shorter (λ r. wanted r.key) (rows first),
        filter_shorter (λ r. not (is_ended first r.row)) (made_rows first),
        made_few first,
        ap length (take-length commits),
      )

  -- so they can be counted
  pub countable : (wanted : K → Bool) (commits : List (Write K)) → length commits ≤ most_commits → length (snapshot wanted (length commits) commits) < 2 ^ 64
  countable wanted commits few = omega (arith, snapshot_few wanted commits, few)
