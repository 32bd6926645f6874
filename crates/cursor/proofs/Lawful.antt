-- What the laws of a class give a cursor.
use Rattle.std.proofs.Common.{Bool, List}
use Rattle.std.specs.Prelude.{IsPermutation}
use Rattle.key_class.specs.Rules.{Rules, IsLawful}
use Rattle.key_class.specs.QueryLaws.{consistent_above_match}
use Rattle.change_list.specs.declared.item.Row.{Row}
use Rattle.mailbox.specs.Outlets.{Rule}
use Rattle.page_table.specs.Weights.{Same}
use Rattle.page_table.specs.TraversalLaws.{Prunes}
use Rattle.scan.proofs.Arranged.{same_rows_arranged}
use Rattle.cursor.specs.OpenCursors.{OpenCursor, wants, admits}

module _ {K A : Type 0} (rules : Rules K A) (rule : Rule) {same_key : K → K → Bool} {same_atom : A → A → Bool} (lawful : IsLawful rules same_key same_atom) where
  -- no bound that covers a wanted key is turned away
  pub prunes : (k : OpenCursor K A) → Prunes rules.is_cover (wants rules rule k) (admits rules rule k)
  prunes k = consistent_above_match rules.is_match rules.is_consistent rules.is_cover lawful.consistent_above_match k.query

  -- the same rows, counted, are an arrangement
  pub rows_arranged : (xs ys : List (Row K)) → Same xs ys → IsPermutation xs ys
  rows_arranged xs ys h = same_rows_arranged same_key lawful.equal_keys_are_same xs ys h
