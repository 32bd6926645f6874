-- The numbers of the rows by their ids, once a commit is made.
use Rattle.std.proofs.Common.{◌≡◌, ◌+◌, ℕ, Bool, true, false, cond, List, [], ◌∷◌, ◌++◌, length, Option, Some, None, refl, sym, ap, ◌∙◌, arith}
use Rattle.std.specs.Prelude.{nat_eq, option_map}
use Rattle.std.specs.Cmp.{nat_cmp_total}
use Rattle.std.specs.FinMap.{FinMap, get, get-insert, get-remove, insert, remove}
use Rattle.std.specs.Option.{option_or}
use Rattle.std.specs.Ordering.{eq_by_cmp, nat_cmp}
use Rattle.std.proofs.lemmas.Bool.Decides.{nat_tests}
use Rattle.change_list.specs.declared.item.Row.{Row}
use Rattle.change_list.specs.declared.write.Write.{Write}
use Rattle.change_list.specs.declared.write.Write.TheVariants.{Insert, Delete, Move}
use Rattle.change_list.specs.Changes.{IsLegal, rows}
use Rattle.revisions.specs.Maps.{AreApart}
use Rattle.map.specs.Generations.{TellsRows, entries_from, row_of_id}
use Rattle.map.proofs.Ids.{others, row_of_gone, row_of_other, row_of_pushed, rows_deleted, rows_inserted, rows_moved}

at_id : (id q : ℕ) → eq_by_cmp nat_cmp q id ≡ nat_eq id q
at_id id q = grind (arith, nat_tests)

-- an id has a number, or none, and all others have those that they had
abbrev pub Updates : FinMap nat_cmp ℕ → FinMap nat_cmp ℕ → ℕ → Option ℕ → Type 0
Updates old new id number = (q : ℕ) → get new q ≡ cond (nat_eq id q) number (get old q)

pub updated : (old : FinMap nat_cmp ℕ) (id number : ℕ) → Updates old (insert old id number) id (Some number)
updated old id number q = get-insert nat_cmp_total old id number q ∙ ap (λ b. cond b (Some number) (get old q)) (at_id id q)

pub unset : (old : FinMap nat_cmp ℕ) (id : ℕ) → Updates old (remove old id) id None
unset old id q = get-remove nat_cmp_total old id q ∙ ap (λ b. cond b None (get old q)) (at_id id q)

or_none : {X : Type 0} (o : Option X) → option_or o None ≡ o
or_none None = refl
or_none (Some x) = refl

module _ {K : Type 0} (old new : FinMap nat_cmp ℕ) (commits : List (Write K)) (tells : TellsRows old commits) (id : ℕ) where
  -- an id that had no row has the last one now
  pub tells_inserted : (key : K) → IsLegal commits → row_of_id id (rows commits) ≡ None → Updates old new id (Some (length commits + 1)) → TellsRows new (commits ++ Insert key id ∷ [])
  tells_inserted key legal none up q =
      let r : Row K = record { row = length commits + 1; key = key; tag = id } in
      up q ∙ by_test (nat_eq id q) refl
      ∙ ap (option_map (λ (r : Row K). r.row)) (sym (row_of_pushed q (rows commits) r) ∙ ap (row_of_id q) (sym (rows_inserted commits key id legal)))
    where
      by_test : (b : Bool) → nat_eq id q ≡ b → cond b (Some (length commits + 1)) (get old q) ≡ option_map (λ (r : Row K). r.row) (option_or (row_of_id q (rows commits)) (cond (nat_eq id q) (Some (record { row = length commits + 1; key = key; tag = id })) None))
      by_test true e =
          let same : id ≡ q = search (arith, e) in
          let gone : row_of_id q (rows commits) ≡ None = ap (λ n. row_of_id n (rows commits)) (sym same) ∙ none in
          rw (gone, e) refl
      by_test false e = rw e (tells q ∙ ap (option_map (λ (r : Row K). r.row)) (sym (or_none (row_of_id q (rows commits)))))

  module _ (r : Row K) (at : row_of_id id (rows commits) ≡ Some r) (apart : AreApart (entries_from (rows commits))) where
    pub tells_deleted : Updates old new id None → TellsRows new (commits ++ Delete r.row ∷ [])
    tells_deleted up q =
        up q ∙ by_test (nat_eq id q) refl
        ∙ ap (λ l. option_map (λ (r : Row K). r.row) (row_of_id q l)) (sym (rows_deleted commits id r at apart))
      where
        by_test : (b : Bool) → nat_eq id q ≡ b → cond b None (get old q) ≡ option_map (λ (r : Row K). r.row) (row_of_id q (others id (rows commits)))
        by_test true e =
            let same : id ≡ q = search (arith, e) in
            ap (option_map (λ (r : Row K). r.row)) (sym (ap (λ n. row_of_id n (others id (rows commits))) (sym same) ∙ row_of_gone id (rows commits)))
        by_test false e = tells q ∙ ap (option_map (λ (r : Row K). r.row)) (sym (row_of_other id q (rows commits) e))

    pub tells_moved : (key : K) → IsLegal commits → Updates old new id (Some (length commits + 1)) → TellsRows new (commits ++ Move r.row key ∷ [])
    tells_moved key legal up q =
        let made : Row K = record { row = length commits + 1; key = key; tag = id } in
        up q ∙ by_test (nat_eq id q) refl
        ∙ ap (option_map (λ (r : Row K). r.row)) (sym (row_of_pushed q (others id (rows commits)) made) ∙ ap (row_of_id q) (sym (rows_moved commits id r at apart key legal)))
      where
        by_test : (b : Bool) → nat_eq id q ≡ b → cond b (Some (length commits + 1)) (get old q) ≡ option_map (λ (r : Row K). r.row) (option_or (row_of_id q (others id (rows commits))) (cond (nat_eq id q) (Some (record { row = length commits + 1; key = key; tag = id })) None))
        by_test true e =
            let same : id ≡ q = search (arith, e) in
            let gone : row_of_id q (others id (rows commits)) ≡ None = ap (λ n. row_of_id n (others id (rows commits))) (sym same) ∙ row_of_gone id (rows commits) in
            rw (gone, e) refl
        by_test false e = rw e (tells q ∙ ap (option_map (λ (r : Row K). r.row)) (sym (row_of_other id q (rows commits) e) ∙ sym (or_none (row_of_id q (others id (rows commits))))))

-- an id that has no row may get a number and lose it
pub tells_kept : {K : Type 0} (old : FinMap nat_cmp ℕ) (commits : List (Write K)) → TellsRows old commits → (id number : ℕ) → row_of_id id (rows commits) ≡ None → TellsRows (remove (insert old id number) id) commits
tells_kept {K} old commits tells id number none q = unset (insert old id number) id q ∙ ap (λ o. cond (nat_eq id q) None o) (updated old id number q) ∙ by_test (nat_eq id q) refl
  where
    by_test : (b : Bool) → nat_eq id q ≡ b → cond b None (cond b (Some number) (get old q)) ≡ option_map (λ (r : Row K). r.row) (row_of_id q (rows commits))
    by_test true e =
        let same : id ≡ q = search (arith, e) in
        sym (ap (option_map (λ (r : Row K). r.row)) (ap (λ n. row_of_id n (rows commits)) (sym same) ∙ none))
    by_test false e = tells q
