-- Rows that weigh the same are an arrangement of each other, where equality of keys is decided.
use Rattle.std.proofs.Common.{◌≡◌, ◌↔◌, Bool, true, ◌&&◌, List, refl, subst}
use Rattle.std.specs.Prelude.{nat_eq, IsPermutation}
use Rattle.std.proofs.lemmas.Bool.{and_from, and_parts, eq-eqb, eqb-true}
use Rattle.change_list.specs.declared.item.Row.{Row}
use Rattle.page_table.proofs.Arranged.{arranged}
use Rattle.page_table.specs.Weights.{Same}

module _ {K : Type 0} (eq : K → K → Bool) (exact : (a b : K) → (eq a b ≡ true) ↔ (a ≡ b)) where
  -- rows are equal where their numbers, keys and tags are
  abbrev same_row : Row K → Row K → Bool
  same_row r q = nat_eq r.row q.row && (eq r.key q.key && nat_eq r.tag q.tag)

  same_row-exact : (r q : Row K) → (same_row r q ≡ true) ↔ (r ≡ q)
  same_row-exact r q = (there, λ e. subst (λ x. same_row r x ≡ true) e (and_from _ _ (eq-eqb r.row r.row refl) (and_from _ _ ((exact r.key r.key).1 refl) (eq-eqb r.tag r.tag refl))))
    where
      there : same_row r q ≡ true → r ≡ q
      there h =
          let a = and_parts (nat_eq r.row q.row) (eq r.key q.key && nat_eq r.tag q.tag) h in
          let b = and_parts (eq r.key q.key) (nat_eq r.tag q.tag) a.1 in
          let n : r.row ≡ q.row = eqb-true r.row q.row a.0 in
          let k : r.key ≡ q.key = (exact r.key q.key).0 b.0 in
          let g : r.tag ≡ q.tag = eqb-true r.tag q.tag b.1 in
          λ i. record { row = n i; key = k i; tag = g i }

  pub same_rows_arranged : (xs ys : List (Row K)) → Same xs ys → IsPermutation xs ys
  same_rows_arranged xs ys same = arranged same_row same_row-exact xs ys same
