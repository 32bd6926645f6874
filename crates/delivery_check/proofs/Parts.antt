-- Items that begin with rows.
use Rattle.std.proofs.Common.{◌≡◌, ℕ, Bool, not, List, [], ◌∷◌, ◌++◌, length, map, Option, Some, None, refl, sym, ap, arith, subst}
use Rattle.std.specs.Prelude.{filter_map, IfSome}
use Rattle.std.specs.List.{cons_option}
use Rattle.std.proofs.lemmas.List.Elements.{filter-append}
use Rattle.change_list.specs.declared.write.Write.{Write}
use Rattle.change_list.specs.declared.item.Row.{Row}
use Rattle.change_list.specs.declared.item.Item.{Item}
use Rattle.change_list.specs.declared.item.Item.TheVariants as item
use Rattle.change_list.specs.Changes.{item_at, changes}
use Rattle.change_list.specs.Listings.{is_mark, without_marks}
use Rattle.change_list.proofs.Items.{IsChange, item_is_change}

module _ {K : Type 0} where
  -- no row stands first
  pub record NoRowFirst (items : List (Item K)) : Type 0 where
    pub never : (row : Row K) (rest : List (Item K)) → items ≡ item.Row row ∷ rest → ⊥

  pub append_marks : (xs ys : List (Item K)) → without_marks (xs ++ ys) ≡ without_marks xs ++ without_marks ys
  append_marks xs ys = filter-append (λ i. not (is_mark i)) xs ys

  pub rows_no_marks : (rows : List (Row K)) → without_marks (map item.Row rows) ≡ map item.Row rows
  rows_no_marks [] = refl
  rows_no_marks (row ∷ rows) = ap (λ l. item.Row row ∷ l) (rows_no_marks rows)

  first_is_change : (f : ℕ → Option (Item K)) → ((k : ℕ) → IfSome (f k) IsChange) → (ks : List ℕ) (x : Item K) (rest : List (Item K)) → filter_map f ks ≡ x ∷ rest → IsChange x
  first_is_change f h [] x rest e = absurd (cc)
  first_is_change f h (k ∷ ks) x rest e = by_item (f k) (h k) (first_is_change f h ks x rest) e
    where
      by_item : (o : Option (Item K)) → IfSome o IsChange → (filter_map f ks ≡ x ∷ rest → IsChange x) → cons_option o (filter_map f ks) ≡ x ∷ rest → IsChange x
      by_item None i later e = later e
      by_item (Some y) i later e = let p : y ≡ x = cc in subst IsChange p i

  pub changes_no_row : (wanted : K → Bool) (s n : ℕ) (commits : List (Write K)) → NoRowFirst (changes wanted s n commits)
  changes_no_row wanted s n commits = record { never = λ row rest e. first_is_change (item_at wanted commits) (item_is_change wanted commits) _ (item.Row row) rest e }

  -- where no row stands behind rows, both parts are known
  pub parted : (a b : List (Row K)) (y z : List (Item K)) → NoRowFirst y → NoRowFirst z → map item.Row a ++ y ≡ map item.Row b ++ z → (a ≡ b) × (y ≡ z)
  parted [] [] y z hy hz e = (refl, e)
  parted [] (r ∷ b) y z hy hz e = absurd (hy.never r (map item.Row b ++ z) e)
  parted (r ∷ a) [] y z hy hz e = absurd (hz.never r (map item.Row a ++ y) (sym e))
  parted (r ∷ a) (q ∷ b) y z hy hz e =
      let p : r ≡ q = cc in
      let t : map item.Row a ++ y ≡ map item.Row b ++ z = cc in
      let m = parted a b y z hy hz t in
      (cc (p, m.0), m.1)

  pub parted_long : (a b : List (Row K)) (y z : List (Item K)) → length a ≡ length b → map item.Row a ++ y ≡ map item.Row b ++ z → y ≡ z
  parted_long [] [] y z l e = e
  parted_long [] (r ∷ b) y z l e = absurd (omega (arith, l))
  parted_long (r ∷ a) [] y z l e = absurd (omega (arith, l))
  parted_long (r ∷ a) (q ∷ b) y z l e =
      let t : map item.Row a ++ y ≡ map item.Row b ++ z = cc in
      parted_long a b y z (omega (arith, l)) t

  pub record GoesOn (a b : List (Row K)) (row : Row K) : Type 0 where
    pub more : List (Row K)
    pub is : b ≡ a ++ row ∷ more

  pub row_within : (a b : List (Row K)) (row : Row K) (y z : List (Item K)) → NoRowFirst z → map item.Row a ++ item.Row row ∷ y ≡ map item.Row b ++ z → GoesOn a b row
  row_within [] [] row y z h e = absurd (h.never row y (sym e))
  row_within [] (q ∷ b) row y z h e = let p : q ≡ row = cc in record { more = b; is = ap (λ r. r ∷ b) p }
  row_within (r ∷ a) [] row y z h e = absurd (h.never r (map item.Row a ++ item.Row row ∷ y) (sym e))
  row_within (r ∷ a) (q ∷ b) row y z h e =
      let p : q ≡ r = cc in
      let t : map item.Row a ++ item.Row row ∷ y ≡ map item.Row b ++ z = cc in
      let g = row_within a b row y z h t in
      let s = g.is in
      record { more = g.more; is = cc }

  pub record IsMarkBehind (rows : List (Row K)) (rest before after : List (Item K)) (n : ℕ) : Type 0 where
    pub between : List (Item K)
    pub front : before ≡ map item.Row rows ++ between
    pub is : rest ≡ between ++ item.Mark n ∷ after

  -- a mark in what begins with rows stands behind them
  pub mark_behind : (rows : List (Row K)) (rest before after : List (Item K)) (n : ℕ) → map item.Row rows ++ rest ≡ before ++ item.Mark n ∷ after → IsMarkBehind rows rest before after n
  mark_behind [] rest before after n e = record { between = before; front = refl; is = e }
  mark_behind (r ∷ rows) rest [] after n e = absurd (cc)
  mark_behind (r ∷ rows) rest (x ∷ before) after n e =
      let p : x ≡ item.Row r = cc in
      let t : map item.Row rows ++ rest ≡ before ++ item.Mark n ∷ after = cc in
      let m = mark_behind rows rest before after n t in
      let f = m.front in
      record { between = m.between; front = cc; is = m.is }
