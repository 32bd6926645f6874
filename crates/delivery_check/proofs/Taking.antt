-- Rows with which items begin, one by one.
use Rattle.std.proofs.Common.{◌≡◌, ◌↔◌, ◌+◌, ◌≤◌, ℕ, suc, Bool, true, List, [], ◌∷◌, ◌++◌, length, map, take, drop, Some, refl, sym, ap, ◌∙◌, arith, subst}
use Rattle.std.specs.Prelude.{slice_get, Contains, IsPermutation}
use Rattle.std.proofs.lemmas.List.{map-append, take-append-drop}
use Rattle.std.proofs.lemmas.List.Sorted.{IsPermutation-pop_more, IsPermutation-refl}
use Rattle.change_list.specs.declared.item.Row.{Row}
use Rattle.change_list.specs.declared.item.Item.{Item}
use Rattle.change_list.specs.declared.item.Item.TheVariants as item
use Rattle.change_list.proofs.Lists.{slice_get_within}
use Rattle.delivery_check.specs.Remaining.{IsTaken, AllTaken, HasWrongRow}
use Rattle.delivery_check.proofs.Cuts.{take_next, drop_next, drop_past}
use Rattle.delivery_check.proofs.Permuting.{row_behind}

module _ {K : Type 0} (all : List (Row K)) (items : List (Item K)) where
  -- no row is taken yet
  pub taken_none : IsTaken all items 0 all
  taken_none = record { within = omega arith; given = []; is = refl; each_once = IsPermutation-refl all }

  module _ (n : ℕ) (left : List (Row K)) (t : IsTaken all items n left) where
    pub taken_next : (row : Row K) (less : List (Row K)) → slice_get items n ≡ Some (item.Row row) → IsPermutation left (row ∷ less) → IsTaken all items (n + 1) less
    taken_next row less e p =
        let s : suc n ≡ n + 1 = omega arith in
        let w = slice_get_within items n (item.Row row) e in
        record {
          within = omega (arith, w);
          given = t.given ++ row ∷ [];
          is = ap (λ k. take k items) (sym s) ∙ take_next items n (item.Row row) e ∙ ap (λ l. l ++ item.Row row ∷ []) t.is ∙ sym (map-append item.Row t.given (row ∷ []));
          each_once = IsPermutation-pop_more all t.given left less row t.each_once p;
        }

    -- the items end
    pub taken_whole : length items ≤ n → AllTaken all items (length items) left
    taken_whole end =
        let same : n ≡ length items = omega (arith, end, t.within) in
        record {
          taken = subst (λ k. IsTaken all items k left) same t;
          ends = λ row rest e. let none = drop_past items (length items) (omega arith) in cc;
        }

    -- an item follows that is no row
    pub other_next : (x : Item K) → slice_get items n ≡ Some x → ((row : Row K) → x ≡ item.Row row → ⊥) → AllTaken all items n left
    other_next x at other = record {
      taken = t;
      ends = λ row rest e. let next = drop_next items n x at in other row (cc);
    }

    -- a row that is not left
    pub wrong_row : (eq : K → K → Bool) → ((a b : K) → (eq a b ≡ true) ↔ (a ≡ b)) → (row : Row K) → slice_get items n ≡ Some (item.Row row) → (Contains left row → ⊥) → HasWrongRow all items
    wrong_row eq exact row e h = record {
      given = t.given;
      row = row;
      rest = drop (suc n) items;
      is = sym (take-append-drop n items) ∙ ap (λ l. l ++ drop n items) t.is ∙ ap (λ l. map item.Row t.given ++ l) (drop_next items n (item.Row row) e);
      wrong = λ more p. h (row_behind eq exact all t.given left more row t.each_once p);
    }
