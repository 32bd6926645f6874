-- What was delivered, in its parts: the rows, and what follows them.
use Rattle.std.proofs.Common.{◌≡◌, ◌<◌, ◌≤◌, ℕ, Bool, false, List, [], ◌∷◌, ◌++◌, length, map, drop, refl, sym, ap, ◌∙◌, arith, subst, append_assoc, length-append}
use Rattle.std.specs.Prelude.{IsPermutation}
use Rattle.std.proofs.lemmas.List.{append-nil, take-append-drop, length-drop}
use Rattle.std.proofs.lemmas.List.Sorted.{length_permutation}
use Rattle.change_list.specs.declared.write.Write.{Write}
use Rattle.change_list.specs.declared.item.Row.{Row}
use Rattle.change_list.specs.declared.item.Item.{Item}
use Rattle.change_list.specs.declared.item.Item.TheVariants as item
use Rattle.change_list.specs.Changes.{snapshot, changes}
use Rattle.change_list.specs.Listings.{IsListing, is_mark, without_marks}
use Rattle.delivery_check.specs.Deliveries.{IsDelivered}
use Rattle.delivery_check.specs.Following.{IsFollowed}
use Rattle.delivery_check.specs.Remaining.{IsTaken, HasWrongRow}
use Rattle.delivery_check.proofs.Cuts.{drop_past}
use Rattle.delivery_check.proofs.Parts.{NoRowFirst, append_marks, rows_no_marks, changes_no_row, parted, parted_long, row_within, mark_behind}

none_of_none : {X : Type 0} (xs : List X) → length xs ≡ 0 → xs ≡ []
none_of_none [] h = refl
none_of_none (x ∷ xs) h = absurd (omega (arith, h))

module _ {K : Type 0} (wanted : K → Bool) (s : ℕ) (commits : List (Write K)) (items : List (Item K)) where
  abbrev all : List (Row K)
  all = snapshot wanted s commits

  no_row : (n : ℕ) → NoRowFirst (changes wanted s n commits)
  no_row n = changes_no_row wanted s n commits

  pub none_wrong : HasWrongRow all items → IsDelivered false wanted s commits items → ⊥
  none_wrong w d =
      let l = d.begins.listing in
      let e : map item.Row w.given ++ item.Row w.row ∷ (without_marks w.rest ++ d.begins.rest) ≡ map item.Row l.rows ++ changes wanted s (length commits) commits =
      sym (append_assoc (map item.Row w.given) (item.Row w.row ∷ without_marks w.rest) d.begins.rest)
      ∙ ap (λ t. (t ++ item.Row w.row ∷ without_marks w.rest) ++ d.begins.rest) (sym (rows_no_marks w.given))
      ∙ ap (λ t. t ++ d.begins.rest) (sym (append_marks (map item.Row w.given) (item.Row w.row ∷ w.rest)) ∙ ap without_marks (sym w.is))
      ∙ l.is in
      let g = row_within w.given l.rows w.row _ _ (no_row (length commits)) e in
      w.wrong g.more (subst (λ r. IsPermutation all r) g.is l.each_once)

  module _ (n : ℕ) (left : List (Row K)) (t : IsTaken all items n left) where
    parts : items ≡ map item.Row t.given ++ drop n items
    parts = sym (take-append-drop n items) ∙ ap (λ l. l ++ drop n items) t.is

    unmarked : (rest : List (Item K)) → without_marks (map item.Row t.given ++ rest) ≡ map item.Row t.given ++ without_marks rest
    unmarked rest = append_marks (map item.Row t.given) rest ∙ ap (λ l. l ++ without_marks rest) (rows_no_marks t.given)

    -- rows alone
    pub rows_alone : s ≤ length commits → length items ≤ n → IsDelivered false wanted s commits items
    rows_alone b l = record {
      begins = record {
        rest = map item.Row left ++ changes wanted s (length commits) commits;
        listing = record {
          from_before = b;
          within = omega arith;
          rows = t.given ++ left;
          each_once = t.each_once;
          is = ap (λ i. i ++ (map item.Row left ++ changes wanted s (length commits) commits)) (ap without_marks alone ∙ rows_no_marks t.given)
              ∙ sym (append_assoc (map item.Row t.given) (map item.Row left) (changes wanted s (length commits) commits))
              ∙ ap (λ i. i ++ changes wanted s (length commits) commits) (sym (joined t.given left));
        };
      };
      marks = λ before after m e. absurd (no_mark t.given before after m (sym alone ∙ e));
    }
      where
        alone : items ≡ map item.Row t.given
        alone = parts ∙ ap (λ r. map item.Row t.given ++ r) (drop_past items n l) ∙ append-nil (map item.Row t.given)

        joined : (a b : List (Row K)) → map item.Row (a ++ b) ≡ map item.Row a ++ map item.Row b
        joined [] b = refl
        joined (r ∷ a) b = ap (λ l. item.Row r ∷ l) (joined a b)

        no_mark : (rows : List (Row K)) (before after : List (Item K)) (m : ℕ) → map item.Row rows ≡ before ++ item.Mark m ∷ after → ⊥
        no_mark [] [] after m e = cc
        no_mark [] (x ∷ before) after m e = cc
        no_mark (r ∷ rows) [] after m e = cc
        no_mark (r ∷ rows) (x ∷ before) after m e = no_mark rows before after m (cc)

    -- all rows and what may follow them
    pub delivered_from : s ≤ length commits → left ≡ [] → IsFollowed wanted s commits (drop n items) → IsDelivered false wanted s commits items
    delivered_from b none f = record {
      begins = record {
        rest = f.rest;
        listing = record {
          from_before = b;
          within = omega arith;
          rows = t.given;
          each_once = whole;
          is = ap (λ i. i ++ f.rest) (ap without_marks parts ∙ unmarked (drop n items)) ∙ append_assoc (map item.Row t.given) (without_marks (drop n items)) f.rest
              ∙ ap (λ i. map item.Row t.given ++ i) (sym f.begins);
        };
      };
      marks = marks;
    }
      where
        whole : IsPermutation all t.given
        whole = subst (λ l. IsPermutation all l) (ap (λ l. t.given ++ l) none ∙ append-nil t.given) t.each_once

        marks : (before after : List (Item K)) (m : ℕ) → items ≡ before ++ item.Mark m ∷ after → IsListing wanted s m commits (without_marks before)
        marks before after m e =
            let k = mark_behind t.given (drop n items) before after m (sym parts ∙ e) in
            let a = f.marks k.between after m k.is in
            record {
              from_before = a.from_before;
              within = a.within;
              rows = t.given;
              each_once = whole;
              is = ap without_marks k.front ∙ unmarked k.between ∙ ap (λ i. map item.Row t.given ++ i) a.is;
            }

    module _ (ends : (row : Row K) (rest : List (Item K)) → drop n items ≡ item.Row row ∷ rest → ⊥) (d : IsDelivered false wanted s commits items) where
      listing : map item.Row t.given ++ (without_marks (drop n items) ++ d.begins.rest) ≡ map item.Row d.begins.listing.rows ++ changes wanted s (length commits) commits
      listing =
          sym (append_assoc (map item.Row t.given) (without_marks (drop n items)) d.begins.rest)
          ∙ ap (λ i. i ++ d.begins.rest) (sym (ap without_marks parts ∙ unmarked (drop n items)))
          ∙ d.begins.listing.is

      by_change : (x : Item K) (rest : List (Item K)) → drop n items ≡ x ∷ rest → is_mark x ≡ false → ((row : Row K) → x ≡ item.Row row → ⊥) → length t.given ≡ length all
      by_change x rest e h other =
          let l = d.begins.listing in
          let f : without_marks (drop n items) ≡ x ∷ without_marks rest = ap without_marks e ∙ rw h refl in
          let y : NoRowFirst (without_marks (drop n items) ++ d.begins.rest) =
          record { never = λ row r z. let g : x ∷ (without_marks rest ++ d.begins.rest) ≡ item.Row row ∷ r = sym (ap (λ i. i ++ d.begins.rest) f) ∙ z in other row (cc) } in
          let p = parted t.given l.rows _ _ y (no_row (length commits)) listing in
          ap length p.0 ∙ length_permutation all l.rows l.each_once

      -- where something follows, no row is left
      rows_full : (rest : List (Item K)) → drop n items ≡ rest → 0 < length rest → length t.given ≡ length all
      rows_full [] e h = absurd (omega (arith, h))
      rows_full (item.Row row ∷ rest) e h = absurd (ends row rest e)
      rows_full (item.Mark m ∷ rest) e h =
          let l = d.marks (map item.Row t.given) rest m (parts ∙ ap (λ r. map item.Row t.given ++ r) e) in
          let p = parted t.given l.rows [] (changes wanted s m commits) (record { never = λ row r z. cc }) (no_row m) (append-nil (map item.Row t.given) ∙ sym (rows_no_marks t.given) ∙ l.is) in
          ap length p.0 ∙ length_permutation all l.rows l.each_once
      rows_full (item.Inserted row ∷ rest) e h = by_change (item.Inserted row) rest e refl (λ r z. cc)
      rows_full (item.Deleted k row ∷ rest) e h = by_change (item.Deleted k row) rest e refl (λ r z. cc)
      rows_full (item.Moved row k ∷ rest) e h = by_change (item.Moved row k) rest e refl (λ r z. cc)

      full : n < length items → length t.given ≡ length all
      full h = rows_full (drop n items) refl (omega (arith, h, length-drop n items))

      pub none_left : n < length items → left ≡ []
      none_left h = none_of_none left (omega (arith, full h, length_permutation all (t.given ++ left) t.each_once, length-append t.given left))

      same_length : n < length items → (rows : List (Row K)) → IsPermutation all rows → length t.given ≡ length rows
      same_length h rows p = full h ∙ sym (length_permutation all rows p)

      pub followed_from : n < length items → IsFollowed wanted s commits (drop n items)
      followed_from h = record {
        rest = d.begins.rest;
        begins = sym (parted_long t.given d.begins.listing.rows _ _ (same_length h d.begins.listing.rows d.begins.listing.each_once) listing);
        marks = λ before after m e.
            let l = d.marks (map item.Row t.given ++ before) after m (parts ∙ ap (λ r. map item.Row t.given ++ r) e ∙ sym (append_assoc (map item.Row t.given) before (item.Mark m ∷ after))) in
            record {
              from_before = l.from_before;
              within = l.within;
              is = parted_long t.given l.rows _ _ (same_length h l.rows l.each_once) (sym (unmarked before) ∙ l.is);
            };
      }
