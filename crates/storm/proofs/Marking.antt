-- Items without marks, with one mark after them.
use Rattle.std.proofs.Common.{◌≤◌, ◌≡◌, ◌↔◌, ℕ, Bool, true, false, List, [], ◌∷◌, ◌++◌, length, refl, sym, ap, ◌∙◌, subst, arith}
use Rattle.change_list.specs.declared.write.Write.{Write}
use Rattle.change_list.specs.declared.item.Item.{Item}
use Rattle.change_list.specs.declared.item.Item.TheVariants as item
use Rattle.change_list.specs.Changes.{changes}
use Rattle.change_list.specs.Listings.{BeginsChanges, BeginsListingFor, IsListingFor, is_mark, without_marks}
use Rattle.change_list.proofs.Resuming.{begun}
use Rattle.delivery_check.specs.Deliveries.{IsDelivered}
use Rattle.delivery_check.proofs.Parts.{append_marks}

module _ {K : Type 0} where
  no_marks_twice : (items : List (Item K)) → without_marks (without_marks items) ≡ without_marks items
  no_marks_twice [] = refl
  no_marks_twice (item.Mark n ∷ items) = no_marks_twice items
  no_marks_twice (item.Row row ∷ items) = ap (λ l. item.Row row ∷ l) (no_marks_twice items)
  no_marks_twice (item.Inserted row ∷ items) = ap (λ l. item.Inserted row ∷ l) (no_marks_twice items)
  no_marks_twice (item.Deleted n row ∷ items) = ap (λ l. item.Deleted n row ∷ l) (no_marks_twice items)
  no_marks_twice (item.Moved row other ∷ items) = ap (λ l. item.Moved row other ∷ l) (no_marks_twice items)

  abbrev HasNoMark : List (Item K) → Type 0
  HasNoMark [] = Unit {0}
  HasNoMark (x ∷ items) = (is_mark x ≡ false) × HasNoMark items

  none_left : (items : List (Item K)) → HasNoMark (without_marks items)
  none_left [] = tt
  none_left (item.Mark n ∷ items) = none_left items
  none_left (item.Row row ∷ items) = (refl, none_left items)
  none_left (item.Inserted row ∷ items) = (refl, none_left items)
  none_left (item.Deleted n row ∷ items) = (refl, none_left items)
  none_left (item.Moved row other ∷ items) = (refl, none_left items)

  no_cut : (before after : List (Item K)) (n : ℕ) → [] ≡ before ++ item.Mark n ∷ after → ⊥
  no_cut [] after n e = cc
  no_cut (x ∷ before) after n e = cc

  -- a mark after items without marks is the only one
  only_mark : (items before after : List (Item K)) (n m : ℕ) → HasNoMark items → items ++ item.Mark n ∷ [] ≡ before ++ item.Mark m ∷ after → (before ≡ items) × (m ≡ n)
  only_mark [] [] after n m none e = (refl, cc)
  only_mark [] (x ∷ before) after n m none e =
      let t : [] ≡ before ++ item.Mark m ∷ after = cc in
      absurd (no_cut before after m t)
  only_mark (x ∷ items) [] after n m none e =
      let g : x ≡ item.Mark m = cc in
      let z : is_mark {K = K} (item.Mark m) ≡ false = subst (λ (y : Item K). is_mark y ≡ false) g none.0 in
      absurd (cc z)
  only_mark (x ∷ items) (y ∷ before) after n m none e =
      let g : x ≡ y = cc in
      let t : items ++ item.Mark n ∷ [] ≡ before ++ item.Mark m ∷ after = cc in
      let r = only_mark items before after n m none.1 t in
      (cc (g, r.0), r.1)

module _ {K : Type 0} (wanted : K → Bool) (s n : ℕ) (commits : List (Write K)) where
  within_for : (follows : Bool) (items : List (Item K)) → IsListingFor follows wanted s n commits items → n ≤ length commits
  within_for false items l = l.within
  within_for true items l = l.within

  none_yet : n ≤ length commits → BeginsChanges wanted n (length commits) commits []
  none_yet within = record { rest = changes wanted n (length commits) commits; changes = record { from_before = within; within = omega arith; is = refl } }

  module _ (follows : Bool) (items : List (Item K)) where
    from_delivered : IsDelivered follows wanted s commits (without_marks items ++ item.Mark n ∷ []) → IsListingFor follows wanted s n commits (without_marks items)
    from_delivered d =
        subst (λ l. IsListingFor follows wanted s n commits l) (no_marks_twice items) (d.marks (without_marks items) [] n refl)

    to_delivered : IsListingFor follows wanted s n commits (without_marks items) → IsDelivered follows wanted s commits (without_marks items ++ item.Mark n ∷ [])
    to_delivered l =
        let left = without_marks items in
        let whole : without_marks (left ++ item.Mark n ∷ []) ≡ left ++ [] =
        append_marks left (item.Mark n ∷ []) ∙ ap (λ t. t ++ []) (no_marks_twice items) in
        record {
          begins = subst (λ i. BeginsListingFor follows wanted s (length commits) commits i) (sym whole)
              (begun wanted follows s n (length commits) commits left [] l (none_yet (within_for follows left l)));
          marks = λ before after m e.
              let only = only_mark left before after n m (none_left items) e in
              let same : without_marks before ≡ left = ap without_marks only.0 ∙ no_marks_twice items in
              subst (λ k. IsListingFor follows wanted s k commits (without_marks before)) (sym only.1) (subst (λ i. IsListingFor follows wanted s n commits i) (sym same) l);
        }

    -- a mark after the items says that they are all that is given up to its commit
    pub by_mark : IsDelivered follows wanted s commits (without_marks items ++ item.Mark n ∷ []) ↔ IsListingFor follows wanted s n commits (without_marks items)
    by_mark = (from_delivered, to_delivered)
