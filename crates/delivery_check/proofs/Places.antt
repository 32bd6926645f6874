-- Items that are changes with marks among them, one by one.
use Rattle.std.proofs.Common.{◌≡◌, ◌↔◌, ◌+◌, ◌-◌, ◌<◌, ◌≤◌, ℕ, suc, Bool, false, List, [], ◌∷◌, ◌++◌, length, take, drop, Option, Some, None, ◌⊎◌, refl, sym, ap, ◌∙◌, arith, subst, ⊎_elim}
use Rattle.std.specs.Prelude.{slice_get, option_and_then, option_to_list}
use Rattle.std.proofs.lemmas.List.{append-nil}
use Rattle.change_list.specs.declared.write.Write.{Write}
use Rattle.change_list.specs.declared.item.Item.{Item}
use Rattle.change_list.specs.declared.item.Item.TheVariants as item
use Rattle.change_list.specs.Changes.{item_at, item_of, changes}
use Rattle.change_list.specs.Listings.{AreChanges, is_mark, without_marks}
use Rattle.change_list.proofs.Lists.{slice_get_within}
use Rattle.change_list.proofs.Pushing.{changes_more, changes_next, changes_split}
use Rattle.delivery_check.proofs.Cuts.{drop_next, drop_past}
use Rattle.delivery_check.specs.Following.{IsFollowed, IsNextPlace}

module _ {K : Type 0} (wanted : K → Bool) (commits : List (Write K)) where
  -- changes up to a number and those behind it
  split_at : (s m n : ℕ) → s ≤ m → m ≤ n → changes wanted s n commits ≡ changes wanted s m commits ++ changes wanted m n commits
  split_at s m n a b =
      let e : m + (n - m) ≡ n = omega (arith, b) in
      rw e at (changes_split wanted s m (n - m) commits a)

  none_front : (xs ys : List (Item K)) → xs ++ ys ≡ [] → xs ≡ []
  none_front [] ys h = refl
  none_front (x ∷ xs) ys h = absurd (cc)

  none_sooner : (s m n : ℕ) → s ≤ m → m ≤ n → changes wanted s n commits ≡ [] → changes wanted s m commits ≡ []
  none_sooner s m n a b h = none_front _ _ (sym (split_at s m n a b) ∙ h)

  pub item_within : (place : ℕ) (x : Item K) → item_at wanted commits place ≡ Some x → place < length commits
  item_within place x h = by_commit (slice_get commits place) refl h
    where
      by_commit : (o : Option (Write K)) → slice_get commits place ≡ o → option_and_then (item_of wanted (take place commits) (place + 1)) o ≡ Some x → place < length commits
      by_commit None e h = absurd (cc)
      by_commit (Some write) e h = slice_get_within commits place write e

  -- a further place without an item
  pub next_more : (from place : ℕ) → from ≤ place → changes wanted from place commits ≡ [] → item_at wanted commits place ≡ None → changes wanted from (place + 1) commits ≡ []
  next_more from place l h e = changes_more wanted from place commits l ∙ ap (λ r. changes wanted from place commits ++ option_to_list r) e ∙ append-nil _ ∙ h

  -- nothing is a beginning of what follows
  followed_none : (p : ℕ) → IsFollowed wanted p commits []
  followed_none p = record { rest = changes wanted p (length commits) commits; begins = refl; marks = λ before after n e. absurd (no_cut before after n e) }
    where
      no_cut : (before after : List (Item K)) (n : ℕ) → [] ≡ before ++ item.Mark n ∷ after → ⊥
      no_cut [] after n e = cc
      no_cut (x ∷ before) after n e = cc

  change_first : (x : Item K) (items : List (Item K)) → is_mark x ≡ false → without_marks (x ∷ items) ≡ x ∷ without_marks items
  change_first x items h = rw h refl

  module _ (p place : ℕ) (next : IsNextPlace wanted commits p place) where
    through : (x : Item K) (n : ℕ) → item_at wanted commits place ≡ Some x → place < n → changes wanted p n commits ≡ x ∷ changes wanted (place + 1) n commits
    through x n e l =
        split_at p place n next.from_before (omega (arith, l)) ∙ ap (λ r. r ++ changes wanted place n commits) next.none_before
        ∙ changes_next wanted place n commits l ∙ ap (λ o. option_to_list o ++ changes wanted (place + 1) n commits) e

    -- a mark up to which no further change is
    mark_step : (n : ℕ) (items : List (Item K)) → p ≤ n → n ≤ place → IsFollowed wanted p commits (item.Mark n ∷ items) ↔ IsFollowed wanted p commits items
    mark_step n items a b = (there, back)
      where
        there : IsFollowed wanted p commits (item.Mark n ∷ items) → IsFollowed wanted p commits items
        there f = record { rest = f.rest; begins = f.begins; marks = λ before after m e. f.marks (item.Mark n ∷ before) after m (ap (λ l. item.Mark n ∷ l) e) }

        marks : IsFollowed wanted p commits items → (before after : List (Item K)) (m : ℕ) → item.Mark n ∷ items ≡ before ++ item.Mark m ∷ after → AreChanges wanted p m commits (without_marks before)
        marks f [] after m e =
            let g : n ≡ m = cc in
            let w = next.within in
            record { from_before = omega (arith, a, g); within = omega (arith, b, g, w); is = sym (none_sooner p m place (omega (arith, a, g)) (omega (arith, b, g)) next.none_before) }
        marks f (x ∷ before) after m e =
            let g : item.Mark n ≡ x = cc in
            let t : items ≡ before ++ item.Mark m ∷ after = cc in
            subst (λ (y : Item K). AreChanges wanted p m commits (without_marks (y ∷ before))) g (f.marks before after m t)

        back : IsFollowed wanted p commits items → IsFollowed wanted p commits (item.Mark n ∷ items)
        back f = record { rest = f.rest; begins = f.begins; marks = marks f }

    mark_within : (n : ℕ) (items : List (Item K)) → IsFollowed wanted p commits (item.Mark n ∷ items) → (p ≤ n) × (n ≤ place)
    mark_within n items f =
        let m = f.marks [] items n refl in
        (m.from_before, ⊎_elim (λ (h : n ≤ place). h) (λ (h : place < n). absurd (later m h (item_at wanted commits place) refl)) (either n place))
      where
        either : (a b : ℕ) → (a ≤ b) ⊎ (b < a)
        either a b = search arith

        later : AreChanges wanted p n commits [] → place < n → (o : Option (Item K)) → item_at wanted commits place ≡ o → ⊥
        later m h None e = let z = next.at_end e in omega (arith, z, h, m.within)
        later m h (Some x) e = let z : [] ≡ x ∷ changes wanted (place + 1) n commits = m.is ∙ through x n e h in cc

    -- the next change
    change_step : (x : Item K) (items : List (Item K)) → is_mark x ≡ false → item_at wanted commits place ≡ Some x → IsFollowed wanted p commits (x ∷ items) ↔ IsFollowed wanted (place + 1) commits items
    change_step x items h e = (there, back)
      where
        inside : place < length commits
        inside = item_within place x e

        all : changes wanted p (length commits) commits ≡ x ∷ changes wanted (place + 1) (length commits) commits
        all = through x (length commits) e inside

        either : (a b : ℕ) → (a ≤ b) ⊎ (b < a)
        either a b = search arith

        behind : (n : ℕ) (xs : List (Item K)) → AreChanges wanted p n commits (x ∷ xs) → AreChanges wanted (place + 1) n commits xs
        behind n xs m =
            ⊎_elim
            (λ (l : n ≤ place).
            let z : x ∷ xs ≡ [] = m.is ∙ none_sooner p n place m.from_before l next.none_before in
            absurd (cc))
            (λ (l : place < n).
            let z : x ∷ xs ≡ x ∷ changes wanted (place + 1) n commits = m.is ∙ through x n e l in
            record { from_before = omega (arith, l); within = m.within; is = cc })
            (either n place)

        there : IsFollowed wanted p commits (x ∷ items) → IsFollowed wanted (place + 1) commits items
        there f =
            let z : x ∷ changes wanted (place + 1) (length commits) commits ≡ x ∷ (without_marks items ++ f.rest) =
            sym all ∙ f.begins ∙ ap (λ l. l ++ f.rest) (change_first x items h) in
            record {
              rest = f.rest;
              begins = cc;
              marks = λ before after n t. behind n (without_marks before) (rw (change_first x before h) at (f.marks (x ∷ before) after n (ap (λ l. x ∷ l) t)));
            }

        ahead : (n : ℕ) (xs : List (Item K)) → AreChanges wanted (place + 1) n commits xs → AreChanges wanted p n commits (x ∷ xs)
        ahead n xs m =
            let a = next.from_before in
            let b = m.from_before in
            record { from_before = omega (arith, a, b); within = m.within; is = ap (λ l. x ∷ l) m.is ∙ sym (through x n e (omega (arith, b))) }

        marks : IsFollowed wanted (place + 1) commits items → (before after : List (Item K)) (n : ℕ) → x ∷ items ≡ before ++ item.Mark n ∷ after → AreChanges wanted p n commits (without_marks before)
        marks f [] after n t =
            let g : x ≡ item.Mark n = cc in
            let z : is_mark {K = K} (item.Mark n) ≡ false = subst (λ (y : Item K). is_mark y ≡ false) g h in
            absurd (cc)
        marks f (y ∷ before) after n t =
            let g : x ≡ y = cc in
            let u : items ≡ before ++ item.Mark n ∷ after = cc in
            subst (λ (z : Item K). AreChanges wanted p n commits (without_marks (z ∷ before))) g
            (rw (change_first x before h) (ahead n (without_marks before) (f.marks before after n u)))

        back : IsFollowed wanted (place + 1) commits items → IsFollowed wanted p commits (x ∷ items)
        back f = record { rest = f.rest; begins = all ∙ ap (λ l. x ∷ l) f.begins ∙ ap (λ l. l ++ f.rest) (sym (change_first x items h)); marks = marks f }

    -- no other change is the next
    change_is : (x : Item K) (items : List (Item K)) → is_mark x ≡ false → IsFollowed wanted p commits (x ∷ items) → item_at wanted commits place ≡ Some x
    change_is x items h f = by_item (item_at wanted commits place) refl
      where
        begins : changes wanted p (length commits) commits ≡ x ∷ (without_marks items ++ f.rest)
        begins = f.begins ∙ ap (λ l. l ++ f.rest) (change_first x items h)

        by_item : (o : Option (Item K)) → item_at wanted commits place ≡ o → o ≡ Some x
        by_item None e =
            let z : changes wanted p (length commits) commits ≡ [] = ap (λ n. changes wanted p n commits) (sym (next.at_end e)) ∙ next.none_before in
            absurd (cc)
        by_item (Some y) e =
            let z : changes wanted p (length commits) commits ≡ y ∷ changes wanted (place + 1) (length commits) commits = through y (length commits) e (item_within place y e) in
            let g : y ≡ x = cc in
            ap Some g

  abbrev Behind : ℕ → ℕ → List (Item K) → Type 0
  Behind p i items = IsFollowed wanted p commits (drop i items)

  not_mark : (x : Item K) → ((n : ℕ) → x ≡ item.Mark n → ⊥) → is_mark x ≡ false
  not_mark (item.Mark n) h = absurd (h n refl)
  not_mark (item.Row row) h = refl
  not_mark (item.Inserted row) h = refl
  not_mark (item.Deleted n row) h = refl
  not_mark (item.Moved row n) h = refl

  module _ (p place : ℕ) (next : IsNextPlace wanted commits p place) (items : List (Item K)) (i : ℕ) where
    one : suc i ≡ i + 1
    one = omega arith

    at : (x : Item K) → slice_get items i ≡ Some x → drop i items ≡ x ∷ drop (i + 1) items
    at x e = drop_next items i x e ∙ ap (λ k. x ∷ drop k items) one

    pub mark_at : (n : ℕ) → slice_get items i ≡ Some (item.Mark n) → Behind p i items → (p ≤ n) × (n ≤ place)
    mark_at n e f = mark_within p place next n (drop (i + 1) items) (subst (λ l. IsFollowed wanted p commits l) (at (item.Mark n) e) f)

    pub past_mark : (n : ℕ) → slice_get items i ≡ Some (item.Mark n) → p ≤ n → n ≤ place → Behind p i items ↔ Behind p (i + 1) items
    past_mark n e a b = subst (λ l. IsFollowed wanted p commits l ↔ Behind p (i + 1) items) (sym (at (item.Mark n) e)) (mark_step p place next n (drop (i + 1) items) a b)

    module _ (x : Item K) (e : slice_get items i ≡ Some x) (h : (n : ℕ) → x ≡ item.Mark n → ⊥) where
      pub change_at : Behind p i items → item_at wanted commits place ≡ Some x
      change_at f = change_is p place next x (drop (i + 1) items) (not_mark x h) (subst (λ l. IsFollowed wanted p commits l) (at x e) f)

      pub past_change : item_at wanted commits place ≡ Some x → Behind p i items ↔ Behind (place + 1) (i + 1) items
      past_change c = subst (λ l. IsFollowed wanted p commits l ↔ Behind (place + 1) (i + 1) items) (sym (at x e)) (change_step p place next x (drop (i + 1) items) (not_mark x h) c)

  pub past_all : (p : ℕ) (items : List (Item K)) (i : ℕ) → length items ≤ i → Behind p i items
  past_all p items i l = subst (λ r. IsFollowed wanted p commits r) (sym (drop_past items i l)) (followed_none p)
