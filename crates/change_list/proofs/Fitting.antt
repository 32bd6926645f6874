-- What fits a cursor before a step fits it after, with the item that it gave.
use Rattle.std.proofs.Common.{◌≡◌, ◌+◌, ◌-◌, ◌≤◌, ℕ, Bool, true, false, not, List, [], ◌∷◌, ◌++◌, length, map, Option, Some, None, ◌⊎◌, inl, inr, ⊎_elim, refl, sym, ap, ◌∙◌, arith, subst, append_assoc, length-append}
use Rattle.std.specs.Prelude.{option_to_list, IsPermutation, IfSome}
use Rattle.std.proofs.lemmas.List.{append-nil, map-append}
use Rattle.std.proofs.lemmas.List.Sorted.{IsPermutation-trans, IsPermutation-append_right, length_permutation}
use Rattle.change_list.specs.declared.write.Write.{Write}
use Rattle.change_list.specs.declared.item.Row.{Row}
use Rattle.change_list.specs.declared.item.Item.{Item}
use Rattle.change_list.specs.declared.item.Item.TheVariants as item
use Rattle.change_list.specs.Changes.{changes}
use Rattle.change_list.proofs.Pushing.{filter_push, filter_push_not, changes_none, changes_push, changes_split, snapshot_push}
use Rattle.change_list.specs.Listings.{IsListingFor, BeginsListingFor, first_rows, is_mark, without_marks}
use Rattle.change_list.specs.Cursors.{CursorState, wanted_by, IsPastRows, Fits}

pub record IsCut {X : Type 0} (xs b a : List X) (x m : X) : Type 0 where
  pub less : List X
  pub behind : a ≡ less ++ x ∷ []
  pub is : xs ≡ b ++ m ∷ less

-- where a list with one more element is cut, the cut is at the end or before
pub cut_push : {X : Type 0} (xs b a : List X) (x m : X) → xs ++ x ∷ [] ≡ b ++ m ∷ a → ((xs ≡ b) × (x ≡ m)) ⊎ IsCut xs b a x m
cut_push [] [] a x m h = inl (refl, cc)
cut_push [] (y ∷ []) a x m h = absurd (cc)
cut_push [] (y ∷ z ∷ b) a x m h = absurd (cc)
cut_push (y ∷ xs) [] a x m h =
    let e : y ≡ m = cc in
    let f : xs ++ x ∷ [] ≡ a = cc in
    inr (record { less = xs; behind = sym f; is = ap (λ z. z ∷ xs) e })
cut_push (y ∷ xs) (z ∷ b) a x m h =
    let e : y ≡ z = cc in
    let f : xs ++ x ∷ [] ≡ b ++ m ∷ a = cc in
    ⊎_elim
    (λ (p : (xs ≡ b) × (x ≡ m)). let q = p.0 in inl (cc, p.1))
    (λ (c : IsCut xs b a x m). let q = c.is in inr (record { less = c.less; behind = c.behind; is = cc }))
    (cut_push xs b a x m f)

module _ {K : Type 0} (wanted : K → Bool) where
  -- a further commit changes nothing of the rows that are given first,
  pub first_rows_push : (follows : Bool) (s : ℕ) (commits : List (Write K)) (write : Write K) → s ≤ length commits → first_rows follows wanted s (commits ++ write ∷ []) ≡ first_rows follows wanted s commits
  first_rows_push false s commits write h = snapshot_push wanted s commits write h
  first_rows_push true s commits write h = refl

  -- nor of a listing
  pub listing_push : (follows : Bool) (s n : ℕ) (commits : List (Write K)) (write : Write K) (items : List (Item K))
      → IsListingFor follows wanted s n commits items → IsListingFor follows wanted s n (commits ++ write ∷ []) items
  listing_push false s n commits write items l =
      let b : s ≤ length commits = omega (arith, l.from_before, l.within) in
      record {
        from_before = l.from_before;
        within = omega (arith, l.within, length-append commits (write ∷ []));
        rows = l.rows;
        each_once = rw (snapshot_push wanted s commits write b) l.each_once;
        is = l.is ∙ ap (λ t. map item.Row l.rows ++ t) (sym (changes_push wanted s n commits write l.from_before l.within));
      }
  listing_push true s n commits write items l = record {
    from_before = l.from_before;
    within = omega (arith, l.within, length-append commits (write ∷ []));
    is = l.is ∙ sym (changes_push wanted s n commits write l.from_before l.within);
  }

  none_of_none : {X : Type 0} (xs : List X) → length xs ≡ 0 → xs ≡ []
  none_of_none [] h = refl
  none_of_none (x ∷ xs) h = absurd (omega (arith, h))

  pub empty_stays : {X : Type 0} (xs ys : List X) → IsPermutation xs ys → xs ≡ [] → ys ≡ []
  empty_stays xs ys p e = none_of_none ys (length_permutation xs ys p ∙ ap length e)

  -- the rows that are given first, each once, and then the changes are a listing
  pub listing_for : (follows : Bool) (s n : ℕ) (commits : List (Write K)) (items : List (Item K)) (rows : List (Row K)) → s ≤ n → n ≤ length commits
      → IsPermutation (first_rows follows wanted s commits) rows → items ≡ map item.Row rows ++ changes wanted s n commits → IsListingFor follows wanted s n commits items
  listing_for false s n commits items rows b w p e = record { from_before = b; within = w; rows = rows; each_once = p; is = e }
  listing_for true s n commits items rows b w p e = record {
    from_before = b;
    within = w;
    is = e ∙ ap (λ r. map item.Row r ++ changes wanted s n commits) (empty_stays [] rows p refl);
  }

  -- what a listing begins with begins a listing
  pub begins_for : (follows : Bool) (s n : ℕ) (commits : List (Write K)) (items rest : List (Item K)) → IsListingFor follows wanted s n commits (items ++ rest) → BeginsListingFor follows wanted s n commits items
  begins_for false s n commits items rest l = record { rest = rest; listing = l }
  begins_for true s n commits items rest l = record { rest = rest; changes = l }

  -- so does what begins a beginning
  pub begins_less : (follows : Bool) (s n : ℕ) (commits : List (Write K)) (items more : List (Item K)) → BeginsListingFor follows wanted s n commits (items ++ more) → BeginsListingFor follows wanted s n commits items
  begins_less false s n commits items more b = record { rest = more ++ b.rest; listing = subst (λ l. IsListingFor false wanted s n commits l) (append_assoc items more b.rest) b.listing }
  begins_less true s n commits items more b = record { rest = more ++ b.rest; changes = subst (λ l. IsListingFor true wanted s n commits l) (append_assoc items more b.rest) b.changes }

module _ {K A : Type 0} (matching : A → K → Bool) where
  module _ (commits : List (Write K)) (before : CursorState K A) (items : List (Item K)) (f : Fits matching commits before items) where
    -- marks of a list with one more item that is no mark, or a mark at whose place a listing stands
    marks_push : (x : Item K) → ((n : ℕ) → x ≡ item.Mark n → IsListingFor before.follows (wanted_by matching before) before.opened n commits (without_marks items))
        → (front behind : List (Item K)) (n : ℕ) → items ++ x ∷ [] ≡ front ++ item.Mark n ∷ behind → IsListingFor before.follows (wanted_by matching before) before.opened n commits (without_marks front)
    marks_push x h front behind n e =
        ⊎_elim
        (λ (p : (items ≡ front) × (x ≡ item.Mark n)). subst (λ l. IsListingFor before.follows (wanted_by matching before) before.opened n commits (without_marks l)) p.0 (h n p.1))
        (λ (c : IsCut items front behind x (item.Mark n)). f.marks front c.less n c.is)
        (cut_push items front behind x (item.Mark n) e)

    no_mark : (x : Item K) → is_mark x ≡ false → (n : ℕ) → x ≡ item.Mark n → IsListingFor before.follows (wanted_by matching before) before.opened n commits (without_marks items)
    no_mark x h n e = let g : is_mark {K = K} (item.Mark n) ≡ false = subst (λ (y : Item K). is_mark y ≡ false) e h in absurd (cc)

    -- the visit of a page, where the same remains
    pub fits_scan : (scanning : Bool) (remaining : List (Row K)) → before.remaining ≡ remaining → (IsPastRows matching before → scanning ≡ false)
        → Fits matching commits (record before { scanning = scanning; remaining = remaining }) items
    fits_scan scanning remaining r s = record {
      rows = f.rows;
      is = f.is;
      each_once = subst (λ l. IsPermutation (first_rows before.follows (wanted_by matching before) before.opened commits) (f.rows ++ l)) r f.each_once;
      follower = λ h. let p = f.follower h in record { scanned = s p; none_remaining = sym r ∙ p.none_remaining };
      in_order = ⊎_elim (λ (p : IsPastRows matching before). inl (record { scanned = s p; none_remaining = sym r ∙ p.none_remaining })) (λ (p : before.position ≡ before.opened). inr p) f.in_order;
      from_opening = f.from_opening;
      within = f.within;
      marks = f.marks;
    }

    -- a row that remained
    pub fits_row : (row : Row K) (scanning : Bool) (rest : List (Row K)) → before.remaining ≡ row ∷ rest
        → Fits matching commits (record before { scanning = scanning; remaining = rest }) (items ++ item.Row row ∷ [])
    fits_row row scanning rest r =
        let w = wanted_by matching before in
        let at : before.position ≡ before.opened =
        ⊎_elim (λ (p : IsPastRows matching before). let z = p.none_remaining in absurd (cc)) (λ (p : before.position ≡ before.opened). p) f.in_order in
        let none : changes w before.opened before.position commits ≡ [] = ap (λ p. changes w before.opened p commits) at ∙ changes_none w before.opened commits in
        record {
          rows = f.rows ++ row ∷ [];
          is = filter_push (λ i. not (is_mark i)) items (item.Row row) refl ∙ ap (λ l. l ++ item.Row row ∷ []) (f.is ∙ ap (λ t. map item.Row f.rows ++ t) none ∙ append-nil _)
              ∙ sym (map-append item.Row f.rows (row ∷ [])) ∙ sym (append-nil _) ∙ ap (λ t. map item.Row (f.rows ++ row ∷ []) ++ t) (sym none);
          each_once = rw (append_assoc) (subst (λ l. IsPermutation (first_rows before.follows w before.opened commits) (f.rows ++ l)) r f.each_once);
          follower = λ h. let z = (f.follower h).none_remaining in absurd (cc);
          in_order = inr at;
          from_opening = f.from_opening;
          within = f.within;
          marks = marks_push (item.Row row) (no_mark (item.Row row) refl);
        }

    -- past commits, with the item of the last
    pub fits_changes : (given : Option (Item K)) (position : ℕ) → IsPastRows matching before → before.position ≤ position → position ≤ length commits
        → changes (wanted_by matching before) before.position position commits ≡ option_to_list given → IfSome given (λ x. is_mark x ≡ false)
        → Fits matching commits (record before { position = position }) (items ++ option_to_list given)
    fits_changes given position h l b t m =
        let w = wanted_by matching before in
        let o : before.opened ≤ position = omega (arith, f.from_opening, l) in
        let e : before.position + (position - before.position) ≡ position = omega (arith, l) in
        let longer : changes w before.opened position commits ≡ changes w before.opened before.position commits ++ option_to_list given =
        ap (λ n. changes w before.opened n commits) (sym e) ∙ changes_split w before.opened before.position (position - before.position) commits f.from_opening
        ∙ ap (λ n. changes w before.opened before.position commits ++ changes w before.position n commits) e ∙ ap (λ r. changes w before.opened before.position commits ++ r) t in
        record {
          rows = f.rows;
          is = plain given m ∙ ap (λ r. r ++ option_to_list given) f.is ∙ append_assoc (map item.Row f.rows) (changes w before.opened before.position commits) (option_to_list given) ∙ ap (λ r. map item.Row f.rows ++ r) (sym longer);
          each_once = f.each_once;
          follower = λ z. record { scanned = h.scanned; none_remaining = h.none_remaining };
          in_order = inl (record { scanned = h.scanned; none_remaining = h.none_remaining });
          from_opening = o;
          within = b;
          marks = marks given m;
        }
      where
        plain : (g : Option (Item K)) → IfSome g (λ x. is_mark x ≡ false) → without_marks (items ++ option_to_list g) ≡ without_marks items ++ option_to_list g
        plain None n = ap without_marks (append-nil items) ∙ sym (append-nil (without_marks items))
        plain (Some x) n = filter_push (λ i. not (is_mark i)) items x (ap not n)

        marks : (g : Option (Item K)) → IfSome g (λ x. is_mark x ≡ false) → (front behind : List (Item K)) (n : ℕ) → items ++ option_to_list g ≡ front ++ item.Mark n ∷ behind
            → IsListingFor before.follows (wanted_by matching before) before.opened n commits (without_marks front)
        marks None n front behind k e = f.marks front behind k (sym (append-nil items) ∙ e)
        marks (Some x) n front behind k e = marks_push x (no_mark x n) front behind k e

    -- with nothing to come, all that was given is a listing
    pub fits_done : IsPastRows matching before → length commits ≤ before.position → IsListingFor before.follows (wanted_by matching before) before.opened (length commits) commits (without_marks items)
    fits_done h l =
        let e : before.position ≡ length commits = omega (arith, l, f.within) in
        listing_for (wanted_by matching before) before.follows before.opened (length commits) commits (without_marks items) f.rows (omega (arith, f.from_opening, f.within)) (omega arith)
        (rw (h.none_remaining, append-nil) at f.each_once)
        (f.is ∙ ap (λ n. map item.Row f.rows ++ changes (wanted_by matching before) before.opened n commits) e)

    -- a mark, once nothing is to come
    pub fits_mark : (asked : Bool) → IsPastRows matching before → length commits ≤ before.position
        → Fits matching commits (record before { asked = asked }) (items ++ item.Mark (length commits) ∷ [])
    fits_mark asked h l = record {
      rows = f.rows;
      is = filter_push_not (λ i. not (is_mark i)) items (item.Mark (length commits)) refl ∙ f.is;
      each_once = f.each_once;
      follower = λ z. record { scanned = h.scanned; none_remaining = h.none_remaining };
      in_order = inl (record { scanned = h.scanned; none_remaining = h.none_remaining });
      from_opening = f.from_opening;
      within = f.within;
      marks = marks_push (item.Mark (length commits)) (λ n e. let g : length commits ≡ n = cc in subst (λ n. IsListingFor before.follows (wanted_by matching before) before.opened n commits (without_marks items)) g (fits_done h l));
    }

    -- what was given begins a listing for the present commits
    pub fits_begins : BeginsListingFor before.follows (wanted_by matching before) before.opened (length commits) commits (without_marks items)
    fits_begins =
        let w = wanted_by matching before in
        let e : before.position + (length commits - before.position) ≡ length commits = omega (arith, f.within) in
        let whole : changes w before.opened (length commits) commits ≡ changes w before.opened before.position commits ++ changes w before.position (length commits) commits =
        ap (λ n. changes w before.opened n commits) (sym e) ∙ changes_split w before.opened before.position (length commits - before.position) commits f.from_opening
        ∙ ap (λ n. changes w before.opened before.position commits ++ changes w before.position n commits) e in
        begins_for w before.follows before.opened (length commits) commits (without_marks items) (map item.Row before.remaining ++ changes w before.position (length commits) commits)
        (listing_for w before.follows before.opened (length commits) commits _ (f.rows ++ before.remaining) (omega (arith, f.from_opening, f.within)) (omega arith)
        f.each_once
        (⊎_elim
        (λ (p : IsPastRows matching before).
        rw (f.is, p.none_remaining, whole, append-nil, append_assoc) refl)
        (λ (p : before.position ≡ before.opened).
        let none : changes w before.opened before.position commits ≡ [] = ap (λ p. changes w before.opened p commits) p ∙ changes_none w before.opened commits in
        rw (f.is, whole, none, append-nil, map-append, append_assoc) refl)
        f.in_order))

    -- a commit changes nothing of what fits
    pub fits_push : (write : Write K) (remaining : List (Row K)) → IsPermutation before.remaining remaining
        → Fits matching (commits ++ write ∷ []) (record before { remaining = remaining }) items
    fits_push write remaining r =
        let w = wanted_by matching before in
        let b : before.opened ≤ length commits = omega (arith, f.from_opening, f.within) in
        record {
          rows = f.rows;
          is = f.is ∙ ap (λ t. map item.Row f.rows ++ t) (sym (changes_push w before.opened before.position commits write f.from_opening f.within));
          each_once = rw (first_rows_push w before.follows before.opened commits write b) (IsPermutation-trans _ _ _ f.each_once (IsPermutation-append_right f.rows _ _ r));
          follower = λ h. let p = f.follower h in record { scanned = p.scanned; none_remaining = empty_stays w before.remaining remaining r p.none_remaining };
          in_order = ⊎_elim (λ (p : IsPastRows matching before). inl (record { scanned = p.scanned; none_remaining = empty_stays w before.remaining remaining r p.none_remaining })) (λ (p : before.position ≡ before.opened). inr p) f.in_order;
          from_opening = f.from_opening;
          within = omega (arith, f.within, length-append commits (write ∷ []));
          marks = λ front behind n e. listing_push w before.follows before.opened n commits write (without_marks front) (f.marks front behind n e);
        }

  -- nothing given fits a new cursor
  pub fits_new : (commits : List (Write K)) (cursor : CursorState K A) → cursor.opened ≤ length commits → cursor.position ≡ cursor.opened
      → IsPermutation (first_rows cursor.follows (wanted_by matching cursor) cursor.opened commits) cursor.remaining → (cursor.follows ≡ true → IsPastRows matching cursor) → Fits matching commits cursor []
  fits_new commits cursor o p r h = record {
    rows = [];
    is = sym (ap (λ n. changes (wanted_by matching cursor) cursor.opened n commits) p ∙ changes_none (wanted_by matching cursor) cursor.opened commits);
    each_once = r;
    follower = h;
    in_order = inr p;
    from_opening = omega (arith, p);
    within = omega (arith, o, p);
    marks = λ front behind n e. absurd (no_cut front behind n e);
  }
    where
      no_cut : (front behind : List (Item K)) (n : ℕ) → [] ≡ front ++ item.Mark n ∷ behind → ⊥
      no_cut [] behind n e = cc
      no_cut (x ∷ front) behind n e = cc
