-- Values that pass a test close up, and the others are passed by.
use Rattle.std.proofs.Common.{◌≡◌, ◌∙◌, ◌≤◌, ◌<◌, ◌+◌, ◌-◌, ◌*◌, ◌/◌, ◌%◌, ◌^◌, ℕ, zero, suc, Bool, true, false, not, List, [], ◌∷◌, ◌++◌, length, take, drop, set, get_or, map, filter, refl, sym, ap, ap₂, subst, arith, w64, div-one, ⊎_elim, lt_of_lt_of_le}
use Rattle.std.specs.Prelude.{cond}
use Rattle.std.specs.Int.{trailing_zeros}
use Rattle.std.proofs.lemmas.Bool.{cases_lt}
use Rattle.std.proofs.lemmas.List.{append-nil, drop_all, drop_at, drop-drop, drop-set-lt, drop-take, append_assoc, get_or-drop, get_or-take, length-drop, length-set, length-take, take_all, take_at, take-map, take-take, take_more_set, take-append-drop}
use Rattle.std.proofs.lemmas.List.Elements.{filter-append}
use Rattle.std.proofs.lemmas.Nat.{shr-shr}
use Rattle.std.proofs.Math.Nat.{pow-le-pow_right}
use Rattle.key_class.specs.Bits.{bits_of}
use Rattle.blocks.specs.Firsts.{passes_at, IsFirstFrom, NonePassFrom}
use Rattle.blocks.specs.Values.{values_of}
use Rattle.blocks.proofs.Eights.{bits_below, bits_of_first}
use Rattle.blocks.proofs.Passing.{first_by_bits}

module _ {X : Type 0} (p : X → Bool) where
  -- a test and its opposite have each bit once
  pub opposite : (xs : List X) → bits_of p xs + bits_of (λ x. not (p x)) xs + 1 ≡ 2 ^ length xs
  opposite [] = refl
  opposite (x ∷ xs) = one (p x) (bits_of p xs) (bits_of (λ y. not (p y)) xs) (2 ^ length xs) (opposite xs) ∙ double (length xs)
    where
      one : (b : Bool) (m n k : ℕ) → m + n + 1 ≡ k → cond b 1 0 + 2 * m + (cond (not b) 1 0 + 2 * n) + 1 ≡ 2 * k
      one true m n k e = omega (arith, e)
      one false m n k e = omega (arith, e)

      double : (n : ℕ) → 2 * 2 ^ n ≡ 2 ^ suc n
      double n = grind arith

  none_behind : (n : ℕ) → 0 / 2 ^ n ≡ 0
  none_behind n = grind arith

  -- the bits from a place on are those of the values there
  pub bits_behind : (n : ℕ) (xs : List X) → bits_of p xs / 2 ^ n ≡ bits_of p (drop n xs)
  bits_behind zero xs = div-one (bits_of p xs)
  bits_behind (suc n) [] = none_behind (suc n)
  bits_behind (suc n) (x ∷ xs) =
      ap (λ k. bits_of p (x ∷ xs) / 2 ^ k) (let e : suc n ≡ 1 + n = omega arith in e)
      ∙ sym (shr-shr (bits_of p (x ∷ xs)) 1 n)
      ∙ ap (λ m. m / 2 ^ n) (half (p x) (bits_of p xs))
      ∙ bits_behind n xs
    where
      half : (b : Bool) (m : ℕ) → (cond b 1 0 + 2 * m) / 2 ^ 1 ≡ m
      half true m = omega arith
      half false m = omega arith

  -- the bits of a beginning, however long
  pub bits_of_taken : (n : ℕ) (xs : List X) → bits_of p xs % 2 ^ n ≡ bits_of p (take n xs)
  bits_of_taken n xs =
      ⊎_elim
      (λ (l : n < length xs). bits_of_first p n xs (omega (arith, l)))
      (λ (l : length xs ≤ n). small (lt_of_lt_of_le (bits_below p xs (length xs) refl) (pow-le-pow_right (omega arith) l)) ∙ ap (bits_of p) (sym (take_all n xs l)))
      (cases_lt n (length xs))
    where
      small : bits_of p xs < 2 ^ n → bits_of p xs % 2 ^ n ≡ bits_of p xs
      small l = grind (arith, l)

  none_kept : (xs : List X) → bits_of p xs ≡ 0 → filter p xs ≡ []
  none_kept [] e = refl
  none_kept (x ∷ xs) e = by (p x) e ∙ none_kept xs (omega (arith, e))
    where
      by : (b : Bool) → cond b 1 0 + 2 * bits_of p xs ≡ 0 → cond b (x ∷ filter p xs) (filter p xs) ≡ filter p xs
      by true h = absurd (omega (arith, h))
      by false h = refl

  -- the first that passes is the first that is kept
  first_kept : (xs : List X) (t : ℕ) (x : X) → IsFirstFrom p xs 0 t → x ≡ get_or xs t x → filter p xs ≡ x ∷ filter p (drop (t + 1) xs)
  first_kept [] t x first e = absurd (omega (arith, first.within))
  first_kept (y ∷ ys) zero x first e = ap (λ b. cond b (y ∷ filter p ys) (filter p ys)) first.passes ∙ ap (λ z. z ∷ filter p ys) (sym e)
  first_kept (y ∷ ys) (suc t) x first e =
      ap (λ b. cond b (y ∷ filter p ys) (filter p ys)) (first.none_before 0 (omega arith) (omega arith))
      ∙ first_kept ys t x
      (record {
        behind = omega arith;
        within = omega (arith, first.within);
        passes = first.passes;
        none_before = λ k l h. first.none_before (suc k) (omega arith) (omega (arith, h));
      }) e
      ∙ ap (λ n. x ∷ filter p (drop n (y ∷ ys))) (let z : suc (t + 1) ≡ suc t + 1 = omega arith in z)

  -- What is kept of `old` so far stands before a place of `now`, and from another place on all is as it was.
  pub record IsClosedUp (old now : List X) (kept place : ℕ) : Type 0 where
    pub behind : kept ≤ place
    pub len : length now ≡ length old
    pub rest : drop place now ≡ drop place old
    pub filtered : take kept now ++ filter p (drop place old) ≡ filter p old

  module _ (old now : List X) (kept place : ℕ) (is : IsClosedUp old now kept place) where
    -- the bits of the values from the place on to the end of its block, of which some are left
    module _ (room bits : ℕ) (few : room ≤ 64) (told : bits ≡ bits_of p (take room (drop place old))) (next : ℕ) where
      abbrev there : List X
      there = drop place old

      abbrev here : List X
      here = take room there

      pub none_left : bits ≡ 0 → next ≡ place + room → IsClosedUp old now kept next
      none_left none e =
          subst (IsClosedUp old now kept) (sym e)
          (record {
            behind = omega (arith, is.behind);
            len = is.len;
            rest = sym (drop-drop room place now) ∙ ap (drop room) is.rest ∙ drop-drop room place old;
            filtered = ap (λ xs. take kept now ++ filter p xs) (sym (drop-drop room place old))
                ∙ ap (λ xs. take kept now ++ (xs ++ filter p (drop room there))) (sym (none_kept here (sym told ∙ none)))
                ∙ ap (λ xs. take kept now ++ xs) (sym (filter-append p here (drop room there)))
                ∙ ap (λ xs. take kept now ++ filter p xs) (take-append-drop room there)
                ∙ is.filtered;
          })

      module _ (some : 0 < bits) where
        abbrev t : ℕ
        t = trailing_zeros w64 bits

        first : IsFirstFrom p here 0 t
        first =
            let whole : bits_of p here / 2 ^ 0 ≡ bits = div-one (bits_of p here) ∙ sym told in
            let at : 0 + trailing_zeros w64 (bits_of p here / 2 ^ 0) ≡ t = omega (arith, ap (trailing_zeros w64) whole) in
            subst (IsFirstFrom p here 0) at (first_by_bits p here (omega (arith, length-take room there, few)) 0 (omega (arith, whole, some)))

        pub next_within : (t < room) × (place + t < length now)
        next_within = (omega (arith, first.within, length-take room there), omega (arith, first.within, length-take room there, length-drop place old, is.len))

        at : (k : ℕ) → k < room → passes_at p here k ≡ passes_at p there k
        at k l = ap (λ bs. get_or bs k false) (sym (take-map p room there)) ∙ get_or-take room (map p there) k false l

        first_there : IsFirstFrom p there 0 t
        first_there = record {
          behind = omega arith;
          within = omega (arith, first.within, length-take room there);
          passes = sym (at t next_within.0) ∙ first.passes;
          none_before = λ k l h. sym (at k (omega (arith, h, next_within.0))) ∙ first.none_before k l h;
        }

        module _ (e : next ≡ place + t + 1) where
          behind_it : drop next old ≡ drop (t + 1) there
          behind_it = ap (λ n. drop n old) (let same : next ≡ place + (t + 1) = omega (arith, e) in same) ∙ sym (drop-drop (t + 1) place old)

          pub one_kept : (x : X) → x ≡ get_or now (place + t) x → IsClosedUp old (set now kept x) (kept + 1) next
          one_kept x is_x =
              let read : x ≡ get_or there t x = is_x ∙ sym (get_or-drop place now t x) ∙ ap (λ xs. get_or xs t x) is.rest in record {
                behind = omega (arith, is.behind, e);
                len = length-set now kept x ∙ is.len;
                rest = drop-set-lt next now kept x (omega (arith, is.behind, e))
                    ∙ ap (λ n. drop n now) (let same : next ≡ place + (t + 1) = omega (arith, e) in same)
                    ∙ sym (drop-drop (t + 1) place now)
                    ∙ ap (drop (t + 1)) is.rest
                    ∙ sym behind_it;
                filtered = ap₂ (λ xs ys. xs ++ filter p ys) (take_more_set now kept x (omega (arith, is.behind, next_within.1))) behind_it
                    ∙ append_assoc (take kept now) (x ∷ []) (filter p (drop (t + 1) there))
                    ∙ ap (λ xs. take kept now ++ xs) (sym (first_kept there t x first_there read))
                    ∙ is.filtered;
              }

          pub next_told : bits / 2 ^ t / 2 ≡ bits_of p (take (room - (t + 1)) (drop next old))
          next_told =
              ap (λ n. n / 2 ^ t / 2) told
              ∙ shr-shr (bits_of p here) t 1
              ∙ bits_behind (t + 1) here
              ∙ ap (λ n. bits_of p (drop (t + 1) (take n there))) (let parts : room ≡ t + 1 + (room - (t + 1)) = omega (arith, next_within.0) in parts)
              ∙ ap (bits_of p) (drop-take (t + 1) (room - (t + 1)) there)
              ∙ ap (λ xs. bits_of p (take (room - (t + 1)) xs)) (sym behind_it)

-- Those that pass are removed, and before the first that does nothing changes.
module _ {X : Type 0} (q : X → Bool) where
  abbrev stays : X → Bool
  stays x = not (q x)

  begin : (xs : List X) (n : ℕ) → ((k : ℕ) → k < n → passes_at q xs k ≡ false) → take n xs ++ filter stays (drop n xs) ≡ filter stays xs
  begin xs zero none = refl
  begin [] (suc n) none = refl
  begin (x ∷ xs) (suc n) none =
      ap (λ ys. x ∷ ys) (begin xs n (λ k l. none (suc k) (omega (arith, l))))
      ∙ ap (λ b. cond (not b) (x ∷ filter stays xs) (filter stays xs)) (sym (none 0 (omega arith)))

  pub until_first : (xs : List X) (first place : ℕ) → IsFirstFrom q xs 0 first → place ≡ first → IsClosedUp stays xs xs first place
  until_first xs first place is e =
      subst (IsClosedUp stays xs xs first) (sym e)
      (record {
        behind = omega arith;
        len = refl;
        rest = refl;
        filtered = begin xs first (λ k l. is.none_before k (omega arith) l);
      })

  pub all_stay : (xs : List X) → NonePassFrom q xs 0 → xs ≡ filter stays xs
  all_stay xs none =
      sym (append-nil xs)
      ∙ ap₂ (λ ys zs. ys ++ filter stays zs) (sym (take_all (length xs) xs (omega arith))) (sym (drop_all (length xs) xs (omega arith)))
      ∙ begin xs (length xs) (λ k l. none k (omega arith))

module _ {B X : Type 0} (items : B → List X) (eight : (b : B) → length (items b) ≡ 8) where
  from_block : (bs : List B) (q : ℕ) (b : B) → q < length bs → b ≡ get_or bs q b → drop (8 * q) (values_of items bs) ≡ items b ++ values_of items (drop (q + 1) bs)
  from_block [] q b l e = absurd (omega (arith, l))
  from_block (c ∷ bs) zero b l e = ap (λ z. items z ++ values_of items bs) (sym e)
  from_block (c ∷ bs) (suc q) b l e =
      ap (λ n. drop n (items c ++ values_of items bs)) (let z : 8 * suc q ≡ 8 + 8 * q = omega arith in z)
      ∙ sym (drop-drop (8 * q) 8 (items c ++ values_of items bs))
      ∙ ap (drop (8 * q)) (drop_at (items c) (values_of items bs) 8 (eight c))
      ∙ from_block bs q b (omega (arith, l)) e
      ∙ ap (λ n. items b ++ values_of items (drop n (c ∷ bs))) (let z : suc (q + 1) ≡ suc q + 1 = omega arith in z)

  takes : (m n : ℕ) (xs : List X) → take m (take n xs) ≡ take n (take m xs)
  takes m n xs =
      ⊎_elim
      (λ (l : m < n). take-take m n xs (omega (arith, l)) ∙ sym (take_all n (take m xs) (omega (arith, l, length-take m xs))))
      (λ (l : n ≤ m). take_all m (take n xs) (omega (arith, l, length-take n xs)) ∙ sym (take-take n m xs l))
      (cases_lt m n)

  -- what a block has of the first values
  pub block_taken : (bs : List B) (n q : ℕ) (b : B) → q < length bs → b ≡ get_or bs q b → 8 * q < n → take (n - 8 * q) (items b) ≡ take 8 (drop (8 * q) (take n (values_of items bs)))
  block_taken bs n q b l e some =
      let k = n - 8 * q in
      ap (take k) (sym (take_at (items b) (values_of items (drop (q + 1) bs)) 8 (eight b)))
      ∙ takes k 8 (items b ++ values_of items (drop (q + 1) bs))
      ∙ ap (λ xs. take 8 (take k xs)) (sym (from_block bs q b l e))
      ∙ ap (take 8) (sym (drop-take (8 * q) k (values_of items bs)))
      ∙ ap (λ m. take 8 (drop (8 * q) (take m (values_of items bs)))) (let z : 8 * q + (n - 8 * q) ≡ n = omega (arith, some) in z)
