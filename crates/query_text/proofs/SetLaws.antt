-- A set is read from its elements, and its text is read as that set.
use Rattle.std.proofs.Common.{◌≡◌, ◌↔◌, ⊎_elim, ℕ, zero, suc, pos, ◌+◌, ◌-◌, ◌*◌, ◌%◌, ◌^◌, ◌<◌, ◌≤◌, min, max, Bool, true, false, ◌==◌, List, [], ◌∷◌, ◌++◌, length, Some, Ok, Err, ap, sym, refl, ◌∙◌, append_assoc, length-append, arith, one-mul, bit_or, pow-suc, w64, FitsSigned, cond}
use Rattle.std.specs.Prelude.{codes, nat_eq}
use Rattle.std.specs.Int.{bit_at}
use Rattle.std.specs.Int.Bits.{or_zero_l, or_zero_r}
use Rattle.std.specs.List.{flat_map, Contains}
use Rattle.std.proofs.lemmas.List.Elements.{Contains-append_left, Contains-append_right, Contains-push, Contains-push_cases, Contains-append_cases}
use Rattle.std.specs.Fmt.{decimal}
use Rattle.std.proofs.lemmas.Fmt.{length-decimal-le}
use Rattle.std.proofs.lemmas.Int.{ints}
use Rattle.std.proofs.lemmas.List.{append-nil}
use Rattle.std.proofs.lemmas.Grind.{flat_map-append}
use Rattle.std.proofs.lemmas.Nat.Bits.{bit_at_or, bit_at-zero, bit_at-lt, bit_at-pow_same, bit_at-pow_other, bit_at_above, bit_at_cat_low, bit_at_cat_high, same_from_bits}
use Rattle.std.proofs.lemmas.Bool.{cases_eq, eq-eqb, ne_eqb, cases_lt, le-leb}
use Rattle.std.proofs.Math.Nat.{mod-eq_of_lt}
use Rattle.std.proofs.Math.Pow.{pow-lt}
use Rattle.set_class.specs.declared.elements.Elements.{Elements}
use Rattle.query_text.specs.declared.lexeme.Kind.{Kind}
use Rattle.query_text.specs.declared.lexeme.Kind.TheVariants as kind
use Rattle.query_text.specs.Tokens.{Placed, at, number, open_brace, close_brace, token_of, starts_with_digit, Cuts}
use Rattle.query_text.specs.Keys.{Reading, ◌>>=◌, is_close_brace, ReadsBack}
use Rattle.query_text.specs.SetTexts.{element_of, elements_at, mask_of, with_elements, set_at, elements_below, spaced, set_text, element_text, is_empty}
use Rattle.query_text.proofs.TextLaws.{cuts_open_brace, cuts_close_brace, cuts_space, cuts_number}

-- reading

or-assoc : (a b c : ℕ) → bit_or (bit_or a b) c ≡ bit_or a (bit_or b c)
or-assoc a b c = same_from_bits _ _ (λ i. omega (arith, bit_at_or (bit_or a b) c i, bit_at_or a b i, bit_at_or a (bit_or b c) i, bit_at_or b c i))

pub shifted : (n : ℕ) → n ≤ 127 → 1 * 2 ^ n % 2 ^ 128 ≡ 2 ^ n
shifted n h =
    let small : 2 ^ n < 2 ^ 128 = let p : n < 128 = omega arith in pow-lt p in
    rw one-mul (mod-eq_of_lt small)

not_close : (k : Kind) (bs : List ℕ) → (k ≡ kind.CloseBrace → ⊥) → is_close_brace (token_of k bs) ≡ false
not_close kind.OpenBracket bs n = refl
not_close kind.CloseBracket bs n = refl
not_close kind.OpenBrace bs n = refl
not_close kind.CloseBrace bs n = absurd (n refl)
not_close kind.Word bs n = refl
not_close kind.Number bs n = refl
not_close kind.Fault bs n = refl

pub reads_close : (mask len place : ℕ) (ts us : List Placed) → ts ≡ at place close_brace ∷ us → with_elements mask (elements_at len ts) ≡ Ok (record { mask = mask }, us)
reads_close mask len place ts us e = rw (e, or_zero_r)

one_more : (mask e : ℕ) (r : Reading (List ℕ)) → with_elements (bit_or mask (2 ^ e)) r ≡ with_elements mask (r >>= λ es. Ok (e ∷ es.0, es.1))
one_more mask e (Ok r) = rw or-assoc
one_more mask e (Err place) = refl

pub reads_element : (mask len e : ℕ) (ts us : List Placed) (place : ℕ) (k : Kind) (bs : List ℕ) → ts ≡ at place (token_of k bs) ∷ us → (k ≡ kind.CloseBrace → ⊥) → Some e ≡ element_of (token_of k bs) → with_elements (bit_or mask (2 ^ e)) (elements_at len us) ≡ with_elements mask (elements_at len ts)
reads_element mask len e ts us place k bs f n s = rw (f, not_close k bs n, sym s) (one_more mask e (elements_at len us))

-- the elements of a set

elements_step : (n : ℕ) (m : ℕ) → elements_below (suc n) m ≡ elements_below n m ++ cond (bit_at m n == 1) (n ∷ []) []
unfolding elements_below
elements_step n m = refl

no_elements : (m : ℕ) → elements_below 0 m ≡ []
unfolding elements_below
no_elements m = refl

-- text

spaced_more : (es : List ℕ) (n : ℕ) → spaced (es ++ n ∷ []) ≡ spaced es ++ element_text n (is_empty es)
spaced_more [] n = append-nil (decimal n)
spaced_more (e ∷ es) n =
    let f : ℕ → List ℕ = λ x. codes " " ++ decimal x in
    ap (λ (x : List ℕ). decimal e ++ x) (flat_map-append f es (n ∷ []) ∙ ap (λ (x : List ℕ). flat_map f es ++ x) (append-nil (f n))) ∙ sym (append_assoc (decimal e) (flat_map f es) (f n))

-- what a number adds to the text of a set: nothing, unless it is an element
abbrev number_text : ℕ → ℕ → Bool → List ℕ
number_text m n is_first = cond (bit_at m n == 1) (element_text n is_first) []

written_more : (n : ℕ) (m : ℕ) → spaced (elements_below (suc n) m) ≡ spaced (elements_below n m) ++ number_text m n (is_empty (elements_below n m))
written_more n m = rw (elements_step n m) (by_test (bit_at m n == 1))
  where
    by_test : (b : Bool) → spaced (elements_below n m ++ cond b (n ∷ []) []) ≡ spaced (elements_below n m) ++ cond b (element_text n (is_empty (elements_below n m))) []
    by_test true = spaced_more (elements_below n m) n
    by_test false = rw (append-nil, append-nil)

-- the text's length

digits_short : (n : ℕ) → n < 128 → length (decimal n) ≤ 1 + (min 1 (n - 9) + min 1 (n - 99))
digits_short n h = ⊎_elim
    (λ (l : n < 10). omega (arith, length-decimal-le 1 n (omega arith) (omega (arith, l)) (omega (arith, h))))
    (λ (l : 10 ≤ n). ⊎_elim
    (λ (k : n < 100). omega (arith, l, length-decimal-le 2 n (omega arith) (omega (arith, k)) (omega (arith, h))))
    (λ (k : 100 ≤ n). omega (arith, k, length-decimal-le 3 n (omega arith) (omega (arith, h)) (omega (arith, h))))
    (cases_lt n 100))
    (cases_lt n 10)

number_short : (m n : ℕ) (is_first : Bool) → length (number_text m n is_first) ≤ cond is_first 0 1 + length (decimal n)
number_short m n is_first = by_test (bit_at m n == 1) is_first
  where
    by_test : (b f : Bool) → length (cond b (cond f (decimal n) (codes " " ++ decimal n)) []) ≤ cond f 0 1 + length (decimal n)
    by_test true true = omega arith
    by_test true false = omega arith
    by_test false f = omega arith

-- elements below 10, 100 and 128 have one, two and three digits, and each but the first a space before it
pub elements_short : (n m : ℕ) → n ≤ 128 → length (spaced (elements_below n m)) ≤ 2 * n + (n - 10) + (n - 100) - 1
elements_short zero m h = rw (no_elements m) (omega arith)
elements_short (suc zero) m h =
    rw (written_more zero m, no_elements m) (omega (arith, number_short m zero true, digits_short zero (omega arith)))
elements_short (suc (suc n)) m h =
    let first = is_empty (elements_below (suc n) m) in
    omega (arith, elements_short (suc n) m (omega (arith, h)), digits_short (suc n) (omega (arith, h)), number_short m (suc n) first, space first, length-append (spaced (elements_below (suc n) m)) (number_text m (suc n) first), ap length (written_more (suc n) m))
  where
    space : (b : Bool) → cond b 0 1 ≤ 1
    space true = omega arith
    space false = omega arith

-- the mask

mask_of-append : (xs ys : List ℕ) → mask_of (xs ++ ys) ≡ bit_or (mask_of xs) (mask_of ys)
mask_of-append [] ys = sym (or_zero_l (mask_of ys))
mask_of-append (x ∷ xs) ys = ap (bit_or (2 ^ x)) (mask_of-append xs ys) ∙ sym (or-assoc (2 ^ x) (mask_of xs) (mask_of ys))

bit_more : (n : ℕ) (m : ℕ) (i : ℕ) (b : Bool) → bit_at (mask_of (elements_below n m ++ cond b (n ∷ []) [])) i ≡ max (bit_at (mask_of (elements_below n m)) i) (cond b (bit_at (2 ^ n) i) 0)
bit_more n m i true =
    let e : mask_of (elements_below n m ++ n ∷ []) ≡ bit_or (mask_of (elements_below n m)) (2 ^ n) = mask_of-append (elements_below n m) (n ∷ []) ∙ ap (bit_or (mask_of (elements_below n m))) (or_zero_r (2 ^ n)) in
    rw e (bit_at_or (mask_of (elements_below n m)) (2 ^ n) i)
bit_more n m i false =
    let e : mask_of (elements_below n m ++ []) ≡ mask_of (elements_below n m) = ap mask_of (append-nil (elements_below n m)) in
    rw e (omega arith)

other_bit : (b : Bool) (n i : ℕ) → (i ≡ n → ⊥) → cond b (bit_at (2 ^ n) i) 0 ≡ 0
other_bit true n i h = bit_at-pow_other n i h
other_bit false n i h = refl

this_bit : (m n : ℕ) → cond (bit_at m n == 1) (bit_at (2 ^ n) n) 0 ≡ bit_at m n
this_bit m n = ⊎_elim
    (λ (e : bit_at m n ≡ 1). rw (eq-eqb (bit_at m n) 1 e, e) (bit_at-pow_same n))
    (λ (h : bit_at m n ≡ 1 → ⊥). let z : bit_at m n ≡ 0 = omega (arith, h, bit_at-lt m n) in rw z refl)
    (cases_eq (bit_at m n) 1)

one_bit_more : (n : ℕ) (m : ℕ) (i : ℕ) → bit_at (mask_of (elements_below (suc n) m)) i ≡ max (bit_at (mask_of (elements_below n m)) i) (cond (bit_at m n == 1) (bit_at (2 ^ n) i) 0)
one_bit_more n m i = rw (elements_step n m) (bit_more n m i (bit_at m n == 1))

bits_above : (n : ℕ) (m : ℕ) (i : ℕ) → n ≤ i → bit_at (mask_of (elements_below n m)) i ≡ 0
bits_above zero m i h = rw (no_elements m) (bit_at-zero i)
bits_above (suc n) m i h =
    let old : bit_at (mask_of (elements_below n m)) i ≡ 0 = bits_above n m i (omega arith) in
    omega (arith, one_bit_more n m i, old, other_bit (bit_at m n == 1) n i (λ e. omega arith))

bits_below : (n : ℕ) (m : ℕ) (i : ℕ) → i < n → bit_at (mask_of (elements_below n m)) i ≡ bit_at m i
bits_below zero m i h = absurd (omega arith)
bits_below (suc n) m i h = ⊎_elim
    (λ (e : i ≡ n).
    let old : bit_at (mask_of (elements_below n m)) i ≡ 0 = bits_above n m i (omega arith) in
    let this : cond (bit_at m n == 1) (bit_at (2 ^ n) i) 0 ≡ bit_at m i = rw (← e) (this_bit m i) in
    omega (arith, one_bit_more n m i, old, this))
    (λ (d : i ≡ n → ⊥).
    let below : i < n = omega (arith, d) in
    let old : bit_at (mask_of (elements_below n m)) i ≡ bit_at m i = bits_below n m i below in
    omega (arith, one_bit_more n m i, old, other_bit (bit_at m n == 1) n i d))
    (cases_eq i n)

pub mask_of_elements : (m : ℕ) → m < 2 ^ 128 → mask_of (elements_below 128 m) ≡ m
mask_of_elements m h = same_from_bits _ _ (λ i. ⊎_elim (λ (l : i < 128). bits_below 128 m i l) (λ (g : 128 ≤ i). bits_above 128 m i g ∙ sym (bit_at_above m 128 i h g)) (cases_lt i 128))

-- the greatest element and the others

same_elements : (n a b : ℕ) → ((i : ℕ) → i < n → bit_at a i ≡ bit_at b i) → elements_below n a ≡ elements_below n b
same_elements zero a b h = no_elements a ∙ sym (no_elements b)
same_elements (suc n) a b h =
    let below : elements_below n a ≡ elements_below n b = same_elements n a b (λ i l. h i (omega (arith, l))) in
    rw (elements_step n a, elements_step n b, below, h n (omega arith)) refl

none_above : (n k m : ℕ) → m < 2 ^ k → elements_below (k + n) m ≡ elements_below k m
none_above zero k m h = let e : k + zero ≡ k = omega arith in rw e refl
none_above (suc n) k m h =
    let e : k + suc n ≡ suc (k + n) = omega arith in
    let none : bit_at m (k + n) ≡ 0 = bit_at_above m k (k + n) h (omega arith) in
    rw (e, elements_step (k + n) m, none, append-nil) (none_above n k m h)

all_elements : (k m : ℕ) → m < 2 ^ k → k ≤ 128 → elements_below 128 m ≡ elements_below k m
all_elements k m h l =
    let e : 128 ≡ k + (128 - k) = omega (arith, l) in
    rw e (none_above (128 - k) k m h)

greatest_of_sum : (e rest : ℕ) → e ≤ 127 → rest < 2 ^ e → elements_below 128 (1 * 2 ^ e + rest) ≡ elements_below 128 rest ++ e ∷ []
greatest_of_sum e rest small low =
    let m = 1 * 2 ^ e + rest in
    let none : e - e ≡ 0 = omega arith in
    let high : m < 2 ^ suc e = omega (arith, low, pow-suc 2 e) in
    let top : bit_at m e ≡ 1 = bit_at_cat_high 1 e rest e low (omega arith) ∙ rw none refl in
    let below : elements_below e m ≡ elements_below e rest = same_elements e m rest (λ i l. bit_at_cat_low 1 e rest i l) in
    all_elements (suc e) m high (omega (arith, small)) ∙ rw (elements_step e m, top, below, all_elements e rest low (omega (arith, small))) refl

greatest_last : (m e : ℕ) → e ≤ 127 → 2 ^ e ≤ m → m < 2 ^ suc e → elements_below 128 m ≡ elements_below 128 (m - 2 ^ e) ++ e ∷ []
greatest_last m e small low high =
    let parted : m ≡ 1 * 2 ^ e + (m - 2 ^ e) = omega (arith, low) in
    ap (elements_below 128) parted ∙ greatest_of_sum e (m - 2 ^ e) small (omega (arith, low, high, pow-suc 2 e))

pub no_elements_of_zero : elements_below 128 0 ≡ []
no_elements_of_zero = all_elements 0 0 (omega arith) (omega arith) ∙ no_elements 0

has_some : (es : List ℕ) → 0 < mask_of es → is_empty es ≡ false
has_some [] h = absurd (omega (arith, h))
has_some (e ∷ es) h = refl

-- an element is the first of its set where the set has no others
is_first : (rest : ℕ) → rest < 2 ^ 128 → is_empty (elements_below 128 rest) ≡ nat_eq rest 0
is_first rest h = ⊎_elim
    (λ (e : rest ≡ 0). rw (e, no_elements_of_zero) refl)
    (λ (n : rest ≡ 0 → ⊥). has_some (elements_below 128 rest) (rw (mask_of_elements rest h) (omega (arith, n))) ∙ sym (ne_eqb rest 0 n))
    (cases_eq rest 0)

-- the text of a set's elements ends with the greatest
pub text_ends : (mask e : ℕ) → e ≤ 127 → 2 ^ e ≤ mask → mask < 2 ^ suc e → mask < 2 ^ 128 → spaced (elements_below 128 mask) ≡ spaced (elements_below 128 (mask - 2 ^ e)) ++ element_text e (nat_eq (mask - 2 ^ e) 0)
text_ends mask e small low high fits =
    let rest = mask - 2 ^ e in
    let spaces = spaced_more (elements_below 128 rest) e in
    ap spaced (greatest_last mask e small low high) ∙ rw (← is_first rest (omega (arith, fits))) spaces

-- reading the text back

abbrev IsSmall : List ℕ → Type 0
IsSmall [] = Unit {0}
IsSmall (e ∷ es) = (e ≤ 127) × IsSmall es

small-append : (es : List ℕ) (n : ℕ) → IsSmall es → n ≤ 127 → IsSmall (es ++ n ∷ [])
small-append [] n h k = (k, tt)
small-append (e ∷ es) n h k = (h.0, small-append es n h.1 k)

small_below : (n : ℕ) (m : ℕ) → n ≤ 128 → IsSmall (elements_below n m)
small_below zero m h = rw (no_elements m) tt
small_below (suc n) m h = rw (elements_step n m) (by_test (bit_at m n == 1) (small_below n m (omega arith)))
  where
    by_test : (b : Bool) → IsSmall (elements_below n m) → IsSmall (elements_below n m ++ cond b (n ∷ []) [])
    by_test true s = small-append (elements_below n m) n s (omega arith)
    by_test false s = rw append-nil s

abbrev others : List ℕ → List ℕ
others es = flat_map (λ f. codes " " ++ decimal f) es

no_digit_next : (es bytes : List ℕ) → starts_with_digit (others es ++ (125 ∷ bytes)) ≡ false
no_digit_next [] bytes = refl
no_digit_next (e ∷ es) bytes = refl

element_read : (len place e : ℕ) (ts us : List Placed) (es : List ℕ) → e ≤ 127 → elements_at len ts ≡ Ok (es, us) → elements_at len (at place (number (pos e)) ∷ ts) ≡ Ok (e ∷ es, us)
element_read len place e ts us es h r =
    rw (le-leb 0 e (omega arith), le-leb e 127 h, r) refl

-- elements behind the first, and the closing brace
others_read : (es : List ℕ) → IsSmall es → (len place : ℕ) (bytes : List ℕ) (ts : List Placed) → Cuts false (place + (length (others es) + 1)) bytes ts → (us : List Placed) × Cuts true place (others es ++ (125 ∷ bytes)) us × (elements_at len us ≡ Ok (es, ts))
others_read [] s len place bytes ts c = (at place close_brace ∷ ts, cuts_close_brace true place bytes ts c, refl)
others_read (e ∷ es) s len place bytes ts c =
    let next = place + 1 + length (decimal e) in
    let end : place + (length (others (e ∷ es)) + 1) ≡ next + (length (others es) + 1) = simp length-append (omega arith) in
    let more = others_read es s.1 len next bytes ts (rw end at c) in
    let small : e ≤ 127 = s.0 in
    let fits : FitsSigned w64 (pos e) = omega (arith, ints) in
    let text : (decimal e ++ others es) ++ (125 ∷ bytes) ≡ decimal e ++ (others es ++ (125 ∷ bytes)) = append_assoc (decimal e) (others es) (125 ∷ bytes) in
    let all = cuts_space true place _ _ (cuts_number (pos e) fits (place + 1) (others es ++ (125 ∷ bytes)) more.0 (no_digit_next es bytes) more.1) in
    (at (place + 1) (number (pos e)) ∷ more.0, rw text all, element_read len (place + 1) e more.0 ts es s.0 more.2)

-- elements and the closing brace
spaced_read : (es : List ℕ) → IsSmall es → (len place : ℕ) (bytes : List ℕ) (ts : List Placed) → Cuts false (place + (length (spaced es) + 1)) bytes ts → (us : List Placed) × Cuts false place (spaced es ++ (125 ∷ bytes)) us × (elements_at len us ≡ Ok (es, ts))
spaced_read [] s len place bytes ts c = (at place close_brace ∷ ts, cuts_close_brace false place bytes ts c, refl)
spaced_read (e ∷ es) s len place bytes ts c =
    let next = place + length (decimal e) in
    let end : place + (length (spaced (e ∷ es)) + 1) ≡ next + (length (others es) + 1) = simp length-append (omega arith) in
    let more = others_read es s.1 len next bytes ts (rw end at c) in
    let small : e ≤ 127 = s.0 in
    let fits : FitsSigned w64 (pos e) = omega (arith, ints) in
    let text : (decimal e ++ others es) ++ (125 ∷ bytes) ≡ decimal e ++ (others es ++ (125 ∷ bytes)) = append_assoc (decimal e) (others es) (125 ∷ bytes) in
    let all = cuts_number (pos e) fits place (others es ++ (125 ∷ bytes)) more.0 (no_digit_next es bytes) more.1 in
    (at place (number (pos e)) ∷ more.0, rw text all, element_read len place e more.0 ts es s.0 more.2)

set_at_is : (k : Elements) → k.mask < 2 ^ 128 → (len place : ℕ) (us ts : List Placed) → elements_at len us ≡ Ok (elements_below 128 k.mask, ts) → set_at len (at place open_brace ∷ us) ≡ Ok (k, ts)
unfolding set_at
set_at_is k h len place us ts e = rw (e, or_zero_l, mask_of_elements k.mask h)

pub set_reads_back : (k : Elements) → k.mask < 2 ^ 128 → ReadsBack set_at (set_text k) k
set_reads_back k h len place glued bytes ts c =
    let es = elements_below 128 k.mask in
    let end : place + length (set_text k) ≡ place + 1 + (length (spaced es) + 1) = simp length-append (omega arith) in
    let inner = spaced_read es (small_below 128 k.mask (omega arith)) len (place + 1) bytes ts (rw end at c) in
    let text : (spaced es ++ (125 ∷ [])) ++ bytes ≡ spaced es ++ (125 ∷ bytes) = append_assoc (spaced es) (125 ∷ []) bytes in
    (at place open_brace ∷ inner.0, rw text (cuts_open_brace glued place _ _ inner.1), set_at_is k h len place inner.0 ts inner.2)

-- the elements of a mask

contains_nothing : (e : ℕ) → Contains [] e → ⊥
contains_nothing e c = absurd (omega (arith, c.1))

mask_contains : (es : List ℕ) (e : ℕ) → bit_at (mask_of es) e ≡ 1 → Contains es e
mask_contains [] e h = absurd (omega (arith, bit_at-zero e, h))
mask_contains (x ∷ xs) e h = ⊎_elim
    (λ (q : e ≡ x). rw q (Contains-append_left (x ∷ []) xs x (Contains-push [] x)))
    (λ (n : e ≡ x → ⊥).
    let rest : bit_at (mask_of xs) e ≡ 1 = omega (arith, bit_at_or (2 ^ x) (mask_of xs) e, bit_at-pow_other x e n, h) in
    Contains-append_right (x ∷ []) xs e (mask_contains xs e rest))
    (cases_eq e x)

contains_in_mask : (es : List ℕ) (e : ℕ) → Contains es e → bit_at (mask_of es) e ≡ 1
contains_in_mask [] e c = absurd (contains_nothing e c)
contains_in_mask (x ∷ xs) e c = ⊎_elim
    (λ (l : Contains (x ∷ []) e). ⊎_elim
    (λ (no : Contains [] e). absurd (contains_nothing e no))
    (λ (q : x ≡ e).
    let own_bit : bit_at (2 ^ x) e ≡ 1 = rw (← q) (bit_at-pow_same x) in
    omega (arith, bit_at_or (2 ^ x) (mask_of xs) e, bit_at-lt (mask_of xs) e, own_bit))
    (Contains-push_cases [] x e l))
    (λ (r : Contains xs e).
    let rest : bit_at (mask_of xs) e ≡ 1 = contains_in_mask xs e r in
    omega (arith, bit_at_or (2 ^ x) (mask_of xs) e, bit_at-lt (2 ^ x) e, rest))
    (Contains-append_cases (x ∷ []) xs e c)

pub mask_means : (es : List ℕ) (e : ℕ) → (bit_at (mask_of es) e ≡ 1) ↔ Contains es e
mask_means es e = (mask_contains es e, contains_in_mask es e)

pub elements_mean : (n m e : ℕ) → Contains (elements_below n m) e ↔ ((e < n) × (bit_at m e ≡ 1))
elements_mean n m e = (
  λ c.
      let bit = contains_in_mask (elements_below n m) e c in
      ⊎_elim
      (λ (l : e < n). (l, sym (bits_below n m e l) ∙ bit))
      (λ (g : n ≤ e). absurd (omega (arith, bits_above n m e g, bit)))
      (cases_lt e n),
  λ p. mask_contains (elements_below n m) e (bits_below n m e p.0 ∙ p.1),
)
