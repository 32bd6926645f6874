-- Texts that are cut back into the tokens that they were written from.
use Rattle.std.proofs.Common.{◌≡◌, ℕ, suc, ℤ, pos, negsuc, neg_ℤ, ◌+◌, ◌^◌, ◌<◌, ◌≤◌, Bool, true, false, ◌&&◌, ◌==◌, List, [], ◌∷◌, ◌++◌, length, take, drop, ap, sym, ◌∙◌, refl, arith, rules, one-add, add_assoc, lit<, Ok, w64, FitsSigned}
use Rattle.std.specs.Prelude.{take_while, int_le}
use Rattle.std.specs.Str.{all_ascii_digits}
use Rattle.std.specs.Fmt.{decimal, signed_decimal}
use Rattle.std.proofs.lemmas.Str.Parse.{IsNumeralModel, numerals_by_fold}
use Rattle.std.proofs.lemmas.Fmt.{digits_decimal, digits_value-decimal, decimal_nonempty}
use Rattle.std.proofs.lemmas.List.Folds.{length-prefix_len}
use Rattle.std.proofs.lemmas.Bool.{and_parts, false_from_ne_true, leb-true}
use Rattle.std.proofs.lemmas.Bool.Decides.{Decides-eqb}
use Rattle.std.proofs.Math.Seq.{drop-append_seam}
use Rattle.std.proofs.lemmas.Int.{ints}
use Rattle.query_text.specs.Keys.{number_at}
use Rattle.query_text.specs.Tokens.{Placed, at, number, open_bracket, close_bracket, open_brace, close_brace, is_letter, is_digit, number_value, decimal_value_after, starts_with_digit, begins, beginning, least_i64, most_i64, Cuts, cut_space, cut_token}

own : IsNumeralModel (λ ds. all_ascii_digits ds ≡ true) (decimal_value_after 0)
own = numerals_by_fold _ (search rules) decimal_value_after (search rules)

unequal : (a b : ℕ) → (a ≡ b → ⊥) → (a == b) ≡ false
unequal a b n = false_from_ne_true (a == b) (λ h. n ((Decides-eqb a b).0 h))

-- digits are taken up to the first byte that is none
digits_taken : (ds rest : List ℕ) → all_ascii_digits ds ≡ true → starts_with_digit rest ≡ false → take_while is_digit (ds ++ rest) ≡ ds
digits_taken [] [] h k = refl
digits_taken [] (r ∷ rs) h k = rw k refl
digits_taken (d ∷ ds) rest h k =
    let p = and_parts (is_digit d) (all_ascii_digits ds) h in
    rw (p.0, one-add) (ap (λ (x : List ℕ). d ∷ x) (digits_taken ds rest p.1 k))

starts_digits : (ds rest : List ℕ) → all_ascii_digits ds ≡ true → 0 < length ds → starts_with_digit (ds ++ rest) ≡ true
starts_digits [] rest h n = absurd (omega arith)
starts_digits (d ∷ ds) rest h n = (and_parts (is_digit d) (all_ascii_digits ds) h).0

-- a digit begins nothing but a number

digit_ends : (d : ℕ) → is_digit d ≡ true → (48 ≤ d) × (d ≤ 57)
digit_ends d h = let p = and_parts _ _ h in (leb-true 48 d p.0, leb-true d 57 p.1)

digit_is_no : (d b : ℕ) → is_digit d ≡ true → b < 48 → (d == b) ≡ false
digit_is_no d b h l = let e = digit_ends d h in unequal d b (λ q. let r : 48 ≤ b = rw q at e.0 in omega arith)

digit_is_no_brace : (d b : ℕ) → is_digit d ≡ true → 57 < b → (d == b) ≡ false
digit_is_no_brace d b h l = let e = digit_ends d h in unequal d b (λ q. let r : b ≤ 57 = rw q at e.1 in omega arith)

digit_is_no_letter : (d : ℕ) → is_digit d ≡ true → is_letter d ≡ false
digit_is_no_letter d h =
    let e = digit_ends d h in
    false_from_ne_true (is_letter d) (λ q. let r = leb-true 97 d (and_parts _ _ q).0 in omega (arith, e, r))

-- so many bytes as there are digits in front are those digits
taken : (bs : List ℕ) → take (length (take_while is_digit bs)) bs ≡ take_while is_digit bs
taken bs = rw (length-prefix_len is_digit bs) refl

-- a digit begins a number, up to where the digits end
pub digit_begins : (bs : List ℕ) → starts_with_digit bs ≡ true → beginning bs ≡ begins (number (number_value (take (1 + length (take_while is_digit (drop 1 bs))) bs))) (1 + length (take_while is_digit (drop 1 bs)))
digit_begins [] h = cc
digit_begins (d ∷ ds) h =
    let front : take (1 + length (take_while is_digit ds)) (d ∷ ds) ≡ d ∷ take_while is_digit ds = rw one-add (ap (λ (x : List ℕ). d ∷ x) (taken ds)) in
    let size : 1 + length (take_while is_digit ds) ≡ length (d ∷ take_while is_digit ds) = omega arith in
    rw (front, size, digit_is_no d 32 h (lit< tt), digit_is_no d 40 h (lit< tt), digit_is_no d 41 h (lit< tt), digit_is_no_brace d 123 h (lit< tt), digit_is_no_brace d 125 h (lit< tt), digit_is_no_letter d h, h) refl

digits_begin : (ds rest : List ℕ) → all_ascii_digits ds ≡ true → 0 < length ds → starts_with_digit rest ≡ false → beginning (ds ++ rest) ≡ begins (number (pos (decimal_value_after 0 ds))) (length ds)
digits_begin [] rest h n k = absurd (omega arith)
digits_begin (d ∷ ds) rest h n k =
    let p = and_parts (is_digit d) (all_ascii_digits ds) h in
    let minus = digit_is_no d 45 p.0 (lit< tt) in
    rw (digit_is_no d 32 p.0 (lit< tt), digit_is_no d 40 p.0 (lit< tt), digit_is_no d 41 p.0 (lit< tt), digit_is_no_brace d 123 p.0 (lit< tt), digit_is_no_brace d 125 p.0 (lit< tt), digit_is_no_letter d p.0, p.0, digits_taken ds rest p.1 k, minus) refl

minus_begins : (ds rest : List ℕ) → all_ascii_digits ds ≡ true → 0 < length ds → starts_with_digit rest ≡ false → beginning (45 ∷ (ds ++ rest)) ≡ begins (number (neg_ℤ (pos (decimal_value_after 0 ds)))) (suc (length ds))
minus_begins ds rest h n k = rw (starts_digits ds rest h n, digits_taken ds rest h k) refl

-- a number that was written is read
pub number_begins : (z : ℤ) → FitsSigned w64 z → (rest : List ℕ) → starts_with_digit rest ≡ false → beginning (signed_decimal z ++ rest) ≡ begins (number z) (length (signed_decimal z))
number_begins (pos n) f rest k =
    let small : n < 2 ^ 64 = omega (arith, ints) in
    let value : decimal_value_after 0 (decimal n) ≡ n = digits_value-decimal own n small in
    digits_begin (decimal n) rest (digits_decimal own n small) (decimal_nonempty n small) k ∙ ap (λ v. begins (number (pos v)) (length (decimal n))) value
number_begins (negsuc n) f rest k =
    let small : suc n < 2 ^ 64 = omega (arith, ints) in
    let value : decimal_value_after 0 (decimal (suc n)) ≡ suc n = digits_value-decimal own (suc n) small in
    minus_begins (decimal (suc n)) rest (digits_decimal own (suc n) small) (decimal_nonempty (suc n) small) k ∙ ap (λ v. begins (number (neg_ℤ (pos v))) (suc (length (decimal (suc n))))) value

-- one token before others, where a word or a number stands before it or not

pub cuts_number : (z : ℤ) → FitsSigned w64 z → (place : ℕ) (rest : List ℕ) (ts : List Placed) → starts_with_digit rest ≡ false → Cuts true (place + length (signed_decimal z)) rest ts → Cuts false place (signed_decimal z ++ rest) (at place (number z) ∷ ts)
cuts_number z f place rest ts k c =
    let left : drop (length (signed_decimal z)) (signed_decimal z ++ rest) ≡ rest = drop-append_seam (signed_decimal z) rest in
    cut_token (number_begins z f rest k) refl (rw left c)

pub and_false : (b : Bool) → b && false ≡ false
and_false true = refl
and_false false = refl

pub cuts_open : (glued : Bool) (place : ℕ) (rest : List ℕ) (ts : List Placed) → Cuts false (place + 1) rest ts → Cuts glued place (40 ∷ rest) (at place open_bracket ∷ ts)
cuts_open glued place rest ts c = cut_token refl (and_false glued) c

pub cuts_close : (glued : Bool) (place : ℕ) (rest : List ℕ) (ts : List Placed) → Cuts false (place + 1) rest ts → Cuts glued place (41 ∷ rest) (at place close_bracket ∷ ts)
cuts_close glued place rest ts c = cut_token refl (and_false glued) c

pub cuts_open_brace : (glued : Bool) (place : ℕ) (rest : List ℕ) (ts : List Placed) → Cuts false (place + 1) rest ts → Cuts glued place (123 ∷ rest) (at place open_brace ∷ ts)
cuts_open_brace glued place rest ts c = cut_token refl (and_false glued) c

pub cuts_close_brace : (glued : Bool) (place : ℕ) (rest : List ℕ) (ts : List Placed) → Cuts false (place + 1) rest ts → Cuts glued place (125 ∷ rest) (at place close_brace ∷ ts)
cuts_close_brace glued place rest ts c = cut_token refl (and_false glued) c

pub cuts_space : (glued : Bool) (place : ℕ) (rest : List ℕ) (ts : List Placed) → Cuts false (place + 1) rest ts → Cuts glued place (32 ∷ rest) ts
cuts_space glued place rest ts c = cut_space refl c

-- a number and the space behind it
pub cuts_number_space : (z : ℤ) → FitsSigned w64 z → (place : ℕ) (rest : List ℕ) (ts : List Placed) → Cuts false (place + (length (signed_decimal z) + 1)) rest ts → Cuts false place (signed_decimal z ++ (32 ∷ rest)) (at place (number z) ∷ ts)
cuts_number_space z f place rest ts c =
    cuts_number z f place (32 ∷ rest) ts refl (cuts_space true (place + length (signed_decimal z)) rest ts (rw (sym (add_assoc place (length (signed_decimal z)) 1)) at c))

-- a number in its range is read
pub number_read : (least most z : ℤ) (len place : ℕ) (ts : List Placed) → int_le least z && int_le z most ≡ true → number_at least most len (at place (number z) ∷ ts) ≡ Ok (z, ts)
number_read least most z len place ts h = rw h refl

pub fits_64 : (z : ℤ) → FitsSigned w64 z → int_le least_i64 z && int_le z most_i64 ≡ true
fits_64 z f = grind (arith, ints)
