-- Numbers are cut where digits stand, and the place goes on behind them.
use Rattle.std.proofs.Common.{◌≡◌, ℕ, ◌+◌, ◌-◌, ◌<◌, ◌≤◌, Bool, true, false, ◌&&◌, List, [], ◌∷◌, ◌++◌, length, take, drop, take_while, ap, ◌∙◌, refl, arith}
use Rattle.std.proofs.lemmas.List.{drop-drop, length-drop}
use Rattle.std.proofs.lemmas.List.Sums.{take_while-cons}
use Rattle.query_text.specs.declared.lexeme.Kind.{Kind}
use Rattle.query_text.specs.declared.lexeme.Kind.TheVariants as kind
use Rattle.query_text.specs.declared.lexeme.Lexeme.{Lexeme}
use Rattle.query_text.specs.Scanning.{lexeme, kind_glues}
use Rattle.query_text.specs.Tokens.{Placed, placed, token_of, space, begins, beginning, is_digit, starts_with_digit, Cuts, cut_space}
use Rattle.query_text.proofs.CutLaws.{cut_more}
use Rattle.query_text.proofs.TextLaws.{digit_begins}

has_digit : (bs : List ℕ) → starts_with_digit bs ≡ true → 0 < length bs
has_digit [] h = cc
has_digit (b ∷ bs) h = omega arith

counts_digit : (bs : List ℕ) → starts_with_digit bs ≡ true → length (take_while is_digit bs) ≡ 1 + length (take_while is_digit (drop 1 bs))
counts_digit [] h = cc
counts_digit (b ∷ bs) h =
    let digits : take_while is_digit (b ∷ bs) ≡ b ∷ take_while is_digit bs = take_while-cons is_digit b bs ∙ rw h refl in
    omega (arith, ap (length {A = ℕ}) digits)

counts_none : (bs : List ℕ) → starts_with_digit bs ≡ false → length (take_while is_digit bs) ≡ 0
counts_none [] h = refl
counts_none (b ∷ bs) h = rw h refl

pub digit_within : (place : ℕ) (text : List ℕ) → starts_with_digit (drop place text) ≡ true → place < length text
digit_within place text h = omega (arith, has_digit (drop place text) h, length-drop place text)

pub one_more_digit : (place : ℕ) (text : List ℕ) → starts_with_digit (drop place text) ≡ true → length (take_while is_digit (drop place text)) ≡ 1 + length (take_while is_digit (drop (place + 1) text))
one_more_digit place text h = counts_digit (drop place text) h ∙ ap (λ (bs : List ℕ). 1 + length (take_while is_digit bs)) (drop-drop 1 place text)

pub no_more_digits : (place : ℕ) (text : List ℕ) → starts_with_digit (drop place text) ≡ false → length (take_while is_digit (drop place text)) ≡ 0
no_more_digits place text h = counts_none (drop place text) h

pub space_within : (place : ℕ) (text : List ℕ) → beginning (drop place text) ≡ space → place < length text
space_within place text h = omega (arith, some_byte (drop place text) h, length-drop place text)
  where
    some_byte : (bs : List ℕ) → beginning bs ≡ space → 0 < length bs
    some_byte [] h = cc
    some_byte (b ∷ bs) h = omega arith

pub number_from : (place end : ℕ) (text : List ℕ) → starts_with_digit (drop place text) ≡ true → end ≡ place + 1 + length (take_while is_digit (drop (place + 1) text)) → beginning (drop place text) ≡ begins (token_of kind.Number (take (end - place) (drop place text))) (end - place)
number_from place end text h e =
    let len : end - place ≡ 1 + length (take_while is_digit (drop (place + 1) text)) = omega (arith, e) in
    rw len (rw (drop-drop 1 place text) at (digit_begins (drop place text) h))

module _ (text : List ℕ) (before : List Lexeme) (glued : Bool) (place : ℕ) (so_far : (ts : List Placed) → Cuts glued place (drop place text) ts → Cuts false 0 text (placed text before ++ ts)) where
  pub behind_space : beginning (drop place text) ≡ space → (ts : List Placed) → Cuts false (place + 1) (drop (place + 1) text) ts → Cuts false 0 text (placed text before ++ ts)
  behind_space e ts c = so_far ts (cut_space e (rw (drop-drop 1 place text) c))

  pub behind_token : (end : ℕ) (k : Kind) → place ≤ end → beginning (drop place text) ≡ begins (token_of k (take (end - place) (drop place text))) (end - place) → glued && kind_glues k ≡ false → (ts : List Placed) → Cuts (kind_glues k) end (drop end text) ts → Cuts false 0 text (placed text (before ++ lexeme k place (end - place) ∷ []) ++ ts)
  behind_token end k le e g ts c =
      let ends : place + (end - place) ≡ end = omega (arith, le) in
      let rest : drop (end - place) (drop place text) ≡ drop end text = drop-drop (end - place) place text ∙ ap (λ n. drop n text) ends in
      cut_more text before glued place (drop place text) so_far (end - place) k refl e g ts (rw (ends, rest) c)
