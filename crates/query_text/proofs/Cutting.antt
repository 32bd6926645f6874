-- Each text is cut into tokens.
use Rattle.std.proofs.Common.{◌≡◌, ℕ, zero, suc, ◌+◌, ◌<◌, ◌≤◌, Bool, true, false, ◌&&◌, ◌||◌, ◌==◌, List, [], ◌∷◌, length, drop, length-drop, refl, arith, if◌then◌else◌}
use Rattle.std.specs.Prelude.{⊤}
use Rattle.query_text.specs.Tokens.{Token, fault, Placed, at, glues, Beginning, nothing, space, no_token, begins, is_letter, is_digit, starts_with_digit, beginning, Cuts, cut_nothing, cut_space, cut_token, cut_missing_space, cut_no_token}

-- a token has a byte at least
abbrev HasBytes : Beginning → Type 0
HasBytes (begins t n) = 0 < n
HasBytes _ = ⊤

if_has : (b : Bool) (x y : Beginning) → HasBytes x → HasBytes y → HasBytes (if b then x else y)
if_has true x y p q = p
if_has false x y p q = q

has_bytes : (bs : List ℕ) → HasBytes (beginning bs)
has_bytes [] = tt
has_bytes (b ∷ bs) =
    if_has (b == 32) _ _ tt
    (if_has (b == 40) _ _ (omega arith)
    (if_has (b == 41) _ _ (omega arith)
    (if_has (b == 123) _ _ (omega arith)
    (if_has (b == 125) _ _ (omega arith)
    (if_has (is_letter b) _ _ (omega arith)
    (if_has (is_digit b || ((b == 45) && starts_with_digit bs)) _ _ (omega arith) tt))))))

-- the bytes behind a place are cut into some tokens
abbrev pub HasCut : Bool → ℕ → List ℕ → Type 0
HasCut glued place bs = (ts : List Placed) × Cuts glued place bs ts

token_cut : (glued lacks : Bool) (place n : ℕ) (bs : List ℕ) (t : Token) → beginning bs ≡ begins t n → glued && glues t ≡ lacks → HasCut (glues t) (place + n) (drop n bs) → HasCut glued place bs
token_cut glued false place n bs t e g c = (at place t ∷ c.0, cut_token e g c.1)
token_cut true true place n bs t e g c = (at place fault ∷ [], cut_missing_space e g)
token_cut false true place n bs t e g c = let bad : false ≡ true = g in cc

cut_from : (k : ℕ) → ((glued : Bool) (place : ℕ) (bs : List ℕ) → length bs ≤ k → HasCut glued place bs) → (glued : Bool) (place b : ℕ) (bs : List ℕ) → length bs ≤ k → (x : Beginning) → beginning (b ∷ bs) ≡ x → HasBytes x → HasCut glued place (b ∷ bs)
cut_from k more glued place b bs l nothing e h = ([], cut_nothing e)
cut_from k more glued place b bs l space e h =
    let rest = more false (place + 1) (drop 1 (b ∷ bs)) (simp length-drop (omega arith)) in
    (rest.0, cut_space e rest.1)
cut_from k more glued place b bs l no_token e h = (at place fault ∷ [], cut_no_token e)
cut_from k more glued place b bs l (begins t n) e h =
    token_cut glued (glued && glues t) place n (b ∷ bs) t e refl (more (glues t) (place + n) (drop n (b ∷ bs)) (simp length-drop (omega arith)))

some_cut : (k : ℕ) (glued : Bool) (place : ℕ) (bs : List ℕ) → length bs ≤ k → HasCut glued place bs
some_cut k glued place [] l = ([], cut_nothing refl)
some_cut zero glued place (b ∷ bs) l = absurd (omega arith)
some_cut (suc k) glued place (b ∷ bs) l = cut_from k (some_cut k) glued place b bs (omega arith) (beginning (b ∷ bs)) refl (has_bytes (b ∷ bs))

-- a text is cut into some tokens
pub text_is_cut : (bs : List ℕ) → HasCut false 0 bs
text_is_cut bs = some_cut (length bs) false 0 bs (omega arith)
