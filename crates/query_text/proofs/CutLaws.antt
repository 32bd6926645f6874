-- The tokens of a text are cut in one way, and one more of them is cut as the scanner goes on.
use Rattle.std.proofs.Common.{◌≡◌, ℕ, ◌+◌, Bool, true, false, ◌&&◌, List, [], ◌∷◌, ◌++◌, take, drop, sym, ◌∙◌, ap, append_assoc, refl, ◌⊎◌, inl, inr, ⊎_elim}
use Rattle.std.proofs.lemmas.List.{append-nil}
use Rattle.query_text.specs.declared.lexeme.Kind.{Kind}
use Rattle.query_text.specs.declared.lexeme.Kind.TheVariants as kind
use Rattle.query_text.specs.declared.lexeme.Lexeme.{Lexeme}
use Rattle.query_text.specs.Scanning.{lexeme, kind_glues}
use Rattle.query_text.specs.Tokens.{Token, fault, Placed, placed, at, token_of, glues, Beginning, nothing, space, no_token, begins, beginning, Cuts, cut_nothing, cut_space, cut_token, cut_missing_space, cut_no_token}

-- what the first of the bytes leaves to be cut
abbrev pub Rest : Bool → ℕ → List ℕ → List Placed → Beginning → Type 0
Rest glued place bs ts nothing = ts ≡ []
Rest glued place bs ts space = Cuts false (place + 1) (drop 1 bs) ts
Rest glued place bs ts no_token = ts ≡ at place fault ∷ []
Rest true place bs ts (begins t n) = ((glues t ≡ true) × (ts ≡ at place fault ∷ [])) ⊎ ((glues t ≡ false) × (us : List Placed) × Cuts (glues t) (place + n) (drop n bs) us × (ts ≡ at place t ∷ us))
Rest false place bs ts (begins t n) = (us : List Placed) × Cuts (glues t) (place + n) (drop n bs) us × (ts ≡ at place t ∷ us)

pub rest_of : {glued : Bool} {place : ℕ} {bs : List ℕ} {ts : List Placed} → Cuts glued place bs ts → Rest glued place bs ts (beginning bs)
rest_of (cut_nothing e) = rw e refl
rest_of (cut_space e c) = rw e c
rest_of (cut_no_token e) = rw e refl
rest_of (cut_missing_space e g) = rw e (inl (g, refl))
rest_of {glued = true} (cut_token {ts = ts} e g c) = rw e (inr (g, ts, c, refl))
rest_of {glued = false} (cut_token {ts = ts} e g c) = rw e (ts, c, refl)

apart : (t : Token) → glues t ≡ true → glues t ≡ false → ⊥
apart t a b = cc

-- the tokens of a text are cut in one way
pub one_cut : (glued : Bool) (place : ℕ) (bs : List ℕ) (ts us : List Placed) → Cuts glued place bs ts → Cuts glued place bs us → ts ≡ us
one_cut glued place bs ts us (cut_nothing e) d = let r = rw e at (rest_of d) in sym r
one_cut glued place bs ts us (cut_space e c) d = let r = rw e at (rest_of d) in one_cut false (place + 1) (drop 1 bs) ts us c r
one_cut glued place bs ts us (cut_no_token e) d = let r = rw e at (rest_of d) in sym r
one_cut glued place bs ts us (cut_missing_space {n = n} {t = t} e g) d =
    let r : Rest true place bs us (begins t n) = rw e at (rest_of d) in
    ⊎_elim (λ w. sym w.1) (λ w. absurd (apart t g w.0)) r
one_cut true place bs ts us (cut_token {n = n} {t = t} {ts = xs} e g c) d =
    let r : Rest true place bs us (begins t n) = rw e at (rest_of d) in
    ⊎_elim
    (λ w. absurd (apart t w.0 g))
    (λ w. ap (λ (x : List Placed). at place t ∷ x) (one_cut (glues t) (place + n) (drop n bs) xs w.1 c w.2) ∙ sym w.3)
    r
one_cut false place bs ts us (cut_token {n = n} {t = t} {ts = xs} e g c) d =
    let r : Rest false place bs us (begins t n) = rw e at (rest_of d) in
    ap (λ (x : List Placed). at place t ∷ x) (one_cut (glues t) (place + n) (drop n bs) xs r.0 c r.1) ∙ sym r.2

glues_by_kind : (k : Kind) (bs : List ℕ) → glues (token_of k bs) ≡ kind_glues k
glues_by_kind kind.OpenBracket bs = refl
glues_by_kind kind.CloseBracket bs = refl
glues_by_kind kind.OpenBrace bs = refl
glues_by_kind kind.CloseBrace bs = refl
glues_by_kind kind.Word bs = refl
glues_by_kind kind.Number bs = refl
glues_by_kind kind.Fault bs = refl

placed-append : (text : List ℕ) (ls ms : List Lexeme) → placed text (ls ++ ms) ≡ placed text ls ++ placed text ms
placed-append text [] ms = refl
placed-append text (l ∷ ls) ms = ap (λ (x : List Placed). placed text (l ∷ []) ++ x) (placed-append text ls ms)

module _ (text : List ℕ) (before : List Lexeme) (glued : Bool) (place : ℕ) (rest : List ℕ) (so_far : (ts : List Placed) → Cuts glued place rest ts → Cuts false 0 text (placed text before ++ ts)) where
  -- one more token behind those that were cut
  pub cut_more : (n : ℕ) (k : Kind) → rest ≡ drop place text → beginning rest ≡ begins (token_of k (take n rest)) n → glued && kind_glues k ≡ false → (ts : List Placed) → Cuts (kind_glues k) (place + n) (drop n rest) ts → Cuts false 0 text (placed text (before ++ lexeme k place n ∷ []) ++ ts)
  cut_more n k r e g ts c =
      let t = token_of k (take n rest) in
      let same : glues t ≡ kind_glues k = glues_by_kind k (take n rest) in
      let more : Cuts false 0 text (placed text before ++ at place t ∷ ts) = so_far (at place t ∷ ts) (cut_token e (rw same g) (rw same c)) in
      rw (placed-append, append_assoc, ← r) more

  pub cut_on_space : beginning rest ≡ space → (ts : List Placed) → Cuts false (place + 1) (drop 1 rest) ts → Cuts false 0 text (placed text before ++ ts)
  cut_on_space e ts c = so_far ts (cut_space e c)

  pub cut_end : beginning rest ≡ nothing → Cuts false 0 text (placed text before)
  cut_end e = rw append-nil at (so_far [] (cut_nothing e))

  pub cut_fault : beginning rest ≡ no_token → Cuts false 0 text (placed text (before ++ lexeme kind.Fault place 0 ∷ []))
  cut_fault e = rw placed-append (so_far (at place fault ∷ []) (cut_no_token e))

pub cut_glued : (text : List ℕ) (before : List Lexeme) (glued : Bool) (place n : ℕ) (rest : List ℕ) (k : Kind) → ((ts : List Placed) → Cuts glued place rest ts → Cuts false 0 text (placed text before ++ ts)) → beginning rest ≡ begins (token_of k (take n rest)) n → glued && kind_glues k ≡ true → Cuts false 0 text (placed text (before ++ lexeme kind.Fault place 0 ∷ []))
cut_glued text before true place n rest k so_far e g =
    rw placed-append (so_far (at place fault ∷ []) (cut_missing_space e (glues_by_kind k (take n rest) ∙ g)))
cut_glued text before false place n rest k so_far e g = cc
