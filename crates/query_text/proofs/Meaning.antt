-- A text means one query or is refused at one place.
use Rattle.std.proofs.Common.{◌≡◌, ◌⊎◌, inl, inr, ⊎_elim, ℕ, zero, suc, ◌<◌, ◌≤◌, List, [], ◌∷◌, arith, refl, false, length}
use Rattle.key_class.specs.Queries.{Query, depth_of}
use Rattle.query_text.specs.Tokens.{Placed}
use Rattle.query_text.specs.Keys.{LeavesFewer}
use Rattle.query_text.specs.ClassTexts.{Texts}
use Rattle.key_class.specs.Limits.{most_bytes, most_depth}
use Rattle.query_text.specs.Grammar.{whole, Spells, ends_before, SpellsQuery, RefusesTokens, no_spelling, too_deep, SpellOrAreRefused, SpellsText, RefusesText, too_long, refuses_tokens, SpellsOrIsRefused}
use Rattle.query_text.proofs.CutLaws.{one_cut}
use Rattle.query_text.proofs.Cutting.{text_is_cut}
use Rattle.query_text.proofs.Total.{spelled_or_refused}
use Rattle.query_text.proofs.Unique.{one_query, spelled_not_refused, one_place}

le_or_lt : (m n : ℕ) → (m ≤ n) ⊎ (n < m)
le_or_lt zero n = inl (omega arith)
le_or_lt (suc m) zero = inr (omega arith)
le_or_lt (suc m) (suc n) = ⊎_elim (λ h. inl (omega arith)) (λ h. inr (omega arith)) (le_or_lt m n)

module _ {K A : Type 0} (texts : Texts K A) where
  pub one_query_of : (len : ℕ) (ts : List Placed) (q r : Query A) → SpellsQuery texts len ts q → SpellsQuery texts len ts r → q ≡ r
  one_query_of len ts q r s u = one_query (texts.key_at len) texts.atom_of s.spelled u.spelled

  pub not_both_of : (len : ℕ) (ts : List Placed) (q : Query A) (place : ℕ) → SpellsQuery texts len ts q → RefusesTokens texts len ts place → ⊥
  not_both_of len ts q place s (no_spelling r) = spelled_not_refused (texts.key_at len) texts.atom_of len place s.spelled r
  not_both_of len ts q place s (too_deep {q = r} u d) =
      let same : q ≡ r = one_query (texts.key_at len) texts.atom_of s.spelled u in
      let deep : most_depth < depth_of q = rw same d in
      absurd (omega (arith, s.shallow, deep))

  pub one_place_of : (len : ℕ) (ts : List Placed) (p q : ℕ) → RefusesTokens texts len ts p → RefusesTokens texts len ts q → p ≡ q
  one_place_of len ts p q (no_spelling r) (no_spelling s) = one_place (texts.key_at len) texts.atom_of len r s
  one_place_of len ts p q (no_spelling r) (too_deep s d) = absurd (spelled_not_refused (texts.key_at len) texts.atom_of len p s r)
  one_place_of len ts p q (too_deep s d) (no_spelling r) = absurd (spelled_not_refused (texts.key_at len) texts.atom_of len q s r)
  one_place_of len ts p q (too_deep s d) (too_deep u e) = refl

  pub one_query_of_text : (text : List ℕ) (q r : Query A) → SpellsText texts text q → SpellsText texts text r → q ≡ r
  one_query_of_text text q r s u =
      let same : u.tokens ≡ s.tokens = one_cut false 0 text u.tokens s.tokens u.cut s.cut in
      one_query_of (length text) s.tokens q r s.query (rw same at u.query)

  pub not_both_of_text : (text : List ℕ) (q : Query A) (place : ℕ) → SpellsText texts text q → RefusesText texts text place → ⊥
  not_both_of_text text q place s (too_long l) = absurd (omega (arith, s.short, l))
  not_both_of_text text q place s (refuses_tokens {ts = us} l c r) =
      let same : us ≡ s.tokens = one_cut false 0 text us s.tokens c s.cut in
      not_both_of (length text) s.tokens q place s.query (rw same at r)

  pub one_place_of_text : (text : List ℕ) (p q : ℕ) → RefusesText texts text p → RefusesText texts text q → p ≡ q
  one_place_of_text text p q (too_long l) (too_long m) = refl
  one_place_of_text text p q (too_long l) (refuses_tokens m c r) = absurd (omega (arith, l, m))
  one_place_of_text text p q (refuses_tokens m c r) (too_long l) = absurd (omega (arith, l, m))
  one_place_of_text text p q (refuses_tokens {ts = ts} l c r) (refuses_tokens {ts = us} m d s) =
      let same : us ≡ ts = one_cut false 0 text us ts d c in
      one_place_of (length text) ts p q r (rw same at s)

  spelled_by_tokens : (len : ℕ) (ts : List Placed) (q : Query A) → Spells (texts.key_at len) texts.atom_of whole ts q [] → SpellOrAreRefused texts len ts
  spelled_by_tokens len [] q s = inr (len, no_spelling ends_before)
  spelled_by_tokens len (t ∷ ts) q s = ⊎_elim
      (λ h. inl (q, record { spelled = s; shallow = h }))
      (λ h. inr (t.place, too_deep s h))
      (le_or_lt (depth_of q) most_depth)

  module _ (fewer : (len : ℕ) (ts : List Placed) → LeavesFewer (length ts) (texts.key_at len ts)) where
    pub some_meaning_of : (len : ℕ) (ts : List Placed) → SpellOrAreRefused texts len ts
    some_meaning_of len ts = ⊎_elim
        (λ s. spelled_by_tokens len ts s.0 s.1)
        (λ b. inr (b.0, no_spelling b.1))
        (spelled_or_refused (texts.key_at len) texts.atom_of len (fewer len) ts)

    meaning_of_short : (text : List ℕ) → length text ≤ most_bytes → SpellsOrIsRefused texts text
    meaning_of_short text l =
        let cut = text_is_cut text in
        ⊎_elim
        (λ s. inl (s.0, record { short = l; tokens = cut.0; cut = cut.1; query = s.1 }))
        (λ b. inr (b.0, refuses_tokens l cut.1 b.1))
        (some_meaning_of (length text) cut.0)

    pub some_meaning_of_text : (text : List ℕ) → SpellsOrIsRefused texts text
    some_meaning_of_text text = ⊎_elim
        (λ h. meaning_of_short text h)
        (λ h. inr (most_bytes, too_long h))
        (le_or_lt (length text) most_bytes)
