-- An interval is read from its bracket, its ends and its closing bracket.
use Rattle.std.proofs.Common.{◌≡◌, ℕ, ℤ, ◌+◌, true, List, [], ◌∷◌, ◌++◌, length, Some, Ok, ap, refl, ◌∙◌, append_assoc, length-append, arith, w64, FitsSigned}
use Rattle.std.specs.Fmt.{signed_decimal}
use Rattle.std.specs.Prelude.{int_le}
use Rattle.interval_class.specs.declared.interval.Interval.{Interval}
use Rattle.interval_class.specs.Same.{same_interval}
use Rattle.query_text.specs.Tokens.{Placed, at, number, open_bracket, close_bracket, least_i64, most_i64}
use Rattle.query_text.specs.Keys.{expected_at, number_at, is_open_bracket, is_close_bracket, ReadsBack}
use Rattle.query_text.specs.IntervalTexts.{interval_of, interval_at, interval_text}
use Rattle.query_text.proofs.TextLaws.{cuts_open, cuts_close, cuts_number, cuts_number_space, number_read, fits_64}
use Rattle.query_text.proofs.KeyLaws.{when_holds}

pub interval_of_ends : (k : Interval) → interval_of k.lo k.hi ≡ Some k
interval_of_ends k = when_holds (int_le k.lo k.hi) _ k.ordered.le ∙ ap Some (same_interval _ k refl refl)

pub interval_at_is : (len : ℕ) (ts a b c d : List Placed) (p q : ℕ) (lo hi : ℤ) (k : Interval) → expected_at is_open_bracket len ts ≡ Ok (p, a) → number_at least_i64 most_i64 len a ≡ Ok (lo, b) → number_at least_i64 most_i64 len b ≡ Ok (hi, c) → expected_at is_close_bracket len c ≡ Ok (q, d) → k.lo ≡ lo → k.hi ≡ hi → interval_at len ts ≡ Ok (k, d)
unfolding interval_at
interval_at_is len ts a b c d p q lo hi k e f g h l m = rw (e, f, g, h, ← l, ← m, interval_of_ends k)

-- the text of an interval is read as that interval
pub interval_reads_back : (k : Interval) → FitsSigned w64 k.lo → FitsSigned w64 k.hi → ReadsBack interval_at (interval_text k) k
interval_reads_back k lo_fits hi_fits len place glued bytes ts c =
    let lo = signed_decimal k.lo in
    let hi = signed_decimal k.hi in
    let p = place + 1 in
    let q = p + (length lo + 1) in
    let r = q + length hi in
    let text : (lo ++ (32 ∷ (hi ++ (41 ∷ [])))) ++ bytes ≡ lo ++ (32 ∷ (hi ++ (41 ∷ bytes))) = simp append_assoc in
    let end : place + length (interval_text k) ≡ r + 1 = simp length-append (omega arith) in
    let closing = cuts_close true r bytes ts (rw end at c) in
    let second = cuts_number k.hi hi_fits q (41 ∷ bytes) (at r close_bracket ∷ ts) refl closing in
    let first = cuts_number_space k.lo lo_fits p (hi ++ (41 ∷ bytes)) (at q (number k.hi) ∷ at r close_bracket ∷ ts) second in
    let all = cuts_open glued place (lo ++ (32 ∷ (hi ++ (41 ∷ bytes)))) (at p (number k.lo) ∷ at q (number k.hi) ∷ at r close_bracket ∷ ts) first in (
      at place open_bracket ∷ at p (number k.lo) ∷ at q (number k.hi) ∷ at r close_bracket ∷ ts,
      rw text all,
      interval_at_is len _ _ _ _ _ _ _ _ _ k refl (number_read least_i64 most_i64 k.lo len p _ (fits_64 k.lo lo_fits)) (number_read least_i64 most_i64 k.hi len q _ (fits_64 k.hi hi_fits)) refl refl refl,
    )
