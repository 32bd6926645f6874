-- The first byte that is a line feed is the first line feed.
use Rattle.std.proofs.Common.{◌≡◌, ℕ, suc, zero, ◌+◌, ◌<◌, ◌≤◌, List, [], ◌∷◌, ◌++◌, length, take, drop, arith, sym, ap, ◌∙◌, subst, Option, Some, None}
use Rattle.std.specs.Prelude.{◌==◌, IfSome, IsNone}
use Rattle.std.proofs.lemmas.Bool.{eqb-true, true≢false}
use Rattle.std.proofs.lemmas.List.{take_all}
use Rattle.memchr.specs.Find.{IsFirstByte, Nowhere, Passes, is_byte}
use Rattle.front.specs.Lines.{HasNoFeed, IsFirstFeed}

-- if no byte of the first n is a line feed
no_feed_within : (xs : List ℕ) (n : ℕ) → n ≤ length xs → Nowhere (Passes (is_byte 10) xs) 0 n → HasNoFeed (take n xs)
no_feed_within [] zero l h = tt
no_feed_within [] (suc n) l h = absurd (omega (arith, l))
no_feed_within (x ∷ xs) zero l h = tt
no_feed_within (x ∷ xs) (suc n) l h =
    ((λ p. h zero (omega arith) (omega arith) (ap (λ y. y == 10) p)), no_feed_within xs n (omega (arith, l)) (λ k m o. h (suc k) (omega arith) (omega (arith, o))))

-- the line feed is between the bytes before it and those after it
feed_stands : (xs : List ℕ) (k : ℕ) → k < length xs → Passes (is_byte 10) xs k → xs ≡ take k xs ++ 10 ∷ drop (k + 1) xs
feed_stands [] k l p = absurd (omega (arith, l))
feed_stands (x ∷ xs) zero l p = ap (λ y. y ∷ xs) (eqb-true x 10 p)
feed_stands (x ∷ xs) (suc k) l p =
    let s : suc k + 1 ≡ suc (k + 1) = omega arith in
    ap (λ ys. x ∷ ys) (feed_stands xs k (omega (arith, l)) p) ∙ ap (λ j. x ∷ (take k xs ++ 10 ∷ drop j (x ∷ xs))) (sym s)

pub first_feed : (xs : List ℕ) (r : Option ℕ) → IsFirstByte (is_byte 10) xs r → IfSome r (IsFirstFeed xs)
first_feed xs None h = tt
first_feed xs (Some k) h = (no_feed_within xs k (omega (arith, h.0.high)) h.0.before, feed_stands xs k h.0.high h.1)

pub no_feed : (xs : List ℕ) (r : Option ℕ) → IsFirstByte (is_byte 10) xs r → IsNone r → HasNoFeed xs
no_feed xs None h n = subst HasNoFeed (take_all (length xs) xs (omega arith)) (no_feed_within xs (length xs) (omega arith) h)
no_feed xs (Some k) h n = absurd (true≢false n)
