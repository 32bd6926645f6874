-- Bytes without a line feed, and parts of a buffer.
use Rattle.std.proofs.Common.{◌≡◌, ℕ, suc, zero, ◌+◌, ◌-◌, List, [], ◌∷◌, ◌++◌, take, drop, arith, refl, sym, ap, ◌∙◌}
use Rattle.std.proofs.lemmas.List.{drop-drop}
use Rattle.front.specs.Lines.{HasNoFeed}

pub no_feed_append : (xs ys : List ℕ) → HasNoFeed xs → HasNoFeed ys → HasNoFeed (xs ++ ys)
no_feed_append [] ys h k = k
no_feed_append (x ∷ xs) ys h k = (h.0, no_feed_append xs ys h.1 k)

pub take_nothing : (k : ℕ) → take {A = ℕ} k [] ≡ []
take_nothing zero = refl
take_nothing (suc k) = refl

-- what is held behind the first bytes
pub held_behind : (xs : List ℕ) (start count end : ℕ) → take (end - (start + count)) (drop (start + count) xs) ≡ drop count (take (end - start) (drop start xs))
held_behind xs start count end =
    let d : end - (start + count) ≡ end - start - count = omega arith in
    ap (λ k. take k (drop (start + count) xs)) d ∙ ap (take (end - start - count)) (sym (drop-drop count start xs)) ∙ take_behind (end - start) count (drop start xs)
  where
    take_behind : (n m : ℕ) (ys : List ℕ) → take (n - m) (drop m ys) ≡ drop m (take n ys)
    take_behind n zero ys = let e : n - zero ≡ n = omega arith in ap (λ k. take k ys) e
    take_behind zero (suc m) ys = let e : zero - suc m ≡ zero = omega arith in ap (λ k. take k (drop (suc m) ys)) e
    take_behind (suc n) (suc m) [] = take_nothing (suc n - suc m)
    take_behind (suc n) (suc m) (y ∷ ys) = let e : suc n - suc m ≡ n - m = omega arith in ap (λ k. take k (drop m ys)) e ∙ take_behind n m ys
