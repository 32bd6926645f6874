-- What eight values are by their places, and what a test tells of them.
use Rattle.std.specs.Prelude.{◌≡◌, ◌≢◌, ◌<◌, ◌%◌, ◌^◌, ℕ, zero, suc, Bool, List, [], ◌∷◌, length, map, refl, replicate, slice_get, slice_set, Some}
use Rattle.std.specs.Simd.Lanes.{mask_l}
use Rattle.std.proofs.Common.{get_or, ap, ap₂, ◌∙◌, sym, arith}
use Rattle.std.proofs.lemmas.List.{ext_get_or}
use Rattle.std.proofs.lemmas.Option.{get_or_from_slice_get}
use Rattle.std.proofs.lemmas.Simd.{mask_l-mod}
use Rattle.key_class.specs.Bits.{bits_of}
use Rattle.key_class.specs.Blocks.{eight_of}

-- eight values, one by one the same
pub eight_same : {X : Type 0} {a b c d e f g h i j k l m n o p : X} → a ≡ i → b ≡ j → c ≡ k → d ≡ l → e ≡ m → f ≡ n → g ≡ o → h ≡ p → a ∷ b ∷ c ∷ d ∷ e ∷ f ∷ g ∷ h ∷ [] ≡ i ∷ j ∷ k ∷ l ∷ m ∷ n ∷ o ∷ p ∷ []
eight_same ea eb ec ed ee ef eg eh = ap₂ (λ x xs. x ∷ xs) ea (ap₂ (λ x xs. x ∷ xs) eb (ap₂ (λ x xs. x ∷ xs) ec (ap₂ (λ x xs. x ∷ xs) ed (ap₂ (λ x xs. x ∷ xs) ee (ap₂ (λ x xs. x ∷ xs) ef (ap₂ (λ x xs. x ∷ xs) eg (ap (λ x. x ∷ []) eh)))))))

module _ {X : Type 0} (f : ℕ → X) where
  pub place_of_eight : (place : ℕ) → place < 8 → slice_get (eight_of f) place ≡ Some (f place)
  place_of_eight zero l = refl
  place_of_eight (suc zero) l = refl
  place_of_eight (suc (suc zero)) l = refl
  place_of_eight (suc (suc (suc zero))) l = refl
  place_of_eight (suc (suc (suc (suc zero)))) l = refl
  place_of_eight (suc (suc (suc (suc (suc zero))))) l = refl
  place_of_eight (suc (suc (suc (suc (suc (suc zero)))))) l = refl
  place_of_eight (suc (suc (suc (suc (suc (suc (suc zero))))))) l = refl
  place_of_eight (suc (suc (suc (suc (suc (suc (suc (suc n)))))))) l = absurd (omega (arith, l))

  pub eight_alike : (g : ℕ → X) → ((k : ℕ) → f k ≡ g k) → eight_of f ≡ eight_of g
  eight_alike g same = eight_same (same 0) (same 1) (same 2) (same 3) (same 4) (same 5) (same 6) (same 7)

  pub eight_filled : (x : X) → ((k : ℕ) → k < 8 → f k ≡ x) → eight_of f ≡ replicate 8 x
  eight_filled x same = eight_same (same 0 (omega arith)) (same 1 (omega arith)) (same 2 (omega arith)) (same 3 (omega arith)) (same 4 (omega arith)) (same 5 (omega arith)) (same 6 (omega arith)) (same 7 (omega arith))

  -- one of them is another now
  pub eight_set : (g : ℕ → X) (place : ℕ) (x : X) → place < 8 → f place ≡ x → ((k : ℕ) → k < 8 → k ≢ place → f k ≡ g k) → eight_of f ≡ slice_set (eight_of g) place x
  eight_set g zero x l here other = eight_same here (other 1 (omega arith) (λ e. absurd (omega (arith, e)))) (other 2 (omega arith) (λ e. absurd (omega (arith, e)))) (other 3 (omega arith) (λ e. absurd (omega (arith, e)))) (other 4 (omega arith) (λ e. absurd (omega (arith, e)))) (other 5 (omega arith) (λ e. absurd (omega (arith, e)))) (other 6 (omega arith) (λ e. absurd (omega (arith, e)))) (other 7 (omega arith) (λ e. absurd (omega (arith, e))))
  eight_set g (suc zero) x l here other = eight_same (other 0 (omega arith) (λ e. absurd (omega (arith, e)))) here (other 2 (omega arith) (λ e. absurd (omega (arith, e)))) (other 3 (omega arith) (λ e. absurd (omega (arith, e)))) (other 4 (omega arith) (λ e. absurd (omega (arith, e)))) (other 5 (omega arith) (λ e. absurd (omega (arith, e)))) (other 6 (omega arith) (λ e. absurd (omega (arith, e)))) (other 7 (omega arith) (λ e. absurd (omega (arith, e))))
  eight_set g (suc (suc zero)) x l here other = eight_same (other 0 (omega arith) (λ e. absurd (omega (arith, e)))) (other 1 (omega arith) (λ e. absurd (omega (arith, e)))) here (other 3 (omega arith) (λ e. absurd (omega (arith, e)))) (other 4 (omega arith) (λ e. absurd (omega (arith, e)))) (other 5 (omega arith) (λ e. absurd (omega (arith, e)))) (other 6 (omega arith) (λ e. absurd (omega (arith, e)))) (other 7 (omega arith) (λ e. absurd (omega (arith, e))))
  eight_set g (suc (suc (suc zero))) x l here other = eight_same (other 0 (omega arith) (λ e. absurd (omega (arith, e)))) (other 1 (omega arith) (λ e. absurd (omega (arith, e)))) (other 2 (omega arith) (λ e. absurd (omega (arith, e)))) here (other 4 (omega arith) (λ e. absurd (omega (arith, e)))) (other 5 (omega arith) (λ e. absurd (omega (arith, e)))) (other 6 (omega arith) (λ e. absurd (omega (arith, e)))) (other 7 (omega arith) (λ e. absurd (omega (arith, e))))
  eight_set g (suc (suc (suc (suc zero)))) x l here other = eight_same (other 0 (omega arith) (λ e. absurd (omega (arith, e)))) (other 1 (omega arith) (λ e. absurd (omega (arith, e)))) (other 2 (omega arith) (λ e. absurd (omega (arith, e)))) (other 3 (omega arith) (λ e. absurd (omega (arith, e)))) here (other 5 (omega arith) (λ e. absurd (omega (arith, e)))) (other 6 (omega arith) (λ e. absurd (omega (arith, e)))) (other 7 (omega arith) (λ e. absurd (omega (arith, e))))
  eight_set g (suc (suc (suc (suc (suc zero))))) x l here other = eight_same (other 0 (omega arith) (λ e. absurd (omega (arith, e)))) (other 1 (omega arith) (λ e. absurd (omega (arith, e)))) (other 2 (omega arith) (λ e. absurd (omega (arith, e)))) (other 3 (omega arith) (λ e. absurd (omega (arith, e)))) (other 4 (omega arith) (λ e. absurd (omega (arith, e)))) here (other 6 (omega arith) (λ e. absurd (omega (arith, e)))) (other 7 (omega arith) (λ e. absurd (omega (arith, e))))
  eight_set g (suc (suc (suc (suc (suc (suc zero)))))) x l here other = eight_same (other 0 (omega arith) (λ e. absurd (omega (arith, e)))) (other 1 (omega arith) (λ e. absurd (omega (arith, e)))) (other 2 (omega arith) (λ e. absurd (omega (arith, e)))) (other 3 (omega arith) (λ e. absurd (omega (arith, e)))) (other 4 (omega arith) (λ e. absurd (omega (arith, e)))) (other 5 (omega arith) (λ e. absurd (omega (arith, e)))) here (other 7 (omega arith) (λ e. absurd (omega (arith, e))))
  eight_set g (suc (suc (suc (suc (suc (suc (suc zero))))))) x l here other = eight_same (other 0 (omega arith) (λ e. absurd (omega (arith, e)))) (other 1 (omega arith) (λ e. absurd (omega (arith, e)))) (other 2 (omega arith) (λ e. absurd (omega (arith, e)))) (other 3 (omega arith) (λ e. absurd (omega (arith, e)))) (other 4 (omega arith) (λ e. absurd (omega (arith, e)))) (other 5 (omega arith) (λ e. absurd (omega (arith, e)))) (other 6 (omega arith) (λ e. absurd (omega (arith, e)))) here
  eight_set g (suc (suc (suc (suc (suc (suc (suc (suc n)))))))) x l here other = absurd (omega (arith, l))

  -- eight answers, told as bits, are those of a test
  pub bits_of_eight : (p : X → Bool) {s t u v w x y z : Bool} → s ≡ p (f 0) → t ≡ p (f 1) → u ≡ p (f 2) → v ≡ p (f 3) → w ≡ p (f 4) → x ≡ p (f 5) → y ≡ p (f 6) → z ≡ p (f 7) → mask_l (s ∷ t ∷ u ∷ v ∷ w ∷ x ∷ y ∷ z ∷ []) ≡ bits_of p (eight_of f)
  bits_of_eight p es et eu ev ew ex ey ez = ap mask_l (eight_same es et eu ev ew ex ey ez)

-- the bits of eight lanes, each of which is an answer, are those of a test
pub eight_lanes : {X : Type 0} (p : X → Bool) (f : ℕ → X) → mask_l (map p (eight_of f)) % 2 ^ 64 ≡ bits_of p (eight_of f)
eight_lanes p f = mask_l-mod (map p (eight_of f)) 64 (omega arith)

module _ {X : Type 0} (xs : List X) (eight : length xs ≡ 8) where
  -- a list of eight by its places
  pub eight_by_places : (d : X) → xs ≡ eight_of (λ k. get_or xs k d)
  eight_by_places d = ext_get_or d xs (eight_of (λ k. get_or xs k d)) eight at
    where
      at : (i : ℕ) → i < length xs → get_or xs i d ≡ get_or (eight_of (λ k. get_or xs k d)) i d
      at zero l = refl
      at (suc zero) l = refl
      at (suc (suc zero)) l = refl
      at (suc (suc (suc zero))) l = refl
      at (suc (suc (suc (suc zero)))) l = refl
      at (suc (suc (suc (suc (suc zero))))) l = refl
      at (suc (suc (suc (suc (suc (suc zero)))))) l = refl
      at (suc (suc (suc (suc (suc (suc (suc zero))))))) l = refl
      at (suc (suc (suc (suc (suc (suc (suc (suc n)))))))) l = absurd (omega (arith, l, eight))

module _ {X : Type 0} (xs : List X) (eight : length xs ≡ 8) {a b c d e f g h : X} (is_a : slice_get xs 0 ≡ Some a) (is_b : slice_get xs 1 ≡ Some b) (is_c : slice_get xs 2 ≡ Some c) (is_d : slice_get xs 3 ≡ Some d) (is_e : slice_get xs 4 ≡ Some e) (is_f : slice_get xs 5 ≡ Some f) (is_g : slice_get xs 6 ≡ Some g) (is_h : slice_get xs 7 ≡ Some h) where
  -- the list of the values that are told place by place
  pub eight_listed : xs ≡ a ∷ b ∷ c ∷ d ∷ e ∷ f ∷ g ∷ h ∷ []
  eight_listed = eight_by_places xs eight a ∙ eight_same (get_or_from_slice_get xs 0 a a is_a) (get_or_from_slice_get xs 1 b a is_b) (get_or_from_slice_get xs 2 c a is_c) (get_or_from_slice_get xs 3 d a is_d) (get_or_from_slice_get xs 4 e a is_e) (get_or_from_slice_get xs 5 f a is_f) (get_or_from_slice_get xs 6 g a is_g) (get_or_from_slice_get xs 7 h a is_h)

  -- eight answers, told as bits, are those of a test
  pub eight_told : (p : X → Bool) {s t u v w x y z : Bool} → s ≡ p a → t ≡ p b → u ≡ p c → v ≡ p d → w ≡ p e → x ≡ p f → y ≡ p g → z ≡ p h → mask_l (s ∷ t ∷ u ∷ v ∷ w ∷ x ∷ y ∷ z ∷ []) ≡ bits_of p xs
  eight_told p es et eu ev ew ex ey ez =
      ap mask_l (eight_same es et eu ev ew ex ey ez) ∙ sym (ap (bits_of p) eight_listed)
