-- A box is read from its bracket, its ends and its closing bracket, and its text is read as that box.
use Rattle.std.proofs.Common.{◌≡◌, ◌⊎◌, ⊎_elim, ℕ, ℤ, pos, negsuc, ◌+◌, ◌≤ℤ◌, ◌<ℤ◌, true, ◌&&◌, List, [], ◌∷◌, ◌++◌, length, Some, None, Result, Ok, Err, ap, refl, ◌∙◌, append_assoc, length-append, arith, w32, w64, FitsSigned}
use Rattle.std.specs.Prelude.{int_le}
use Rattle.std.specs.Fmt.{signed_decimal}
use Rattle.std.specs.Int.Signed.{le_z_yes}
use Rattle.std.proofs.lemmas.Int.{ints}
use Rattle.box_class.specs.declared.boxes.BoxKey.{BoxKey}
use Rattle.box_class.specs.BoxLaws.{same_box}
use Rattle.query_text.specs.Tokens.{Placed, at, number, open_bracket, close_bracket, least_i32, most_i32}
use Rattle.query_text.specs.Keys.{Reading, ◌>>=◌, or_fault_at, expected_at, number_at, is_open_bracket, is_close_bracket, ReadsBack}
use Rattle.query_text.specs.BoxTexts.{box_of, box_at, point_at, box_text}
use Rattle.query_text.proofs.TextLaws.{cuts_open, cuts_close, cuts_number, cuts_number_space, number_read}
use Rattle.query_text.proofs.KeyLaws.{when_holds, when_none}

pub box_of_ends : (k : BoxKey) → box_of k.x1 k.y1 k.x2 k.y2 ≡ Some k
box_of_ends k = when_holds (int_le k.x1 k.x2) _ k.x_ordered.le ∙ (when_holds (int_le k.y1 k.y2) _ k.y_ordered.le ∙ ap Some (same_box _ k refl refl refl refl))

not_ordered : (x1 y1 x2 y2 : ℤ) → (x2 <ℤ x1) ⊎ (y2 <ℤ y1) → x1 ≤ℤ x2 → y1 ≤ℤ y2 → ⊥
not_ordered x1 y1 x2 y2 bad p q = ⊎_elim (λ h. omega (arith, ints, h, p)) (λ h. omega (arith, ints, h, q)) bad

box_of_disorder : (x1 y1 x2 y2 : ℤ) → (x2 <ℤ x1) ⊎ (y2 <ℤ y1) → box_of x1 y1 x2 y2 ≡ None
box_of_disorder x1 y1 x2 y2 bad = when_none (int_le x1 x2) _ (λ h. when_none (int_le y1 y2) _ (λ k. absurd (not_ordered x1 y1 x2 y2 bad (le_z_yes h) (le_z_yes k))))

module _ (len : ℕ) (ts a b c d e f : List Placed) (p q : ℕ) (x1 y1 x2 y2 : ℤ) (opened : expected_at is_open_bracket len ts ≡ Ok (p, a)) (left : number_at least_i32 most_i32 len a ≡ Ok (x1, b)) (low : number_at least_i32 most_i32 len b ≡ Ok (y1, c)) (right : number_at least_i32 most_i32 len c ≡ Ok (x2, d)) (high : number_at least_i32 most_i32 len d ≡ Ok (y2, e)) (closed : expected_at is_close_bracket len e ≡ Ok (q, f)) where
  pub box_at_is : (k : BoxKey) → k.x1 ≡ x1 → k.y1 ≡ y1 → k.x2 ≡ x2 → k.y2 ≡ y2 → box_at len ts ≡ Ok (k, f)
  unfolding box_at
  box_at_is k g h i j = rw (opened, left, low, right, high, closed, ← g, ← h, ← i, ← j, box_of_ends k)

abbrev point_of : ℤ → ℤ × List Placed → Reading (ℤ × ℤ)
point_of x b = Ok ((x, b.0), b.1)

then_point_y : {C : Type 0} (y : Reading ℤ) (x : ℤ) (g h : ℤ → ℤ → List Placed → Result C ℕ) → ((x y : ℤ) (us : List Placed) → g x y us ≡ h x y us) → y >>= (λ b. g x b.0 b.1) ≡ (y >>= point_of x) >>= (λ r. h r.0.0 r.0.1 r.1)
then_point_y (Ok b) x g h same = same x b.0 b.1
then_point_y (Err place) x g h same = refl

-- to go on with the numbers of a point is to go on with the point
then_point : {C : Type 0} (x : Reading ℤ) (y : List Placed → Reading ℤ) (g h : ℤ → ℤ → List Placed → Result C ℕ) → ((x y : ℤ) (us : List Placed) → g x y us ≡ h x y us) → x >>= (λ a. y a.1 >>= (λ b. g a.0 b.0 b.1)) ≡ (x >>= (λ a. y a.1 >>= point_of a.0)) >>= (λ r. h r.0.0 r.0.1 r.1)
then_point (Ok a) y g h same = then_point_y (y a.1) a.0 g h same
then_point (Err place) y g h same = refl

-- a box with these ends, where a closing bracket is next
abbrev closed_box : ℕ → ℕ → ℤ → ℤ → ℤ → ℤ → List Placed → Reading BoxKey
closed_box len p x1 y1 x2 y2 ts = expected_at is_close_bracket len ts >>= (λ close. or_fault_at p close.1 (box_of x1 y1 x2 y2))

-- a box is read by its points
pub box_at_points : (len p : ℕ) (ts a : List Placed) → expected_at is_open_bracket len ts ≡ Ok (p, a) → box_at len ts ≡ point_at len a >>= (λ low. point_at len low.1 >>= (λ high. closed_box len p low.0.0 low.0.1 high.0.0 high.0.1 high.1))
unfolding box_at point_at
box_at_points len p ts a opened =
    let number = number_at least_i32 most_i32 len in
    rw opened
    (then_point (number a) number
    (λ x1 y1 us. number us >>= (λ c. number c.1 >>= (λ d. closed_box len p x1 y1 c.0 d.0 d.1)))
    (λ x1 y1 us. (number us >>= (λ c. number c.1 >>= point_of c.0)) >>= (λ high. closed_box len p x1 y1 high.0.0 high.0.1 high.1))
    (λ x1 y1 us. then_point (number us) number (closed_box len p x1 y1) (closed_box len p x1 y1) (λ x2 y2 vs. refl)))

module _ (len : ℕ) (ts a c e f : List Placed) (p q : ℕ) (x1 y1 x2 y2 : ℤ) (opened : expected_at is_open_bracket len ts ≡ Ok (p, a)) (low : point_at len a ≡ Ok ((x1, y1), c)) (high : point_at len c ≡ Ok ((x2, y2), e)) (closed : expected_at is_close_bracket len e ≡ Ok (q, f)) where
  pub box_of_points : (k : BoxKey) → k.x1 ≡ x1 → k.y1 ≡ y1 → k.x2 ≡ x2 → k.y2 ≡ y2 → box_at len ts ≡ Ok (k, f)
  box_of_points k g h i j = rw (box_at_points len p ts a opened, low, high, closed, ← g, ← h, ← i, ← j, box_of_ends k)

  pub no_box_of_points : (x2 <ℤ x1) ⊎ (y2 <ℤ y1) → box_at len ts ≡ Err p
  no_box_of_points bad = rw (box_at_points len p ts a opened, low, high, closed, box_of_disorder x1 y1 x2 y2 bad)

module _ (len : ℕ) (ts a : List Placed) (p place : ℕ) (opened : expected_at is_open_bracket len ts ≡ Ok (p, a)) where
  pub first_point_fails : point_at len a ≡ Err place → box_at len ts ≡ Err place
  first_point_fails fault = rw (box_at_points len p ts a opened, fault)

  pub second_point_fails : (c : List Placed) (low : ℤ × ℤ) → point_at len a ≡ Ok (low, c) → point_at len c ≡ Err place → box_at len ts ≡ Err place
  second_point_fails c low first fault = rw (box_at_points len p ts a opened, first, fault)

  pub closing_fails : (c e : List Placed) (low high : ℤ × ℤ) → point_at len a ≡ Ok (low, c) → point_at len c ≡ Ok (high, e) → expected_at is_close_bracket len e ≡ Err place → box_at len ts ≡ Err place
  closing_fails c e low high first second fault = rw (box_at_points len p ts a opened, first, second, fault)

-- two points between brackets
pub points_joined : (x1 y1 x2 y2 t0 t1 t2 t3 t4 t5 : List ℕ) → t1 ≡ 41 ∷ t0 → t2 ≡ (x2 ++ 32 ∷ y2) ++ t1 → t3 ≡ 32 ∷ t2 → t4 ≡ (x1 ++ 32 ∷ y1) ++ t3 → t5 ≡ 40 ∷ t4 → t5 ≡ (40 ∷ (x1 ++ 32 ∷ (y1 ++ 32 ∷ (x2 ++ 32 ∷ (y2 ++ 41 ∷ []))))) ++ t0
points_joined x1 y1 x2 y2 t0 t1 t2 t3 t4 t5 e1 e2 e3 e4 e5 = rw (e5, e4, e3, e2, e1) (simp append_assoc)

fits_32 : (z : ℤ) → FitsSigned w32 z → int_le least_i32 z && int_le z most_i32 ≡ true
fits_32 z f = grind (arith, ints)

fits_64 : (z : ℤ) → FitsSigned w32 z → FitsSigned w64 z
fits_64 (pos n) f = omega (arith, ints)
fits_64 (negsuc n) f = omega (arith, ints)

-- the text of a box is read as that box
pub box_reads_back : (k : BoxKey) → FitsSigned w32 k.x1 → FitsSigned w32 k.y1 → FitsSigned w32 k.x2 → FitsSigned w32 k.y2 → ReadsBack box_at (box_text k) k
box_reads_back k fx1 fy1 fx2 fy2 len place glued bytes ts c =
    let x1 = signed_decimal k.x1 in
    let y1 = signed_decimal k.y1 in
    let x2 = signed_decimal k.x2 in
    let y2 = signed_decimal k.y2 in
    let p = place + 1 in
    let q = p + (length x1 + 1) in
    let r = q + (length y1 + 1) in
    let s = r + (length x2 + 1) in
    let t = s + length y2 in
    let text : (x1 ++ (32 ∷ (y1 ++ (32 ∷ (x2 ++ (32 ∷ (y2 ++ (41 ∷ [])))))))) ++ bytes ≡ x1 ++ (32 ∷ (y1 ++ (32 ∷ (x2 ++ (32 ∷ (y2 ++ (41 ∷ bytes))))))) = simp append_assoc in
    let end : place + length (box_text k) ≡ t + 1 = simp length-append (omega arith) in
    let closing = cuts_close true t bytes ts (rw end at c) in
    let fourth = cuts_number k.y2 (fits_64 k.y2 fy2) s (41 ∷ bytes) _ refl closing in
    let third = cuts_number_space k.x2 (fits_64 k.x2 fx2) r _ _ fourth in
    let second = cuts_number_space k.y1 (fits_64 k.y1 fy1) q _ _ third in
    let first = cuts_number_space k.x1 (fits_64 k.x1 fx1) p _ _ second in
    let all = cuts_open glued place _ _ first in (
      at place open_bracket ∷ at p (number k.x1) ∷ at q (number k.y1) ∷ at r (number k.x2) ∷ at s (number k.y2) ∷ at t close_bracket ∷ ts,
      rw text all,
      box_at_is len _ _ _ _ _ _ _ _ _ _ _ _ _ refl (number_read least_i32 most_i32 k.x1 len p _ (fits_32 k.x1 fx1)) (number_read least_i32 most_i32 k.y1 len q _ (fits_32 k.y1 fy1)) (number_read least_i32 most_i32 k.x2 len r _ (fits_32 k.x2 fx2)) (number_read least_i32 most_i32 k.y2 len s _ (fits_32 k.y2 fy2)) refl k refl refl refl refl,
    )
