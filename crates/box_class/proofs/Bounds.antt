use Rattle.std.specs.List.{swap_remove}
use Rattle.std.specs.Ordering.{nat_cmp, is_lt, ord_max}
use Rattle.std.proofs.lemmas.Int.{to_z-of_z}
use mir.Val.{SFits}
use Rattle.std.proofs.Common.{◌≡◌, ℕ, ◌<◌, ◌+◌, ◌-◌, ◌++◌, [], All, slice_set, ◌≤◌, ◌≤ℤ◌, ℤ, Bool, true, false, cond, w32, to_z, of_z, ap, List, ◌∷◌, length, slice_index_or, take, drop, arith, ⊎_elim, subst, sym, ◌∙◌}
use Rattle.std.proofs.lemmas.Bool.{cases_eq}
use Rattle.std.proofs.lemmas.List.{get_or_default}
use Rattle.std.proofs.lemmas.List.Elements.{All-head, All-tail, All-cons, All-take, All-drop, All-set, All-push}
use Rattle.box_class.specs.declared.boxes.BoxKey.{BoxKey}
use Rattle.box_class.specs.Boxes.{is_cover, extent_of, size_of, union_of}
use Rattle.box_class.specs.BoxLaws.{cover_from, extent_of-le, size_of-le, union_is_least, union_covers_left, union_covers_right, covers_through}
use Rattle.box_class.specs.OpenPlaces.{HaveBoundWithin}

-- the bound covers the first n keys
abbrev pub CoversBelow : BoxKey → ℕ → List BoxKey → Type 0
CoversBelow b n keys = (k : ℕ) (d : BoxKey) → k < n → is_cover b (slice_index_or keys k d) ≡ true

-- a bound that takes in the next key covers one key more
pub covers_more : (b x : BoxKey) (n : ℕ) (keys : List BoxKey) → n < length keys → x ≡ slice_index_or keys n x → CoversBelow b n keys → CoversBelow (union_of b x) (n + 1) keys
covers_more b x n keys h r f k e l =
    let grown = union_of b x in
    ⊎_elim
    (λ (q : k ≡ n).
    subst (λ (m : ℕ). is_cover grown (slice_index_or keys m e) ≡ true) (sym q)
    (subst (λ (y : BoxKey). is_cover grown y ≡ true) (r ∙ get_or_default keys n x e h) (union_covers_right b x)))
    (λ (q : k ≡ n → ⊥).
    covers_through grown b (slice_index_or keys k e) (union_covers_left b x) (f k e (omega (arith, l, q))))
    (cases_eq k n)

-- on each axis a bound is at least as long as what it covers
pub across_within : (b k : BoxKey) → is_cover b k ≡ true → extent_of k.x1 k.x2 ≤ extent_of b.x1 b.x2
across_within b k h = let p = cover_from b k h in extent_of-le k.x1 k.x2 b.x1 b.x2 k.x_ordered p.0 p.1

pub along_within : (b k : BoxKey) → is_cover b k ≡ true → extent_of k.y1 k.y2 ≤ extent_of b.y1 b.y2
along_within b k h = let p = cover_from b k h in extent_of-le k.y1 k.y2 b.y1 b.y2 k.y_ordered p.2 p.3

either_below : (t : Bool) (a b n : ℕ) → a + 1 ≤ n → b + 1 ≤ n → cond t a b + 1 ≤ n
either_below true a b n p q = p
either_below false a b n p q = q

-- the larger of two numbers is below what both are below
pub larger_below : (a b n : ℕ) → a + 1 ≤ n → b + 1 ≤ n → ord_max nat_cmp a b + 1 ≤ n
larger_below a b n p q = either_below (is_lt (nat_cmp b a)) a b n p q

-- what a function reads of two ends in order
pub order_read : (a b : ℤ) → SFits w32 a → SFits w32 b → a ≤ℤ b → to_z w32 (of_z w32 a) ≤ℤ to_z w32 (of_z w32 b)
order_read a b f g h = subst (λ (x : ℤ). x ≤ℤ to_z w32 (of_z w32 b)) (sym (to_z-of_z w32 a f)) (subst (λ (y : ℤ). a ≤ℤ y) (sym (to_z-of_z w32 b g)) h)

pub extent_read : (a b : ℤ) (r : ℕ) → SFits w32 a → SFits w32 b → r + 1 ≡ extent_of (to_z w32 (of_z w32 a)) (to_z w32 (of_z w32 b)) → r + 1 ≡ extent_of a b
extent_read a b r f g e = e ∙ ap (λ x. extent_of x (to_z w32 (of_z w32 b))) (to_z-of_z w32 a f) ∙ ap (extent_of a) (to_z-of_z w32 b g)

-- ends inside others are no further apart
pub extent_below : (a b c d : ℤ) (r : ℕ) → r + 1 ≡ extent_of a b → a ≤ℤ b → c ≤ℤ a → b ≤ℤ d → r + 1 ≤ extent_of c d
extent_below a b c d r e o h k = omega (arith, e, extent_of-le a b c d o h k)

-- two boxes that one covers have a common bound no larger
common_within : (limit : ℕ) (bound a b : BoxKey) → size_of bound ≤ limit → is_cover bound a ≡ true → is_cover bound b ≡ true → size_of (union_of a b) ≤ limit
common_within limit bound a b s p q = omega (arith, s, size_of-le bound (union_of a b) (union_is_least a b bound p q))

pub covered_read : (bound x : BoxKey) (keys : List BoxKey) (i : ℕ) → ((k : ℕ) (d : BoxKey) → k < length keys → is_cover bound (slice_index_or keys k d) ≡ true) → i < length keys → x ≡ slice_index_or keys i x → is_cover bound x ≡ true
covered_read bound x keys i f l r = subst (λ (y : BoxKey). is_cover bound y ≡ true) (sym r) (f i x l)

pub pair_within : (limit : ℕ) (keys : List BoxKey) (i j : ℕ) (a b : BoxKey) → HaveBoundWithin limit keys → i < length keys → j < length keys → a ≡ slice_index_or keys i a → b ≡ slice_index_or keys j b → size_of (union_of a b) ≤ limit
pair_within limit keys i j a b w p q r s =
    common_within limit w.0 a b w.1 (covered_read w.0 a keys i w.2 p r) (covered_read w.0 b keys j w.2 q s)

pub bound_within : (limit : ℕ) (b : BoxKey) (keys : List BoxKey) → HaveBoundWithin limit (b ∷ keys) → size_of b ≤ limit
bound_within limit b keys w = omega (arith, w.1, size_of-le w.0 b (All-head (λ k. is_cover w.0 k ≡ true) b keys w.2))

pub gain_within : (limit : ℕ) (b x : BoxKey) (keys : List BoxKey) (i : ℕ) → HaveBoundWithin limit (b ∷ keys) → i < length keys → x ≡ slice_index_or keys i x → size_of (union_of b x) ≤ limit
gain_within limit b x keys i w p r =
    let P = λ (k : BoxKey). is_cover w.0 k ≡ true in
    common_within limit w.0 b x w.1 (All-head P b keys w.2) (covered_read w.0 x keys i (All-tail P b keys w.2) p r)

pub grown_within : (limit : ℕ) (b x : BoxKey) (keys : List BoxKey) (i : ℕ) → HaveBoundWithin limit (b ∷ keys) → i < length keys → x ≡ slice_index_or keys i x → HaveBoundWithin limit (union_of b x ∷ keys)
grown_within limit b x keys i w p r =
    let P = λ (k : BoxKey). is_cover w.0 k ≡ true in
    let rest = All-tail P b keys w.2 in
    (w.0, w.1, All-cons P (union_of b x) keys (union_is_least b x w.0 (All-head P b keys w.2) (covered_read w.0 x keys i rest p r)) rest)

pub seed_within : (limit : ℕ) (x : BoxKey) (keys : List BoxKey) (i : ℕ) → HaveBoundWithin limit keys → i < length keys → x ≡ slice_index_or keys i x → HaveBoundWithin limit (x ∷ keys)
seed_within limit x keys i w p r =
    (w.0, w.1, All-cons (λ (k : BoxKey). is_cover w.0 k ≡ true) x keys (covered_read w.0 x keys i w.2 p r) w.2)

-- what bounds them all bounds one of them and some that come later
pub row_within : (limit : ℕ) (x : BoxKey) (keys : List BoxKey) (i n m : ℕ) → HaveBoundWithin limit keys → i < length keys → x ≡ slice_index_or keys i x → HaveBoundWithin limit (x ∷ take m (drop n keys))
row_within limit x keys i n m w p r =
    let P = λ (k : BoxKey). is_cover w.0 k ≡ true in
    (w.0, w.1, All-cons P x (take m (drop n keys)) (covered_read w.0 x keys i w.2 p r) (All-take P m (drop n keys) (All-drop P n keys w.2)))

-- what holds of all of them holds of those that are left once one is taken out
kept : (P : BoxKey → Type 0) (keys : List BoxKey) (n : ℕ) (x : BoxKey) → n < length keys → All P keys → All P (swap_remove keys n x)
kept P keys n x l h =
    let last = slice_index_or keys (length keys - 1) x in
    All-take P (length keys - 1) (slice_set keys n last) (All-set P keys n last (h (length keys - 1) x (omega (arith, l))) h)

kept_within : (limit : ℕ) (b : BoxKey) (keys : List BoxKey) (n : ℕ) (x : BoxKey) → HaveBoundWithin limit (b ∷ keys) → n < length keys → HaveBoundWithin limit (b ∷ swap_remove keys n x)
kept_within limit b keys n x w l =
    let P = λ (k : BoxKey). is_cover w.0 k ≡ true in
    (w.0, w.1, All-cons P b (swap_remove keys n x) (All-head P b keys w.2) (kept P keys n x l (All-tail P b keys w.2)))

pub left_within : (limit : ℕ) (b x : BoxKey) (old new : List BoxKey) (n : ℕ) → HaveBoundWithin limit (b ∷ old) → n < length old → new ≡ swap_remove old n x → HaveBoundWithin limit (b ∷ new)
left_within limit b x old new n w l e = subst (λ keys. HaveBoundWithin limit (b ∷ keys)) (sym e) (kept_within limit b old n x w l)

pub put_within : (limit : ℕ) (b x grown : BoxKey) (old new : List BoxKey) (n : ℕ) → HaveBoundWithin limit (b ∷ old) → n < length old → x ≡ slice_index_or old n x → new ≡ swap_remove old n x → grown ≡ union_of b x → HaveBoundWithin limit (grown ∷ new)
put_within limit b x grown old new n w l r e g =
    subst (λ bound. HaveBoundWithin limit (bound ∷ new)) (sym g)
    (left_within limit (union_of b x) x old new n (grown_within limit b x old n w l r) l e)

-- any bound of the keys is one of the others
abbrev pub AreAmong : List BoxKey → List BoxKey → Type 0
AreAmong keys others = (b : BoxKey) → All (λ k. is_cover b k ≡ true) keys → All (λ k. is_cover b k ≡ true) others

pub among_pushed : (keys old new : List BoxKey) (i : ℕ) (x : BoxKey) → new ≡ old ++ x ∷ [] → i < length keys → x ≡ slice_index_or keys i x → AreAmong keys old → AreAmong keys new
among_pushed keys old new i x e l r f b h =
    let P = λ (k : BoxKey). is_cover b k ≡ true in
    subst (All P) (sym e) (All-push P old x (f b h) (covered_read b x keys i h l r))

pub among_within : (limit : ℕ) (b : BoxKey) (keys others : List BoxKey) → AreAmong keys others → HaveBoundWithin limit (b ∷ keys) → HaveBoundWithin limit (b ∷ others)
among_within limit b keys others f w =
    let P = λ (k : BoxKey). is_cover w.0 k ≡ true in
    (w.0, w.1, All-cons P b others (All-head P b keys w.2) (f w.0 (All-tail P b keys w.2)))
