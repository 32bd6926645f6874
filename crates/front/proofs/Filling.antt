-- Bytes that a read appends to those that are held.
use Rattle.std.proofs.Common.{◌≡◌, ℕ, suc, zero, ◌+◌, ◌-◌, ◌<◌, ◌≤◌, Bool, true, false, List, [], ◌∷◌, ◌++◌, length, take, drop, Option, arith, refl, sym, ap, ◌∙◌}
use Rattle.std.specs.Prelude.{nat_eq, nat_lt}
use Rattle.std.specs.Io.KnownBytes.{Consumes, IsAtEnd}
use Rattle.std.proofs.lemmas.List.{length-take, length-drop}
use Rattle.front.specs.Buffered.{Buffered, with_room, FillsHeld}
use Rattle.front.proofs.Bytes.{take_nothing}

pub take_both : (a b : ℕ) (xs : List ℕ) → take (a + b) xs ≡ take a xs ++ take b (drop a xs)
take_both zero b xs = let e : zero + b ≡ b = omega arith in ap (λ k. take k xs) e
take_both (suc a) b [] = take_nothing (suc a + b) ∙ sym (take_nothing b)
take_both (suc a) b (x ∷ xs) = let e : suc a + b ≡ suc (a + b) = omega arith in ap (λ k. take k (x ∷ xs)) e ∙ ap (λ ys. x ∷ ys) (take_both a b xs)

abbrev pub holding : List ℕ → ℕ → ℕ → Bool → Buffered
holding items start end overlong = record { rest = take (end - start) (drop start items); overlong = overlong }

held_length : (items : List ℕ) (start end : ℕ) → start ≤ end → end ≤ length items → length (take (end - start) (drop start items)) ≡ end - start
held_length items start end o w = omega (arith, length-take (end - start) (drop start items), length-drop start items, o, w)

-- with room after them they stay
pub room_kept : (items : List ℕ) (start end : ℕ) (overlong : Bool) → start ≤ end → end ≤ length items → end - start < 4097 → with_room (holding items start end overlong) ≡ holding items start end overlong
room_kept items start end overlong o w l =
    let t : nat_eq (length (take (end - start) (drop start items))) 4097 ≡ false = search (arith, held_length items start end o w, l) in
    rw t refl

-- without room they are dropped
pub room_made : (items : List ℕ) (start end : ℕ) (overlong : Bool) → start ≤ end → end ≤ length items → end - start ≡ 4097 → with_room (holding items start end overlong) ≡ record { rest = []; overlong = true }
room_made items start end overlong o w l =
    let t : nat_eq (length (take (end - start) (drop start items))) 4097 ≡ true = search (arith, held_length items start end o w, l) in
    rw t refl

pub fills : (before after : Option (List ℕ)) (old : Buffered) (bytes : List ℕ) (held count : ℕ) (overlong : Bool) → Consumes before after (take count (drop held bytes)) → (count ≡ 0 → IsAtEnd after)
    → held + count ≤ length bytes → take held bytes ≡ (with_room old).rest → overlong ≡ (with_room old).overlong → FillsHeld before after old (nat_lt 0 count) (holding bytes 0 (held + count) overlong)
fills before after old bytes held count overlong c e w r o = record {
  bytes = take count (drop held bytes);
  consumed = c;
  held =
      let z : held + count - 0 ≡ held + count = omega arith in
      let a : take (held + count - 0) bytes ≡ (with_room old).rest ++ take count (drop held bytes) = ap (λ k. take k bytes) z ∙ take_both held count bytes ∙ ap (λ xs. xs ++ take count (drop held bytes)) r in
      joined _ _ _ _ a o;
  none_at_end = λ n. let z : count ≡ 0 = search (arith, n) in (ap (λ k. take k (drop held bytes)) z, e z);
  some_before = λ m none. let z : 0 < count = search (arith, m) in omega (arith, z, w, ap length none, length-take count (drop held bytes), length-drop held bytes);
}
  where
    joined : (a b : List ℕ) (p q : Bool) → a ≡ b → p ≡ q → ◌≡◌ {A = Buffered} (record { rest = a; overlong = p }) (record { rest = b; overlong = q })
    joined a b p q e f = λ i. record { rest = e i; overlong = f i }
