-- A binary search for a serial.
use Rattle.std.proofs.Common.{◌≡◌, ◌+◌, ◌<◌, ◌≤◌, ℕ, List, length, Some, None, arith}
use Rattle.std.specs.Prelude.{slice_get}
use Rattle.change_list.proofs.Lists.{slice_get_within}
use Rattle.world.specs.Serials.{member, Rise, IsMember}
use Rattle.world.proofs.Serials.{rise_places, member_at, member_searched}

module _ {X : Type 0} (serial : X → ℕ) (xs : List X) (c : ℕ) where
  -- the member with serial c has a place from low up to high, or there is none
  pub record IsBetween (low high : ℕ) : Type 0 where
    pub ordered : low ≤ high
    pub within : high ≤ length xs
    pub below : (i : ℕ) (x : X) → i < low → slice_get xs i ≡ Some x → serial x < c
    pub above : (i : ℕ) (x : X) → high ≤ i → slice_get xs i ≡ Some x → c < serial x

  pub between_all : IsBetween 0 (length xs)
  between_all = record {
    ordered = omega arith;
    within = omega arith;
    below = λ i x l e. absurd (omega (arith, l));
    above = λ i x l e. absurd (omega (arith, l, slice_get_within xs i x e));
  }

  module _ (last : ℕ) (rise : Rise serial 0 last xs) where
    module _ (low high middle : ℕ) (y : X) (b : IsBetween low high) (l : low ≤ middle) (h : middle < high) (is : slice_get xs middle ≡ Some y) where
      pub between_upper : serial y < c → IsBetween (middle + 1) high
      between_upper less = record {
        ordered = omega (arith, h);
        within = b.within;
        below = λ i x n e. omega (arith, less, rise_places serial 0 last i middle xs x y rise (omega (arith, n)) e is);
        above = b.above;
      }

      pub between_lower : c < serial y → IsBetween low middle
      between_lower more = record {
        ordered = l;
        within = omega (arith, h, b.within);
        below = b.below;
        above = λ i x n e. omega (arith, more, rise_places serial 0 last middle i xs y x rise n is e);
      }

    pub found_at : (at : ℕ) (x : X) → slice_get xs at ≡ Some x → serial x ≡ c → IsMember serial xs c at
    found_at at x is e = record { value = x; is = is; number = e; found = member_at serial c 0 last at xs x rise is e }

    pub none_between : (low high : ℕ) → IsBetween low high → high ≤ low → member serial c xs ≡ None
    none_between low high b done = member_searched serial c 0 last xs low rise b.below (λ i x l e. b.above i x (omega (arith, l, b.ordered, done)) e)
