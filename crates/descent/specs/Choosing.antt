-- The branch that an insertion takes.
use Rattle.std.specs.Prelude.{◌≡◌, ◌⊎◌, ℕ, ◌/◌, ◌%◌, ◌<◌, List, Some, slice_get}
use Rattle.key_class.specs.Gains.{gain, gain_in_64_bits}
use Rattle.node.specs.declared.branch.Branch.{Branch}
use Rattle.descent.specs.declared.choosing.Candidate.{Candidate}

module _ {K : Type 0} (union : K → K → K) (size : K → ℕ) (key : K) where
  abbrev gained_by : K → ℕ
  gained_by bound = gain union size key bound

  -- the key enlarges the bound less, or as much and the bound is smaller
  abbrev pub IsBetter : K → K → Type 0
  IsBetter bound other = (gained_by bound < gained_by other) ⊎ ((gained_by bound ≡ gained_by other) × (size bound < size other))

  -- none of the branches is better than the one at this place, and it is better than each before it
  pub record IsBest (branches : List (Branch K)) (place : ℕ) : Type 0 where
    pub branch : Branch K
    pub is : slice_get branches place ≡ Some branch
    pub none_better : (other : ℕ) (b : Branch K) → slice_get branches other ≡ Some b → ¬ IsBetter b.key branch.key
    pub better_before : (other : ℕ) (b : Branch K) → slice_get branches other ≡ Some b → other < place → IsBetter branch.key b.key

  -- of the first n branches, the one at this place is the best
  pub record IsBestOf (branches : List (Branch K)) (n place : ℕ) : Type 0 where
    pub branch : Branch K
    pub is : slice_get branches place ≡ Some branch
    pub before : place < n
    pub none_better : (other : ℕ) (b : Branch K) → slice_get branches other ≡ Some b → other < n → ¬ IsBetter b.key branch.key
    pub better_before : (other : ℕ) (b : Branch K) → slice_get branches other ≡ Some b → other < place → IsBetter branch.key b.key

  -- it is that of the candidate
  pub record IsBestCandidate (branches : List (Branch K)) (n : ℕ) (candidate : Candidate K) : Type 0 where
    pub best : IsBestOf branches n candidate.place
    pub bound_is : candidate.bound ≡ best.branch.key
    pub gain_is : candidate.gain ≡ gain_in_64_bits union size key candidate.bound

  -- what the key adds to the bounds of the branches in one block of eight
  abbrev pub AreGainsIn : List (Branch K) → ℕ → List ℕ → Type 0
  AreGainsIn branches number gains = (place : ℕ) (b : Branch K) → place / 8 ≡ number → slice_get branches place ≡ Some b → slice_get gains (place % 8) ≡ Some (gain_in_64_bits union size key b.key)
