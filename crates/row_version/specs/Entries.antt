-- An entry of a leaf: a row, and the commit that ended it.
use Rattle.std.specs.Prelude.{◌≡◌, ℕ, zero, suc, Bool, true, ◌&&◌, nat_le, nat_lt, nat_eq, cond, Option, Some, None, refl}

pub record Entry (K : Type 0) : Type 0 where
  pub key : K
  -- the number of the commit that made the row
  pub row : ℕ
  pub tag : ℕ
  -- the number of the commit that ended it, none while it is live
  pub died : Option ℕ

-- everything of an entry but its key
pub record Version : Type 0 where
  pub row : ℕ
  pub tag : ℕ
  pub died : Option ℕ

abbrev pub entry_of : {K : Type 0} → K → Version → Entry K
entry_of key v = record { key = key; row = v.row; tag = v.tag; died = v.died }

abbrev pub version_of : {K : Type 0} → Entry K → Version
version_of e = record { row = e.row; tag = e.tag; died = e.died }

-- live, or dead only after commit s
abbrev pub lives_at : ℕ → Option ℕ → Bool
lives_at s None = true
lives_at s (Some n) = nat_lt s n

-- the row is live after the first s commits
abbrev pub visible_at : {K : Type 0} → ℕ → Entry K → Bool
visible_at s e = nat_le e.row s && lives_at s e.died

-- a dead entry is needed by scans that opened before its death
abbrev pub is_needed : {K : Type 0} → ℕ → Entry K → Bool
is_needed horizon e = lives_at horizon e.died

-- the entry, dead since commit n
abbrev pub died_at : {K : Type 0} → ℕ → Entry K → Entry K
died_at n e = record e { died = Some n }

-- the entry, dead since commit n if it is that of the row
abbrev pub marked : {K : Type 0} → ℕ → ℕ → Entry K → Entry K
marked row n e = cond (nat_eq e.row row) (died_at n e) e

-- commits count from 1: 0 means no death
abbrev pub death_of : ℕ → Option ℕ
death_of zero = None
death_of (suc n) = Some (suc n)

abbrev pub number_of_death : Option ℕ → ℕ
number_of_death None = 0
number_of_death (Some n) = n

pub number_of_death-death_of : (n : ℕ) → number_of_death (death_of n) ≡ n
number_of_death-death_of zero = refl
number_of_death-death_of (suc n) = refl
