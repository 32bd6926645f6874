-- The entries of a map, given one after the other, a bounded number of steps apart.
use Rattle.std.specs.Prelude.{◌≡◌, ◌≢◌, ℕ, ◌+◌, ◌<◌, ◌≤◌, Bool, true, false, not, nat_lt, List, [], ◌∷◌, ◌++◌, length, take, filter, Option, Some, None, if◌then◌else◌}
use Rattle.change_list.specs.declared.item.Row.{Row}
use Rattle.change_list.specs.declared.write.Write.{Write}
use Rattle.change_list.specs.Changes.{IsTracked, is_ended, made_rows, row_at, rows}
use Rattle.revisions.specs.declared.entry.MapEntry.{MapEntry}
use Rattle.map.specs.declared.offer.Offer.{Offer}
use Rattle.map.specs.declared.offer.Offer.TheVariants.{Pass, Give, Over}
use Rattle.map.specs.Generations.{entries_from, entry_of}

pub record RollState (K : Type 0) : Type 0 where
  -- all entries
  pub all : List (MapEntry K)
  -- those that were given
  pub given : List (MapEntry K)
  -- what comes next
  pub offer : Offer K

module _ {K : Type 0} where
  -- the live rows that the first n commits made
  abbrev pub living : List (Write K) → ℕ → List (Row K)
  living commits n = filter (λ r. not (is_ended commits r.row)) (made_rows (take n commits))

  -- the row of a commit, by whether it was ended
  abbrev pub offer_from : Bool → Option (Row K) → Offer K
  offer_from true found = Pass
  offer_from false None = Pass
  offer_from false (Some r) = Give (entry_of r)

  -- first each commit is noted, then each commit's row is given, if it is live
  abbrev pub offer_at : List (Write K) → ℕ → ℕ → Offer K
  offer_at commits noted next =
      if nat_lt noted (length commits) then Pass
      else if nat_lt next (length commits) then offer_from (is_ended commits (next + 1)) (row_at commits (next + 1)) else Over

  abbrev pub roll_state : List (Write K) → ℕ → ℕ → RollState K
  roll_state commits noted next = record {
    all = entries_from (rows commits);
    given = entries_from (living commits next);
    offer = offer_at commits noted next;
  }

  -- the first commits are noted, with a flag for each: whether one of them ends its row
  pub record IsRoll (commits : List (Write K)) (ended : List Bool) (next : ℕ) : Type 0 where
    pub tracked : IsTracked (take (length ended) commits) ended
    pub noted : length ended ≤ length commits
    pub next_within : next ≤ length commits
    pub first_noted : length ended < length commits → next ≡ 0

  -- there is an entry to give
  abbrev pub IsGive : Offer K → Type 0
  IsGive offer = (e : MapEntry K) × (offer ≡ Give e)

  -- what an offer gives
  abbrev pub given_by : Offer K → List (MapEntry K)
  given_by Pass = []
  given_by (Give e) = e ∷ []
  given_by Over = []

  -- what was given, what comes next and the rest are all entries; nothing is left in the end
  pub record Offers (roll : RollState K) : Type 0 where
    pub rest : List (MapEntry K)
    pub is : roll.all ≡ roll.given ++ given_by roll.offer ++ rest
    pub over : roll.offer ≡ Over → rest ≡ []

  -- the next entry was given, if there was one
  pub record Advances (old new : RollState K) : Type 0 where
    pub all : new.all ≡ old.all
    pub given : new.given ≡ old.given ++ given_by old.offer
    pub ends : old.offer ≡ Over → new.offer ≡ Over

  -- no entry was given
  pub record Skips (old new : RollState K) : Type 0 where
    pub all : new.all ≡ old.all
    pub given : new.given ≡ old.given
