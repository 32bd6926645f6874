-- A roll of the live rows, step by step.
use Rattle.std.proofs.Common.{◌≡◌, ◌≢◌, ◌+◌, ◌-◌, ◌<◌, ◌≤◌, ℕ, zero, suc, Bool, true, false, not, List, [], ◌∷◌, ◌++◌, length, map, take, get_or, Option, Some, None, ◌⊎◌, inl, inr, refl, sym, ap, ◌∙◌, arith, subst, append_assoc}
use Rattle.std.specs.Prelude.{nat_lt, slice_get, slice_set, if◌then◌else◌}
use Rattle.std.proofs.lemmas.List.{append-nil, length-append, map-append, take_all, take_more}
use Rattle.std.proofs.lemmas.Option.{get_or_from_slice_get}
use Rattle.change_list.specs.declared.item.Row.{Row}
use Rattle.change_list.specs.declared.write.Write.{Write}
use Rattle.change_list.specs.Changes.{IsLegal, IsTracked, is_ended, row_at, rows}
use Rattle.change_list.specs.declared.write.Write.TheVariants.{Insert, Delete, Move}
use Rattle.change_list.specs.Roomy.{NamesEarlier, flags_with}
use Rattle.snapshot.specs.Ended.{with_end}
use Rattle.change_list.proofs.Tracking.{names_earlier, tracked_push}
use Rattle.snapshot.proofs.Ending.{living_all, living_ended, living_more, living_none, living_unmade}
use Rattle.revisions.specs.declared.entry.MapEntry.{MapEntry}
use Rattle.map.specs.declared.offer.Offer.{Offer}
use Rattle.map.specs.declared.offer.Offer.TheVariants.{Pass, Give, Over}
use Rattle.map.specs.Generations.{entries_from, entry_of}
use Rattle.map.specs.Rolls.{Advances, IsRoll, Offers, given_by, living, offer_at, offer_from, roll_state}

cases_lt : (a b : ℕ) → (a < b) ⊎ (b ≤ a)
cases_lt a b = search arith

module _ {K : Type 0} where
  -- a row is given or not, and nothing is over
  not_over : (ended : Bool) (found : Option (Row K)) → offer_from ended found ≡ Over → ⊥
  not_over true found e = cc
  not_over false None e = cc
  not_over false (Some r) e = cc

  module _ (commits : List (Write K)) where
    -- the offer while commits are noted, while rows are given, and in the end
    pub offer_noting : (noted next : ℕ) → noted < length commits → offer_at commits noted next ≡ Pass
    offer_noting noted next l = let t : nat_lt noted (length commits) ≡ true = search (arith, l) in rw t refl

    pub offer_giving : (noted next : ℕ) → length commits ≤ noted → next < length commits → offer_at commits noted next ≡ offer_from (is_ended commits (next + 1)) (row_at commits (next + 1))
    offer_giving noted next past l =
        let t : nat_lt noted (length commits) ≡ false = search (arith, past) in
        let u : nat_lt next (length commits) ≡ true = search (arith, l) in
        rw (t, u) refl

    pub offer_over : (noted next : ℕ) → length commits ≤ noted → length commits ≤ next → offer_at commits noted next ≡ Over
    offer_over noted next past l =
        let t : nat_lt noted (length commits) ≡ false = search (arith, past) in
        let u : nat_lt next (length commits) ≡ false = search (arith, l) in
        rw (t, u) refl

    -- one commit more
    pub living_on : (n : ℕ) → n < length commits → entries_from (living commits (n + 1)) ≡ entries_from (living commits n) ++ given_by (offer_from (is_ended commits (n + 1)) (row_at commits (n + 1)))
    living_on n l = by_cases (is_ended commits (n + 1)) (row_at commits (n + 1)) refl refl
      where
        by_cases : (b : Bool) (o : Option (Row K)) → is_ended commits (n + 1) ≡ b → row_at commits (n + 1) ≡ o → entries_from (living commits (n + 1)) ≡ entries_from (living commits n) ++ given_by (offer_from b o)
        by_cases true o e f = ap entries_from (living_ended commits n l e) ∙ sym (append-nil (entries_from (living commits n)))
        by_cases false None e f = ap entries_from (living_unmade commits n l f) ∙ sym (append-nil (entries_from (living commits n)))
        by_cases false (Some r) e f = ap entries_from (living_more commits n l r f e) ∙ map-append entry_of (living commits n) (r ∷ [])

    -- what the first commits made is a beginning
    rest_of : (k n : ℕ) → n + k ≡ length commits → (rest : List (MapEntry K)) × (entries_from (rows commits) ≡ entries_from (living commits n) ++ rest)
    rest_of zero n e = ([], ap entries_from (sym (living_all commits n (omega (arith, e)))) ∙ sym (append-nil (entries_from (living commits n))))
    rest_of (suc k) n e =
        let further = rest_of k (n + 1) (omega (arith, e)) in
        let own = given_by (offer_from (is_ended commits (n + 1)) (row_at commits (n + 1))) in
        (own ++ further.0, further.1 ∙ ap (λ l. l ++ further.0) (living_on n (omega (arith, e))) ∙ append_assoc (entries_from (living commits n)) own further.0)

    pub roll_offers : (ended : List Bool) (next : ℕ) → IsRoll commits ended next → Offers (roll_state commits (length ended) next)
    roll_offers ended next is = elim (cases_lt (length ended) (length commits)) [
      | inl noting ↦
          let o = offer_noting (length ended) next noting in
          let rest = rest_of (length commits - next) next (omega (arith, is.next_within)) in
          record {
            rest = rest.0;
            is = rest.1 ∙ sym (ap (λ f. entries_from (living commits next) ++ given_by f ++ rest.0) o ∙ ap (λ l. l ++ rest.0) (append-nil (entries_from (living commits next))));
            over = λ e. let c : Pass ≡ Over = sym o ∙ e in absurd (cc);
          }
      | inr noted ↦ elim (cases_lt next (length commits)) [
        | inl giving ↦
            let o = offer_giving (length ended) next noted giving in
            let rest = rest_of (length commits - (next + 1)) (next + 1) (omega (arith, giving)) in
            record {
              rest = rest.0;
              is = rest.1 ∙ ap (λ l. l ++ rest.0) (living_on next giving ∙ ap (λ f. entries_from (living commits next) ++ given_by f) (sym o));
              over = λ e. absurd (not_over (is_ended commits (next + 1)) (row_at commits (next + 1)) (sym o ∙ e));
            }
        | inr all ↦
            let o = offer_over (length ended) next noted all in
            record {
              rest = [];
              is = ap entries_from (sym (living_all commits next (omega (arith, all, is.next_within))))
                  ∙ sym (ap (λ f. entries_from (living commits next) ++ given_by f ++ []) o ∙ append-nil (entries_from (living commits next) ++ []) ∙ append-nil (entries_from (living commits next)));
              over = λ e. refl;
            }
      ]
    ]

    -- a commit is noted
    module _ (ended : List Bool) (next : ℕ) (is : IsRoll commits ended next) where
      pub noted_on : IsLegal commits → (write : Write K) → slice_get commits (length ended) ≡ Some write → length ended < length commits → (flags : List Bool) → flags ≡ flags_with ended write → length flags ≡ length ended + 1 → IsRoll commits flags next
      noted_on legal write at l flags made longer =
          let taken : take (length flags) commits ≡ take (length ended) commits ++ write ∷ [] =
          ap (λ n. take n commits) longer ∙ take_more commits (length ended) write l ∙ ap (λ y. take (length ended) commits ++ y ∷ []) (get_or_from_slice_get commits (length ended) write write at) in
          record {
            tracked = subst (λ cs. IsTracked cs flags) (sym taken) (subst (λ f. IsTracked (take (length ended) commits ++ write ∷ []) f) (sym made) (tracked_push (take (length ended) commits) ended write is.tracked (legal (length ended) write at)));
            noted = omega (arith, longer, l);
            next_within = is.next_within;
            first_noted = λ more. is.first_noted l;
          }

      pub advances_noted : length ended < length commits → (noted : ℕ) → Advances (roll_state commits (length ended) next) (roll_state commits noted next)
      advances_noted l noted =
          let o = offer_noting (length ended) next l in
          record {
            all = refl;
            given = sym (ap (λ f. entries_from (living commits next) ++ given_by f) o ∙ append-nil (entries_from (living commits next)));
            ends = λ e. let c : Pass ≡ Over = sym o ∙ e in absurd (cc);
          }

      -- a commit is passed
      pub passed_on : length commits ≤ length ended → next < length commits → IsRoll commits ended (next + 1)
      passed_on noted l = record {
        tracked = is.tracked;
        noted = is.noted;
        next_within = omega (arith, l);
        first_noted = λ more. absurd (omega (arith, more, noted));
      }

      pub advances_passed : length commits ≤ length ended → next < length commits → Advances (roll_state commits (length ended) next) (roll_state commits (length ended) (next + 1))
      advances_passed noted l =
          let o = offer_giving (length ended) next noted l in
          record {
            all = refl;
            given = living_on next l ∙ ap (λ f. entries_from (living commits next) ++ given_by f) (sym o);
            ends = λ e. absurd (not_over (is_ended commits (next + 1)) (row_at commits (next + 1)) (sym o ∙ e));
          }

      -- nothing is left
      pub advances_none : length commits ≤ length ended → length commits ≤ next → Advances (roll_state commits (length ended) next) (roll_state commits (length ended) next)
      advances_none noted l =
          let o = offer_over (length ended) next noted l in
          record {
            all = refl;
            given = sym (ap (λ f. entries_from (living commits next) ++ given_by f) o ∙ append-nil (entries_from (living commits next)));
            ends = λ e. o;
          }

-- nothing is noted yet
pub begun_roll : {K : Type 0} (commits : List (Write K)) → IsRoll commits [] 0
begun_roll commits = record {
  tracked = record {
    legal = λ place write e. absurd (cc);
    one_each = refl;
    is = λ place l. absurd (omega (arith, l));
  };
  noted = omega arith;
  next_within = omega arith;
  first_noted = λ more. refl;
}

-- the flag of a commit
pub flag_told : {K : Type 0} (commits : List (Write K)) (ended : List Bool) (next : ℕ) → IsRoll commits ended next → length commits ≤ length ended → next < length commits → slice_get ended next ≡ Some (is_ended commits (next + 1))
flag_told commits ended next is noted within =
    let all : take (length ended) commits ≡ commits = take_all (length ended) commits noted in
    is.tracked.is next (omega (arith, within, noted, is.noted, ap length all)) ∙ ap (λ cs. Some (is_ended cs (next + 1))) all

pub flag_is : {K : Type 0} (commits : List (Write K)) (ended : List Bool) (next : ℕ) → IsRoll commits ended next → length commits ≤ length ended → next < length commits → (flag : Bool) → slice_get ended next ≡ Some flag → is_ended commits (next + 1) ≡ flag
flag_is commits ended next is noted within flag at = let one : Some (is_ended commits (next + 1)) ≡ Some flag = sym (flag_told commits ended next is noted within) ∙ at in cc

-- a commit names an earlier row, among as many flags as there are commits up to it
pub names_noted : {K : Type 0} (commits : List (Write K)) (ended : List Bool) (next : ℕ) → IsRoll commits ended next → IsLegal commits → (write : Write K) → slice_get commits (length ended) ≡ Some write → (flags : List Bool) → flags ≡ ended ++ false ∷ [] → NamesEarlier (length flags) write
names_noted commits ended next is legal write at flags longer =
    let n : length flags ≡ length ended + 1 = omega (arith, ap length longer, length-append ended (false ∷ [])) in
    later (length ended) (length flags) (omega (arith, n)) write (names_earlier (take (length ended) commits) ended write is.tracked (legal (length ended) write at))
  where
    later : {K : Type 0} (a b : ℕ) → a ≤ b → (w : Write K) → NamesEarlier a w → NamesEarlier b w
    later a b l (Insert key tag) e = tt
    later a b l (Delete row) e = (e.0, omega (arith, e.1, l))
    later a b l (Move row key) e = (e.0, omega (arith, e.1, l))

-- the flags with a commit's own and with that of the row that it ends
pub flags_made : {K : Type 0} (ended flags : List Bool) (write : Write K) → flags ≡ ended ++ false ∷ [] → with_end flags write ≡ flags_with ended write
flags_made ended flags (Insert key tag) e = e
flags_made ended flags (Delete row) e = ap (λ l. slice_set l (row - 1) true) e
flags_made ended flags (Move row key) e = ap (λ l. slice_set l (row - 1) true) e

kept : (xs : List Bool) (i : ℕ) → length (slice_set xs i true) ≡ length xs
kept [] i = refl
kept (x ∷ xs) zero = refl
kept (x ∷ xs) (suc i) = omega (arith, kept xs i)

pub flags_length : {K : Type 0} (ended : List Bool) (write : Write K) → length (flags_with ended write) ≡ length ended + 1
flags_length ended (Insert key tag) = length-append ended (false ∷ [])
flags_length ended (Delete row) = kept (ended ++ false ∷ []) (row - 1) ∙ length-append ended (false ∷ [])
flags_length ended (Move row key) = kept (ended ++ false ∷ []) (row - 1) ∙ length-append ended (false ∷ [])

-- an entry comes next only where all commits are noted and some aren't passed
pub giving : {K : Type 0} (commits : List (Write K)) (noted next : ℕ) (e : MapEntry K) → offer_at commits noted next ≡ Give e → (length commits ≤ noted) × (next < length commits)
giving commits noted next e give = elim (cases_lt noted (length commits)) [
  | inl l ↦ let c : Pass ≡ Give e = sym (offer_noting commits noted next l) ∙ give in absurd (cc)
  | inr past ↦ elim (cases_lt next (length commits)) [
    | inl l ↦ (past, l)
    | inr l ↦ let c : Over ≡ Give e = sym (offer_over commits noted next past l) ∙ give in absurd (cc)
  ]
]
