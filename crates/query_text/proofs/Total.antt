-- The tokens of a text spell a query or are refused at a place.
use Rattle.std.proofs.Common.{◌≡◌, ◌⊎◌, inl, inr, ⊎_elim, ℕ, zero, suc, ◌<◌, ◌≤◌, List, [], ◌∷◌, length, Ok, Err, ap, refl, arith}
use Rattle.std.specs.Prelude.{⊤}
use Rattle.key_class.specs.declared.sides.Rel.{Rel}
use Rattle.key_class.specs.Queries.{Query, atom, both, either, never}
use Rattle.query_text.specs.declared.terminal.Terminal.{Terminal}
use Rattle.query_text.specs.declared.terminal.Terminal.TheVariants as terminal
use Rattle.query_text.specs.Tokens.{Placed}
use Rattle.query_text.specs.Keys.{Reading, LeavesFewer}
use Rattle.query_text.specs.Grammar.{terminal_of, Level, whole, conjunction, unit, Spells, one_conjunction, or_of, one_unit, and_of, not_of, in_brackets, relation_of, before, behind, move, Refused, ends_before, ends_open, stuck, moves, bad_key}
use Rattle.query_text.proofs.ParserLaws.{refused_before}

-- what may come next behind a spelling that can't be continued
abbrev IsEnd : Level → Terminal → Type 0
IsEnd conjunction terminal.And = ⊥
IsEnd whole terminal.And = ⊥
IsEnd whole terminal.Or = ⊥
IsEnd _ _ = ⊤

abbrev Stops : Level → List Placed → Type 0
Stops level [] = ⊤
Stops level (t ∷ ts) = IsEnd level (terminal_of t.token)

unit_ends : (k : Terminal) → IsEnd unit k
unit_ends k = tt

stops_unit : (ts : List Placed) → Stops unit ts
stops_unit [] = tt
stops_unit (t ∷ ts) = unit_ends (terminal_of t.token)

no_conjunction_goes_on : {k : Terminal} → k ≡ terminal.And → IsEnd conjunction k → ⊥
no_conjunction_goes_on e h = rw e at h

no_and_goes_on : {k : Terminal} → k ≡ terminal.And → IsEnd whole k → ⊥
no_and_goes_on e h = rw e at h

no_or_goes_on : {k : Terminal} → k ≡ terminal.Or → IsEnd whole k → ⊥
no_or_goes_on e h = rw e at h

module _ {K A : Type 0} (key_at : List Placed → Reading K) (atom_of : Rel → K → A) (len : ℕ) (fewer : (ts : List Placed) → LeavesFewer (length ts) (key_at ts)) where
  -- a spelling at the front of the tokens
  record SpelledFront (level : Level) (ts : List Placed) : Type 0 where
    query : Query A
    rest : List Placed
    spelled : Spells key_at atom_of level ts query rest
    shorter : length rest < length ts
    stops : Stops level rest

  abbrev Outcome : Level → ℕ → List Placed → Type 0
  Outcome level d ts = SpelledFront level ts ⊎ ((place : ℕ) × Refused key_at len before d ts place)

  abbrev DecidesShort : Level → ℕ → Type 0
  DecidesShort level n = (d : ℕ) (ts : List Placed) → length ts ≤ n → Outcome level d ts

  and_or_end : (d : ℕ) (ts us : List Placed) (t : Placed) (q : Query A) → Spells key_at atom_of conjunction ts q (t ∷ us) → length (t ∷ us) < length ts → (terminal_of t.token ≡ terminal.And → Outcome conjunction d ts) → (k : Terminal) → terminal_of t.token ≡ k → Outcome conjunction d ts
  and_or_end d ts us t q s f more terminal.And e = more e
  and_or_end d ts us t q s f more k e = inl (record { query = q; rest = t ∷ us; spelled = s; shorter = f; stops = rw e tt })

  module _ (n : ℕ) (units : DecidesShort unit n) where
    and_more : (k d : ℕ) (ts us : List Placed) (q : Query A) → Spells key_at atom_of conjunction ts q us → length us < length ts → length us ≤ k → length us ≤ n → Outcome conjunction d ts
    and_more k d ts [] q s f l m = inl (record { query = q; rest = []; spelled = s; shorter = f; stops = tt })
    and_more zero d ts (t ∷ us) q s f l m = absurd (omega arith)
    and_more (suc k) d ts (t ∷ us) q s f l m = and_or_end d ts us t q s f
        (λ e. ⊎_elim
        (λ r. and_more k d ts r.rest (both q r.query) (and_of s e r.spelled) (omega (arith, r.shorter)) (omega (arith, r.shorter)) (omega (arith, r.shorter)))
        (λ b. inr (b.0, refused_before key_at atom_of len d b.0 s (moves (ap (λ k. move behind d k) e) b.1)))
        (units d us (omega arith)))
        (terminal_of t.token) refl

    conjunctions : DecidesShort conjunction n
    conjunctions d ts l = ⊎_elim
        (λ r. and_more n d ts r.rest r.query (one_unit r.spelled) r.shorter (omega (arith, r.shorter)) (omega (arith, r.shorter)))
        (λ b. inr b)
        (units d ts l)

    or_or_end : (d : ℕ) (ts us : List Placed) (t : Placed) (q : Query A) → Spells key_at atom_of whole ts q (t ∷ us) → length (t ∷ us) < length ts → IsEnd conjunction (terminal_of t.token) → (terminal_of t.token ≡ terminal.Or → Outcome whole d ts) → (k : Terminal) → terminal_of t.token ≡ k → Outcome whole d ts
    or_or_end d ts us t q s f h more terminal.And e = absurd (no_conjunction_goes_on e h)
    or_or_end d ts us t q s f h more terminal.Or e = more e
    or_or_end d ts us t q s f h more k e = inl (record { query = q; rest = t ∷ us; spelled = s; shorter = f; stops = rw e tt })

    or_more : (k d : ℕ) (ts us : List Placed) (q : Query A) → Spells key_at atom_of whole ts q us → length us < length ts → Stops conjunction us → length us ≤ k → length us ≤ n → Outcome whole d ts
    or_more k d ts [] q s f h l m = inl (record { query = q; rest = []; spelled = s; shorter = f; stops = tt })
    or_more zero d ts (t ∷ us) q s f h l m = absurd (omega arith)
    or_more (suc k) d ts (t ∷ us) q s f h l m = or_or_end d ts us t q s f h
        (λ e. ⊎_elim
        (λ r. or_more k d ts r.rest (either q r.query) (or_of s e r.spelled) (omega (arith, r.shorter)) r.stops (omega (arith, r.shorter)) (omega (arith, r.shorter)))
        (λ b. inr (b.0, refused_before key_at atom_of len d b.0 s (moves (ap (λ k. move behind d k) e) b.1)))
        (conjunctions d us (omega arith)))
        (terminal_of t.token) refl

    wholes : DecidesShort whole n
    wholes d ts l = ⊎_elim
        (λ r. or_more n d ts r.rest r.query (one_conjunction r.spelled) r.shorter r.stops (omega (arith, r.shorter)) (omega (arith, r.shorter)))
        (λ b. inr b)
        (conjunctions d ts l)

    closes : (d : ℕ) (t u : Placed) (ts rest : List Placed) (q : Query A) → terminal_of t.token ≡ terminal.Open → Spells key_at atom_of whole ts q (u ∷ rest) → length (u ∷ rest) < length ts → IsEnd whole (terminal_of u.token) → (k : Terminal) → terminal_of u.token ≡ k → Outcome unit d (t ∷ ts)
    closes d t u ts rest q o s f h terminal.Close e = inl (record { query = q; rest = rest; spelled = in_brackets o s e; shorter = omega arith; stops = stops_unit rest })
    closes d t u ts rest q o s f h terminal.And e = absurd (no_and_goes_on e h)
    closes d t u ts rest q o s f h terminal.Or e = absurd (no_or_goes_on e h)
    closes d t u ts rest q o s f h k e = inr (u.place, moves (ap (λ k. move before d k) o) (refused_before key_at atom_of len (suc d) u.place s (stuck (ap (λ k. move behind (suc d) k) e))))

    brackets : (d : ℕ) (t : Placed) (ts rest : List Placed) (q : Query A) → terminal_of t.token ≡ terminal.Open → Spells key_at atom_of whole ts q rest → length rest < length ts → Stops whole rest → Outcome unit d (t ∷ ts)
    brackets d t ts [] q o s f h = inr (len, moves (ap (λ k. move before d k) o) (refused_before key_at atom_of len (suc d) len s ends_open))
    brackets d t ts (u ∷ rest) q o s f h = closes d t u ts rest q o s f h (terminal_of u.token) refl

    keys : (d : ℕ) (t : Placed) (ts : List Placed) (r : Rel) → terminal_of t.token ≡ terminal.Relation r → (read : Reading K) → key_at ts ≡ read → LeavesFewer (length ts) read → Outcome unit d (t ∷ ts)
    keys d t ts r e (Ok x) k f = inl (record { query = atom (atom_of r x.0); rest = x.1; spelled = relation_of e k; shorter = omega arith; stops = stops_unit x.1 })
    keys d t ts r e (Err place) k f = inr (place, bad_key (ap (λ k. move before d k) e) k)

    begins_unit : (d : ℕ) (t : Placed) (ts : List Placed) → length ts ≤ n → (k : Terminal) → terminal_of t.token ≡ k → Outcome unit d (t ∷ ts)
    begins_unit d t ts l terminal.Not e = ⊎_elim
        (λ r. inl (record { query = never r.query; rest = r.rest; spelled = not_of e r.spelled; shorter = omega (arith, r.shorter); stops = stops_unit r.rest }))
        (λ b. inr (b.0, moves (ap (λ k. move before d k) e) b.1))
        (units d ts l)
    begins_unit d t ts l terminal.Open e = ⊎_elim
        (λ r. brackets d t ts r.rest r.query e r.spelled r.shorter r.stops)
        (λ b. inr (b.0, moves (ap (λ k. move before d k) e) b.1))
        (wholes (suc d) ts l)
    begins_unit d t ts l (terminal.Relation r) e = keys d t ts r e (key_at ts) refl (fewer ts)
    begins_unit d t ts l k e = inr (t.place, stuck (ap (λ k. move before d k) e))

  units : (n : ℕ) → DecidesShort unit n
  units n d [] l = inr (len, ends_before)
  units zero d (t ∷ ts) l = absurd (omega arith)
  units (suc n) d (t ∷ ts) l = begins_unit n (units n) d t ts (omega arith) (terminal_of t.token) refl

  abbrev Decided : List Placed → Type 0
  Decided ts = ((q : Query A) × Spells key_at atom_of whole ts q []) ⊎ ((place : ℕ) × Refused key_at len before 0 ts place)

  ends_or_stuck : (ts us : List Placed) (u : Placed) (q : Query A) → Spells key_at atom_of whole ts q (u ∷ us) → IsEnd whole (terminal_of u.token) → (k : Terminal) → terminal_of u.token ≡ k → Decided ts
  ends_or_stuck ts us u q s h terminal.And e = absurd (no_and_goes_on e h)
  ends_or_stuck ts us u q s h terminal.Or e = absurd (no_or_goes_on e h)
  ends_or_stuck ts us u q s h k e = inr (u.place, refused_before key_at atom_of len 0 u.place s (stuck (ap (λ k. move behind 0 k) e)))

  ends : (ts rest : List Placed) (q : Query A) → Spells key_at atom_of whole ts q rest → Stops whole rest → Decided ts
  ends ts [] q s h = inl (q, s)
  ends ts (u ∷ us) q s h = ends_or_stuck ts us u q s h (terminal_of u.token) refl

  -- tokens spell a query up to their end, or are refused
  pub spelled_or_refused : (ts : List Placed) → Decided ts
  spelled_or_refused ts = ⊎_elim
      (λ r. ends ts r.rest r.query r.spelled r.stops)
      (λ b. inr b)
      (wholes (length ts) (units (length ts)) 0 ts (omega arith))
