-- No tokens spell two queries, none that spell a query are refused, and none are refused at two places.
use Rattle.std.proofs.Common.{◌≡◌, ℕ, zero, suc, List, [], ◌∷◌, Option, Some, None, Ok, Err, ap, refl, sym, ◌∙◌, subst}
use Rattle.key_class.specs.declared.sides.Rel.{Rel}
use Rattle.key_class.specs.Queries.{Query, atom, both, either, never}
use Rattle.query_text.specs.declared.terminal.Terminal.{Terminal}
use Rattle.query_text.specs.declared.terminal.Terminal.TheVariants as terminal
use Rattle.query_text.specs.Tokens.{Placed}
use Rattle.query_text.specs.Keys.{Reading}
use Rattle.query_text.specs.Grammar.{terminal_of, Level, whole, conjunction, unit, Spells, one_conjunction, or_of, one_unit, and_of, not_of, in_brackets, relation_of, Point, before, behind, goes, key_follows, refused, move, Refused, ends_before, ends_open, stuck, moves, bad_key, good_key}

-- what an open bracket, or the text, has read so far
record Frame (A : Type 0) : Type 0 where
  ors : Option (Query A)
  ands : Option (Query A)
  nots : ℕ

-- a reader of tokens from the left: a unit is due, or one is done
data Config (A : Type 0) : Type 0 where
  due : Frame A → List (Frame A) → List Placed → Config A
  done : Option (Query A) → Query A → List (Frame A) → List Placed → Config A

abbrev nots_of : {A : Type 0} → ℕ → Query A → Query A
nots_of zero u = u
nots_of (suc n) u = nots_of n (never u)

abbrev anded : {A : Type 0} → Option (Query A) → Query A → Query A
anded None u = u
anded (Some a) u = both a u

abbrev ored : {A : Type 0} → Option (Query A) → Query A → Query A
ored None u = u
ored (Some a) u = either a u

abbrev finish : {A : Type 0} → Frame A → Query A → List (Frame A) → List Placed → Config A
finish f u gs ts = done f.ors (anded f.ands (nots_of f.nots u)) gs ts

abbrev bare : {A : Type 0} → Option (Query A) → Frame A
bare o = record { ors = o; ands = None; nots = 0 }

abbrev key_step : {K A : Type 0} → (Rel → K → A) → Frame A → List (Frame A) → Rel → Reading K → Option (Config A)
key_step atom_of f gs r (Ok x) = Some (finish f (atom (atom_of r x.0)) gs x.1)
key_step atom_of f gs r (Err p) = None

module _ {K A : Type 0} (key_at : List Placed → Reading K) (atom_of : Rel → K → A) where
  abbrev due_step : Frame A → List (Frame A) → List Placed → Terminal → Option (Config A)
  due_step f gs ts terminal.Not = Some (due (record f { nots = suc f.nots }) gs ts)
  due_step f gs ts terminal.Open = Some (due (bare None) (f ∷ gs) ts)
  due_step f gs ts (terminal.Relation r) = key_step atom_of f gs r (key_at ts)
  due_step f gs ts _ = None

  abbrev done_step : Option (Query A) → Query A → List (Frame A) → List Placed → Terminal → Option (Config A)
  done_step o c gs ts terminal.And = Some (due (record { ors = o; ands = Some c; nots = 0 }) gs ts)
  done_step o c gs ts terminal.Or = Some (due (bare (Some (ored o c))) gs ts)
  done_step o c (g ∷ gs) ts terminal.Close = Some (finish g (ored o c) gs ts)
  done_step o c gs ts _ = None

  abbrev step : Config A → Option (Config A)
  step (due f gs []) = None
  step (due f gs (t ∷ ts)) = due_step f gs ts (terminal_of t.token)
  step (done o c gs []) = None
  step (done o c gs (t ∷ ts)) = done_step o c gs ts (terminal_of t.token)

  data Run : Config A → Config A → Type 0 where
    stay : {a : Config A} → Run a a
    go : {a b c : Config A} → step a ≡ Some b → Run b c → Run a c

  chain : {a b c : Config A} → Run a b → Run b c → Run a c
  chain stay r = r
  chain (go e s) r = go e (chain s r)

  one : {a b : Config A} → step a ≡ Some b → Run a b
  one e = go e stay

  same_end : {a b c : Config A} → Run a b → step b ≡ None → Run a c → step c ≡ None → b ≡ c
  same_end stay f stay g = refl
  same_end stay f (go e r) g = let bad : None ≡ Some _ = sym f ∙ e in cc
  same_end (go e r) f stay g = let bad : None ≡ Some _ = sym g ∙ e in cc
  same_end (go {b = x} e r) f (go {b = y} {c = w} h s) g = let k : Some x ≡ Some y = sym e ∙ h in let l : x ≡ y = cc in same_end r f (subst (λ (z : Config A). Run z w) (sym l) s) g

  abbrev Reaches : Level → List Placed → Query A → List Placed → Type 0
  Reaches unit ts q rest = (f : Frame A) (gs : List (Frame A)) → Run (due f gs ts) (finish f q gs rest)
  Reaches conjunction ts q rest = (o : Option (Query A)) (gs : List (Frame A)) → Run (due (bare o) gs ts) (done o q gs rest)
  Reaches whole ts q rest = (gs : List (Frame A)) → (o : Option (Query A)) × (c : Query A) × Run (due (bare None) gs ts) (done o c gs rest) × (ored o c ≡ q)

  reaches : {level : Level} {ts rest : List Placed} {q : Query A} → Spells key_at atom_of level ts q rest → Reaches level ts q rest
  reaches (one_conjunction {q = q} s) = λ gs. (None, q, reaches s None gs, refl)
  reaches (or_of {us = us} {a = a} {b = b} s e u) = λ gs.
      let l = reaches s gs in
      let m = ap (λ k. done_step l.0 l.1 gs us k) e in
      (Some a, b, chain l.2 (go (m ∙ ap (λ x. Some (due (bare (Some x)) gs us)) l.3) (reaches u (Some a) gs)), refl)
  reaches (one_unit s) = λ o gs. reaches s (bare o) gs
  reaches (and_of {us = us} {a = a} s e u) = λ o gs.
      chain (reaches s o gs) (go (ap (λ k. done_step o a gs us k) e) (reaches u (record { ors = o; ands = Some a; nots = 0 }) gs))
  reaches (not_of {ts = ts} e s) = λ f gs. go (ap (λ k. due_step f gs ts k) e) (reaches s (record f { nots = suc f.nots }) gs)
  reaches (in_brackets {ts = ts} {rest = rest} e s h) = λ f gs.
      let l = reaches s (f ∷ gs) in
      go (ap (λ k. due_step f gs ts k) e) (chain l.2 (one (ap (λ k. done_step l.0 l.1 (f ∷ gs) rest k) h ∙ ap (λ x. Some (finish f x gs rest)) l.3)))
  reaches (relation_of {ts = ts} {r = r} e k) = λ f gs. one (ap (λ k. due_step f gs ts k) e ∙ ap (λ x. key_step atom_of f gs r x) k)

  queries_equal : {o p : Option (Query A)} {a b : Query A} → done o a [] [] ≡ done p b [] [] → ored o a ≡ ored p b
  queries_equal e = cc

  pub one_query : {ts : List Placed} {q r : Query A} → Spells key_at atom_of whole ts q [] → Spells key_at atom_of whole ts r [] → q ≡ r
  one_query s u =
      let l = reaches s [] in
      let m = reaches u [] in
      let e = same_end l.2 refl m.2 refl in
      sym l.3 ∙ queries_equal e ∙ m.3

  -- what a refusal says of what is left
  behind_move : (len : ℕ) {point next : Point} {d e p : ℕ} {t : Placed} {ts : List Placed} → Refused key_at len point d (t ∷ ts) p → move point d (terminal_of t.token) ≡ goes next e → Refused key_at len next e ts p
  behind_move len (stuck m) g = let bad : refused ≡ goes _ _ = sym m ∙ g in cc
  behind_move len {next = n} {e = k} (moves {next = x} {e = y} m r) g = let same : goes x y ≡ goes n k = sym m ∙ g in let a : x ≡ n = cc in let b : y ≡ k = cc in rw (← a, ← b) r
  behind_move len (bad_key m k) g = let bad : key_follows ≡ goes _ _ = sym m ∙ g in cc
  behind_move len (good_key m k r) g = let bad : key_follows ≡ goes _ _ = sym m ∙ g in cc

  behind_key : (len : ℕ) {point : Point} {d p : ℕ} {t : Placed} {ts rest : List Placed} {k : K} → Refused key_at len point d (t ∷ ts) p → move point d (terminal_of t.token) ≡ key_follows → key_at ts ≡ Ok (k, rest) → Refused key_at len behind d rest p
  behind_key len (stuck m) g f = let bad : refused ≡ key_follows = sym m ∙ g in cc
  behind_key len (moves m r) g f = let bad : goes _ _ ≡ key_follows = sym m ∙ g in cc
  behind_key len (bad_key m k) g f = let bad : Err _ ≡ Ok _ = sym k ∙ f in cc
  behind_key len {rest = z} {k = v} (good_key {rest = x} {k = y} m k r) g f = let same : Ok (y, x) ≡ Ok (v, z) = sym k ∙ f in let pair : (y, x) ≡ (v, z) = cc in let a : x ≡ z = ap (λ (p : K × List Placed). p.1) pair in rw (← a) r

  refused_behind : {level : Level} {ts rest : List Placed} {q : Query A} → (len d p : ℕ) → Spells key_at atom_of level ts q rest → Refused key_at len before d ts p → Refused key_at len behind d rest p
  refused_behind len d p (one_conjunction s) r = refused_behind len d p s r
  refused_behind len d p (or_of s e u) r = refused_behind len d p u (behind_move len (refused_behind len d p s r) (ap (λ k. move behind d k) e))
  refused_behind len d p (one_unit s) r = refused_behind len d p s r
  refused_behind len d p (and_of s e u) r = refused_behind len d p u (behind_move len (refused_behind len d p s r) (ap (λ k. move behind d k) e))
  refused_behind len d p (not_of e s) r = refused_behind len d p s (behind_move len r (ap (λ k. move before d k) e))
  refused_behind len d p (in_brackets e s h) r =
      behind_move len (refused_behind len (suc d) p s (behind_move len r (ap (λ k. move before d k) e))) (ap (λ k. move behind (suc d) k) h)
  refused_behind len d p (relation_of e k) r = behind_key len r (ap (λ k. move before d k) e) k

  nothing_left : {len p : ℕ} → Refused key_at len behind zero [] p → ⊥
  nothing_left r = elim r [ ]

  pub spelled_not_refused : {ts : List Placed} {q : Query A} → (len p : ℕ) → Spells key_at atom_of whole ts q [] → Refused key_at len before zero ts p → ⊥
  spelled_not_refused len p s r = nothing_left (refused_behind len zero p s r)

  stuck_place : (len : ℕ) {point : Point} {d p : ℕ} {t : Placed} {ts : List Placed} → Refused key_at len point d (t ∷ ts) p → move point d (terminal_of t.token) ≡ refused → p ≡ t.place
  stuck_place len (stuck m) g = refl
  stuck_place len (moves m r) g = let bad : goes _ _ ≡ refused = sym m ∙ g in cc
  stuck_place len (bad_key m k) g = let bad : key_follows ≡ refused = sym m ∙ g in cc
  stuck_place len (good_key m k r) g = let bad : key_follows ≡ refused = sym m ∙ g in cc

  key_place : (len : ℕ) {point : Point} {d p e : ℕ} {t : Placed} {ts : List Placed} → Refused key_at len point d (t ∷ ts) p → move point d (terminal_of t.token) ≡ key_follows → key_at ts ≡ Err e → p ≡ e
  key_place len (stuck m) g f = let bad : refused ≡ key_follows = sym m ∙ g in cc
  key_place len (moves m r) g f = let bad : goes _ _ ≡ key_follows = sym m ∙ g in cc
  key_place len {p = p} {e = e} (bad_key m k) g f = let same : Err p ≡ Err e = sym k ∙ f in cc
  key_place len (good_key m k r) g f = let bad : Ok _ ≡ Err _ = sym k ∙ f in cc

  end_before : (len : ℕ) {d p : ℕ} → Refused key_at len before d [] p → p ≡ len
  end_before len ends_before = refl

  end_open : (len : ℕ) {d p : ℕ} → Refused key_at len behind (suc d) [] p → p ≡ len
  end_open len ends_open = refl

  -- tokens are refused at one place
  pub one_place : (len : ℕ) {point : Point} {d p q : ℕ} {ts : List Placed} → Refused key_at len point d ts p → Refused key_at len point d ts q → p ≡ q
  one_place len ends_before r = sym (end_before len r)
  one_place len ends_open r = sym (end_open len r)
  one_place len (stuck m) r = sym (stuck_place len r m)
  one_place len (moves m s) r = one_place len s (behind_move len r m)
  one_place len (bad_key m k) r = sym (key_place len r m k)
  one_place len (good_key m k s) r = one_place len s (behind_key len r m k)
