-- What the reader's steps make of what it has read.
use Rattle.std.proofs.Common.{◌≡◌, ℕ, suc, List, [], ◌∷◌, ◌++◌, Ok, Err, ap, refl, sym, ◌∙◌, ◌<◌}
use Rattle.std.proofs.lemmas.List.{reverse-append, append-nil}
use Rattle.key_class.specs.declared.sides.Rel.{Rel}
use Rattle.key_class.specs.declared.pred.Pred.{Pred}
use Rattle.key_class.specs.Queries.{Query, query_of, atom, both, either, never, depth_of}
use Rattle.query_text.specs.declared.terminal.Terminal.{Terminal}
use Rattle.query_text.specs.declared.terminal.Terminal.TheVariants as terminal
use Rattle.query_text.specs.declared.parser.Pending.{Pending}
use Rattle.query_text.specs.declared.parser.Pending.TheVariants.{Not, Bracket, And, Or}
use Rattle.query_text.specs.Tokens.{Placed}
use Rattle.query_text.specs.Keys.{Reading}
use Rattle.query_text.specs.ClassTexts.{Texts}
use Rattle.key_class.specs.Limits.{most_depth}
use Rattle.query_text.specs.Grammar.{terminal_of, Level, whole, conjunction, unit, Spells, one_conjunction, or_of, one_unit, and_of, not_of, in_brackets, relation_of, before, behind, move, refused, Refused, ends_before, ends_open, stuck, moves, bad_key, good_key, RefusesTokens, no_spelling, too_deep}
use Rattle.query_text.specs.Parsing.{open_brackets, Waits, at_start, in_whole, in_conjunction, behind_or, behind_and, behind_not, behind_bracket, HasRead, Completes, pending}

pub pending-push : {A : Type 0} (ps : List (Pending A)) (p : Pending A) → pending (ps ++ p ∷ []) ≡ p ∷ pending ps
pending-push ps p = reverse-append ps (p ∷ [])

-- nothing but `not`, an opening bracket and a relation may stand before a unit
stuck_before : (d : ℕ) (k : Terminal) → (k ≡ terminal.Not → ⊥) → (k ≡ terminal.Open → ⊥) → ((r : Rel) → k ≡ terminal.Relation r → ⊥) → move before d k ≡ refused
stuck_before d terminal.And a b c = refl
stuck_before d terminal.Or a b c = refl
stuck_before d terminal.Not a b c = absurd (a refl)
stuck_before d (terminal.Relation r) a b c = absurd (c r refl)
stuck_before d terminal.Open a b c = absurd (b refl)
stuck_before d terminal.Close a b c = refl
stuck_before d terminal.Other a b c = refl

-- nothing but `and`, `or` and a closing bracket may stand behind one
stuck_behind : (d : ℕ) (k : Terminal) → (k ≡ terminal.And → ⊥) → (k ≡ terminal.Or → ⊥) → (k ≡ terminal.Close → ⊥) → move behind d k ≡ refused
stuck_behind d terminal.And a b c = absurd (a refl)
stuck_behind d terminal.Or a b c = absurd (b refl)
stuck_behind d terminal.Not a b c = refl
stuck_behind d (terminal.Relation r) a b c = refl
stuck_behind d terminal.Open a b c = refl
stuck_behind d terminal.Close a b c = absurd (c refl)
stuck_behind d terminal.Other a b c = refl

module _ {K A : Type 0} (key_at : List Placed → Reading K) (atom_of : Rel → K → A) where
  no_or_due : {ps : List (Pending A)} {a : Pred A} {ts us : List Placed} → Waits key_at atom_of (Or a ∷ ps) whole ts us → ⊥
  no_or_due w = elim w [ ]

  no_and_due : {ps : List (Pending A)} {a : Pred A} {ts us : List Placed} → Waits key_at atom_of (And a ∷ ps) whole ts us → ⊥
  no_and_due w = elim w [ ]

  no_not_due : {ps : List (Pending A)} {ts us : List Placed} → Waits key_at atom_of (Not ∷ ps) whole ts us → ⊥
  no_not_due w = elim w [ ]

  no_and_left : {ps : List (Pending A)} {a : Pred A} {ts us : List Placed} → Waits key_at atom_of (And a ∷ ps) conjunction ts us → ⊥
  no_and_left (in_whole w) = no_and_due w

  no_not_left : {ps : List (Pending A)} {ts us : List Placed} → Waits key_at atom_of (Not ∷ ps) conjunction ts us → ⊥
  no_not_left (in_whole w) = no_not_due w

  -- a unit behind `not` ends a unit
  pub ends_not : {ps : List (Pending A)} {ts us rest : List Placed} {q : Query A} → Waits key_at atom_of (Not ∷ ps) unit ts us → Spells key_at atom_of unit us q rest → HasRead key_at atom_of ps unit (never q) ts rest
  ends_not (behind_not w e) s = (_, w, not_of e s)
  ends_not (in_conjunction w) s = absurd (no_not_left w)

  -- a unit behind `and` ends a conjunction
  pub ends_and : {ps : List (Pending A)} {ts us rest : List Placed} {a : Pred A} {q : Query A} → Waits key_at atom_of (And a ∷ ps) unit ts us → Spells key_at atom_of unit us q rest → HasRead key_at atom_of ps conjunction (both (query_of a) q) ts rest
  ends_and (behind_and w s e) u = (_, w, and_of s e u)
  ends_and (in_conjunction w) u = absurd (no_and_left w)

  -- a unit with no `and` or `not` before it is a conjunction

  pub first_unit : {ts us rest : List Placed} {q : Query A} → Waits key_at atom_of [] unit ts us → Spells key_at atom_of unit us q rest → HasRead key_at atom_of [] conjunction q ts rest
  first_unit (in_conjunction w) s = (_, w, one_unit s)

  pub unit_behind_or : {ps : List (Pending A)} {ts us rest : List Placed} {a : Pred A} {q : Query A} → Waits key_at atom_of (Or a ∷ ps) unit ts us → Spells key_at atom_of unit us q rest → HasRead key_at atom_of (Or a ∷ ps) conjunction q ts rest
  unit_behind_or (in_conjunction w) s = (_, w, one_unit s)

  pub unit_behind_bracket : {ps : List (Pending A)} {ts us rest : List Placed} {q : Query A} → Waits key_at atom_of (Bracket ∷ ps) unit ts us → Spells key_at atom_of unit us q rest → HasRead key_at atom_of (Bracket ∷ ps) conjunction q ts rest
  unit_behind_bracket (in_conjunction w) s = (_, w, one_unit s)

  -- a conjunction behind `or` ends a query
  pub ends_or : {ps : List (Pending A)} {ts us rest : List Placed} {a : Pred A} {q : Query A} → Waits key_at atom_of (Or a ∷ ps) conjunction ts us → Spells key_at atom_of conjunction us q rest → HasRead key_at atom_of ps whole (either (query_of a) q) ts rest
  ends_or (behind_or w s e) u = (_, w, or_of s e u)
  ends_or (in_whole w) u = absurd (no_or_due w)

  -- a conjunction with no `or` before it is a query
  pub first_conjunction : (ps : List (Pending A)) {ts us rest : List Placed} {q : Query A} → ((a : Pred A) (qs : List (Pending A)) → ps ≡ Or a ∷ qs → ⊥) → Waits key_at atom_of ps conjunction ts us → Spells key_at atom_of conjunction us q rest → HasRead key_at atom_of ps whole q ts rest
  first_conjunction ps n (in_whole w) s = (_, w, one_conjunction s)
  first_conjunction ps n (behind_or {ps = qs} {a = a} w s e) u = absurd (n a qs refl)

  -- a query behind a bracket and before a closing one is a unit
  pub ends_bracket : {ps : List (Pending A)} {ts us rest : List Placed} {t : Placed} {q : Query A} → Waits key_at atom_of (Bracket ∷ ps) whole ts us → Spells key_at atom_of whole us q (t ∷ rest) → terminal_of t.token ≡ terminal.Close → HasRead key_at atom_of ps unit q ts rest
  ends_bracket (behind_bracket w e) s f = (_, w, in_brackets e s f)

  -- with nothing pending a query began where the tokens begin
  pub whole_from_start : {ts us rest : List Placed} {q : Query A} → Waits key_at atom_of [] whole ts us → Spells key_at atom_of whole us q rest → Spells key_at atom_of whole ts q rest
  whole_from_start at_start s = s

  -- what is refused behind a spelling is refused there for the whole
  pub refused_before : {level : Level} {ts rest : List Placed} {q : Query A} → (len d p : ℕ) → Spells key_at atom_of level ts q rest → Refused key_at len behind d rest p → Refused key_at len before d ts p
  refused_before len d p (one_conjunction s) r = refused_before len d p s r
  refused_before len d p (or_of s e u) r = refused_before len d p s (moves (ap (λ k. move behind d k) e) (refused_before len d p u r))
  refused_before len d p (one_unit s) r = refused_before len d p s r
  refused_before len d p (and_of s e u) r = refused_before len d p s (moves (ap (λ k. move behind d k) e) (refused_before len d p u r))
  refused_before len d p (not_of e s) r = moves (ap (λ k. move before d k) e) (refused_before len d p s r)
  refused_before len d p (in_brackets e s f) r =
      moves (ap (λ k. move before d k) e) (refused_before len (suc d) p s (moves (ap (λ k. move behind (suc d) k) f) r))
  refused_before len d p (relation_of e k) r = good_key (ap (λ k. move before d k) e) k r

  -- what is refused where something is due is refused there for all the tokens
  pub refused_due : {ps : List (Pending A)} {level : Level} {ts us : List Placed} → (len p : ℕ) → Waits key_at atom_of ps level ts us → Refused key_at len before (open_brackets ps) us p → Refused key_at len before 0 ts p
  refused_due len p at_start r = r
  refused_due len p (in_whole w) r = refused_due len p w r
  refused_due len p (in_conjunction w) r = refused_due len p w r
  refused_due len p (behind_or {ps = ps} w s e) r = refused_due len p w (refused_before len (open_brackets ps) p s (moves (ap (λ k. move behind (open_brackets ps) k) e) r))
  refused_due len p (behind_and {ps = ps} w s e) r = refused_due len p w (refused_before len (open_brackets ps) p s (moves (ap (λ k. move behind (open_brackets ps) k) e) r))
  refused_due len p (behind_not {ps = ps} w e) r = refused_due len p w (moves (ap (λ k. move before (open_brackets ps) k) e) r)
  refused_due len p (behind_bracket {ps = ps} w e) r = refused_due len p w (moves (ap (λ k. move before (open_brackets ps) k) e) r)

  -- the same behind what was read
  pub refused_behind_read : {ps : List (Pending A)} {level : Level} {ts us rest : List Placed} {q : Query A} → (len p : ℕ) → Waits key_at atom_of ps level ts us → Spells key_at atom_of level us q rest → Refused key_at len behind (open_brackets ps) rest p → Refused key_at len before 0 ts p
  refused_behind_read {ps = ps} len p w s r = refused_due len p w (refused_before len (open_brackets ps) p s r)

  -- the steps over the list that the stack is, whose end is its top

  pub completes_not : (old new : List (Pending A)) (q : Query A) → old ≡ new ++ Not ∷ [] → Completes key_at atom_of (pending old) unit q (pending new) unit (never q)
  completes_not old new q e ts rest h =
      let top : pending old ≡ Not ∷ pending new = ap pending e ∙ pending-push new Not in
      ends_not (rw top at h.1) h.2

  pub completes_and : (old new : List (Pending A)) (a : Pred A) (q : Query A) → old ≡ new ++ And a ∷ [] → Completes key_at atom_of (pending old) unit q (pending new) conjunction (both (query_of a) q)
  completes_and old new a q e ts rest h =
      let top : pending old ≡ And a ∷ pending new = ap pending e ∙ pending-push new (And a) in
      ends_and (rw top at h.1) h.2

  pub completes_first_unit : (old new : List (Pending A)) (q : Query A) → old ≡ new ++ [] → old ≡ [] → Completes key_at atom_of (pending old) unit q (pending new) conjunction q
  completes_first_unit old new q e n ts rest h =
      let top : pending old ≡ [] = ap pending n in
      let same : pending new ≡ pending old = ap pending (sym (e ∙ append-nil new)) in
      rw (same, top) (first_unit (rw top at h.1) h.2)

  pub completes_unit_behind_or : (old new back : List (Pending A)) (a : Pred A) (q : Query A) → old ≡ new ++ Or a ∷ [] → back ≡ new ++ Or a ∷ [] → Completes key_at atom_of (pending old) unit q (pending back) conjunction q
  completes_unit_behind_or old new back a q e f ts rest h =
      let top : pending old ≡ Or a ∷ pending new = ap pending e ∙ pending-push new (Or a) in
      let same : pending back ≡ Or a ∷ pending new = ap pending f ∙ pending-push new (Or a) in
      rw same (unit_behind_or (rw top at h.1) h.2)

  pub completes_unit_behind_bracket : (old new back : List (Pending A)) (q : Query A) → old ≡ new ++ Bracket ∷ [] → back ≡ new ++ Bracket ∷ [] → Completes key_at atom_of (pending old) unit q (pending back) conjunction q
  completes_unit_behind_bracket old new back q e f ts rest h =
      let top : pending old ≡ Bracket ∷ pending new = ap pending e ∙ pending-push new Bracket in
      let same : pending back ≡ Bracket ∷ pending new = ap pending f ∙ pending-push new Bracket in
      rw same (unit_behind_bracket (rw top at h.1) h.2)

  pub completes_or : (old new : List (Pending A)) (a : Pred A) (q : Query A) → old ≡ new ++ Or a ∷ [] → Completes key_at atom_of (pending old) conjunction q (pending new) whole (either (query_of a) q)
  completes_or old new a q e ts rest h =
      let top : pending old ≡ Or a ∷ pending new = ap pending e ∙ pending-push new (Or a) in
      ends_or (rw top at h.1) h.2

  pub completes_first : (old new : List (Pending A)) (q : Query A) → old ≡ new ++ [] → old ≡ [] → Completes key_at atom_of (pending old) conjunction q (pending new) whole q
  completes_first old new q e n ts rest h =
      let top : pending old ≡ [] = ap pending n in
      let same : pending new ≡ pending old = ap pending (sym (e ∙ append-nil new)) in
      rw (same, top) (first_conjunction [] (λ a qs b. cc) (rw top at h.1) h.2)

  pub completes_no_or : (old new back : List (Pending A)) (p : Pending A) (q : Query A) → old ≡ new ++ p ∷ [] → back ≡ new ++ p ∷ [] → ((a : Pred A) → p ≡ Or a → ⊥) → Completes key_at atom_of (pending old) conjunction q (pending back) whole q
  completes_no_or old new back p q e f n ts rest h =
      let top : pending old ≡ p ∷ pending new = ap pending e ∙ pending-push new p in
      let same : pending back ≡ p ∷ pending new = ap pending f ∙ pending-push new p in
      rw same (first_conjunction (p ∷ pending new) (λ a qs b. n a (let k : p ≡ Or a = cc in k)) (rw top at h.1) h.2)

  -- the steps where a unit is due

  pub waits_behind_not : (old new : List (Pending A)) (ts us vs : List Placed) (t : Placed) → new ≡ old ++ Not ∷ [] → us ≡ t ∷ vs → terminal_of t.token ≡ terminal.Not → Waits key_at atom_of (pending old) unit ts us → Waits key_at atom_of (pending new) unit ts vs
  waits_behind_not old new ts us vs t e f m w =
      let top : pending new ≡ Not ∷ pending old = ap pending e ∙ pending-push old Not in
      rw top (behind_not (rw f at w) m)

  pub waits_behind_bracket : (old new : List (Pending A)) (ts us vs : List Placed) (t : Placed) → new ≡ old ++ Bracket ∷ [] → us ≡ t ∷ vs → terminal_of t.token ≡ terminal.Open → Waits key_at atom_of (pending old) unit ts us → Waits key_at atom_of (pending new) unit ts vs
  waits_behind_bracket old new ts us vs t e f m w =
      let top : pending new ≡ Bracket ∷ pending old = ap pending e ∙ pending-push old Bracket in
      rw top (in_conjunction (in_whole (behind_bracket (rw f at w) m)))

  pub reads_atom : (ps : List (Pending A)) (ts us vs rest : List Placed) (t : Placed) (r : Rel) (k : K) → us ≡ t ∷ vs → terminal_of t.token ≡ terminal.Relation r → key_at vs ≡ Ok (k, rest) → Waits key_at atom_of ps unit ts us → HasRead key_at atom_of ps unit (atom (atom_of r k)) ts rest
  reads_atom ps ts us vs rest t r k f m e w = (us, w, rw f (relation_of m e))

  pub refuses_end : (len : ℕ) (ps : List (Pending A)) (ts us : List Placed) → us ≡ [] → Waits key_at atom_of ps unit ts us → Refused key_at len before 0 ts len
  refuses_end len ps ts us f w = refused_due len len w (rw f ends_before)

  pub refuses_key : (len p : ℕ) (ps : List (Pending A)) (ts us vs : List Placed) (t : Placed) (r : Rel) → us ≡ t ∷ vs → terminal_of t.token ≡ terminal.Relation r → key_at vs ≡ Err p → Waits key_at atom_of ps unit ts us → Refused key_at len before 0 ts p
  refuses_key len p ps ts us vs t r f m e w = refused_due len p w (rw f (bad_key (ap (λ k. move before (open_brackets ps) k) m) e))

  pub refuses_token : (len : ℕ) (ps : List (Pending A)) (ts us vs : List Placed) (t : Placed) → us ≡ t ∷ vs → (terminal_of t.token ≡ terminal.Not → ⊥) → (terminal_of t.token ≡ terminal.Open → ⊥) → ((r : Rel) → terminal_of t.token ≡ terminal.Relation r → ⊥) → Waits key_at atom_of ps unit ts us → Refused key_at len before 0 ts t.place
  refuses_token len ps ts us vs t f a b c w = refused_due len t.place w (rw f (stuck (stuck_before (open_brackets ps) (terminal_of t.token) a b c)))

  -- the steps behind a conjunction or a query

  pub waits_behind_and : (old new : List (Pending A)) (a : Pred A) (ts us vs : List Placed) (t : Placed) → new ≡ old ++ And a ∷ [] → us ≡ t ∷ vs → terminal_of t.token ≡ terminal.And → HasRead key_at atom_of (pending old) conjunction (query_of a) ts us → Waits key_at atom_of (pending new) unit ts vs
  waits_behind_and old new a ts us vs t e f m h =
      let top : pending new ≡ And a ∷ pending old = ap pending e ∙ pending-push old (And a) in
      rw top (behind_and h.1 (rw f at h.2) m)

  pub waits_behind_or : (old new : List (Pending A)) (a : Pred A) (ts us vs : List Placed) (t : Placed) → new ≡ old ++ Or a ∷ [] → us ≡ t ∷ vs → terminal_of t.token ≡ terminal.Or → HasRead key_at atom_of (pending old) whole (query_of a) ts us → Waits key_at atom_of (pending new) unit ts vs
  waits_behind_or old new a ts us vs t e f m h =
      let top : pending new ≡ Or a ∷ pending old = ap pending e ∙ pending-push old (Or a) in
      rw top (in_conjunction (behind_or h.1 (rw f at h.2) m))

  -- where a query is due, nothing is pending, or a bracket is the last
  pub bracket_or_start : (old new : List (Pending A)) (p : Pending A) (q : Query A) (ts us : List Placed) → old ≡ new ++ p ∷ [] → HasRead key_at atom_of (pending old) whole q ts us → p ≡ Bracket
  bracket_or_start old new p q ts us e h =
      let top : pending old ≡ p ∷ pending new = ap pending e ∙ pending-push new p in
      is_bracket p (rw top at h.1)
    where
      is_bracket : (p : Pending A) → Waits key_at atom_of (p ∷ pending new) whole ts h.0 → p ≡ Bracket
      is_bracket Bracket w = refl
      is_bracket Not w = absurd (no_not_due w)
      is_bracket (And a) w = absurd (no_and_due w)
      is_bracket (Or a) w = absurd (no_or_due w)

  pub closes_bracket : (old new : List (Pending A)) (p : Pending A) (q : Query A) (ts us vs : List Placed) (t : Placed) → old ≡ new ++ p ∷ [] → us ≡ t ∷ vs → terminal_of t.token ≡ terminal.Close → HasRead key_at atom_of (pending old) whole q ts us → HasRead key_at atom_of (pending new) unit q ts vs
  closes_bracket old new p q ts us vs t e f m h =
      let b : p ≡ Bracket = bracket_or_start old new p q ts us e h in
      let top : pending old ≡ Bracket ∷ pending new = ap pending e ∙ (pending-push new p ∙ ap (λ (x : Pending A). x ∷ pending new) b) in
      ends_bracket (rw top at h.1) (rw f at h.2) m

  pub ends_whole : (old : List (Pending A)) (q : Query A) (ts us : List Placed) → old ≡ [] → us ≡ [] → HasRead key_at atom_of (pending old) whole q ts us → Spells key_at atom_of whole ts q []
  ends_whole old q ts us e f h =
      let top : pending old ≡ [] = ap pending e in
      whole_from_start (rw top at h.1) (rw f at h.2)

  pub refuses_open_end : (len : ℕ) (old new : List (Pending A)) (p : Pending A) (q : Query A) (ts us : List Placed) → old ≡ new ++ p ∷ [] → us ≡ [] → HasRead key_at atom_of (pending old) whole q ts us → Refused key_at len before 0 ts len
  refuses_open_end len old new p q ts us e f h =
      let b : p ≡ Bracket = bracket_or_start old new p q ts us e h in
      let top : pending old ≡ Bracket ∷ pending new = ap pending e ∙ (pending-push new p ∙ ap (λ (x : Pending A). x ∷ pending new) b) in
      refused_behind_read len len h.1 h.2 (rw (top, f) ends_open)

  pub refuses_close : (len : ℕ) (old : List (Pending A)) (q : Query A) (ts us vs : List Placed) (t : Placed) → old ≡ [] → us ≡ t ∷ vs → terminal_of t.token ≡ terminal.Close → HasRead key_at atom_of (pending old) whole q ts us → Refused key_at len before 0 ts t.place
  refuses_close len old q ts us vs t e f m h =
      let top : pending old ≡ [] = ap pending e in
      refused_behind_read len t.place h.1 h.2 (rw (top, f) (stuck (ap (λ k. move behind 0 k) m)))

  pub refuses_behind : (len : ℕ) (ps : List (Pending A)) (q : Query A) (ts us vs : List Placed) (t : Placed) → us ≡ t ∷ vs → (terminal_of t.token ≡ terminal.And → ⊥) → (terminal_of t.token ≡ terminal.Or → ⊥) → (terminal_of t.token ≡ terminal.Close → ⊥) → HasRead key_at atom_of ps conjunction q ts us → Refused key_at len before 0 ts t.place
  refuses_behind len ps q ts us vs t f a b c h = refused_behind_read len t.place h.1 h.2 (rw f (stuck (stuck_behind (open_brackets ps) (terminal_of t.token) a b c)))

  pub waits_at_start : (ps : List (Pending A)) (ts : List Placed) → ps ≡ [] → Waits key_at atom_of (pending ps) unit ts ts
  waits_at_start ps ts e =
      let top : pending ps ≡ [] = ap pending e in
      rw top (in_conjunction (in_whole at_start))

-- what is refused, as the calls say it

pub refuses_empty : {K A : Type 0} (texts : Texts K A) (len : ℕ) (ts : List Placed) → ts ≡ [] → RefusesTokens texts len ts len
refuses_empty texts len ts e = rw e (no_spelling ends_before)

pub refuses_deep : {K A : Type 0} (texts : Texts K A) (len : ℕ) (ts us : List Placed) (t : Placed) (q : Query A) → ts ≡ t ∷ us → Spells (texts.key_at len) texts.atom_of whole ts q [] → most_depth < depth_of q → RefusesTokens texts len ts t.place
refuses_deep texts len ts us t q e s d = rw e (too_deep (rw e at s) d)
