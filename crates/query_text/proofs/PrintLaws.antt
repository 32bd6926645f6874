-- The text that printing gives is cut into tokens that spell the query.
use Rattle.std.proofs.Common.{◌≡◌, ℕ, ◌+◌, ◌≤◌, true, false, not, List, [], ◌∷◌, ◌++◌, length, drop, refl, append_assoc, length-append, arith}
use Rattle.std.specs.Prelude.{codes}
use Rattle.std.proofs.Math.Seq.{drop-append_seam}
use Rattle.std.proofs.lemmas.List.{append-nil}
use Rattle.std.proofs.lemmas.Bool.{not-true}
use Rattle.key_class.specs.declared.sides.Rel.{Rel}
use Rattle.key_class.specs.declared.sides.Rel.TheVariants.{Overlaps, Within, Holds, Same}
use Rattle.key_class.specs.Queries.{Query, atom, both, either, never, depth_of}
use Rattle.query_text.specs.declared.terminal.Terminal.TheVariants as terminal
use Rattle.query_text.specs.Tokens.{Placed, at, word, open_bracket, close_bracket, is_letter, begins, beginning, Cuts, cut_nothing, cut_space, cut_token}
use Rattle.query_text.specs.Keys.{Reading, ReadsBack}
use Rattle.query_text.specs.ClassTexts.{Texts, AtomReadsBack}
use Rattle.key_class.specs.Limits.{most_bytes, most_depth}
use Rattle.query_text.specs.Grammar.{rel_word, keyword_of, Level, whole, conjunction, unit, Spells, one_conjunction, or_of, one_unit, and_of, not_of, in_brackets, relation_of, SpellsText}
use Rattle.query_text.specs.Printing.{is_or, is_and_or_or, bracketed, text_of, begins_apart, EachAtom, IsSpelling}
use Rattle.query_text.proofs.TextLaws.{cuts_open, cuts_close}

not_letter : (b : ℕ) → not (is_letter b) ≡ true → is_letter b ≡ false
not_letter b h = not-true (is_letter b) h

word_begins : (r : Rel) (xs : List ℕ) → begins_apart xs ≡ true → beginning (rel_word r ++ xs) ≡ begins (word (rel_word r)) (length (rel_word r))
word_begins r [] h = cc
word_begins Overlaps (b ∷ bs) h = rw (not_letter b h) refl
word_begins Within (b ∷ bs) h = rw (not_letter b h) refl
word_begins Holds (b ∷ bs) h = rw (not_letter b h) refl
word_begins Same (b ∷ bs) h = rw (not_letter b h) refl

begins_apart-append : (xs ys : List ℕ) → begins_apart xs ≡ true → begins_apart (xs ++ ys) ≡ true
begins_apart-append [] ys h = cc
begins_apart-append (b ∷ bs) ys h = h

keyword_of_rel : (r : Rel) → keyword_of (rel_word r) ≡ terminal.Relation r
keyword_of_rel Overlaps = refl
keyword_of_rel Within = refl
keyword_of_rel Holds = refl
keyword_of_rel Same = refl

cuts_rel : (r : Rel) (place : ℕ) (xs : List ℕ) (ts : List Placed) → begins_apart xs ≡ true → Cuts true (place + length (rel_word r)) xs ts → Cuts false place (rel_word r ++ xs) (at place (word (rel_word r)) ∷ ts)
cuts_rel r place xs ts h c =
    let left : drop (length (rel_word r)) (rel_word r ++ xs) ≡ xs = drop-append_seam (rel_word r) xs in
    cut_token (word_begins r xs h) refl (rw left c)

cuts_or : (place : ℕ) (bytes : List ℕ) (ts : List Placed) → Cuts false (place + 4) bytes ts → Cuts false place (codes " or " ++ bytes) (at (place + 1) (word (codes "or")) ∷ ts)
cuts_or place bytes ts c =
    let end : place + 4 ≡ place + 1 + 2 + 1 = omega arith in
    cut_space refl (cut_token refl refl (cut_space refl (rw end at c)))

cuts_and : (place : ℕ) (bytes : List ℕ) (ts : List Placed) → Cuts false (place + 5) bytes ts → Cuts false place (codes " and " ++ bytes) (at (place + 1) (word (codes "and")) ∷ ts)
cuts_and place bytes ts c =
    let end : place + 5 ≡ place + 1 + 3 + 1 = omega arith in
    cut_space refl (cut_token refl refl (cut_space refl (rw end at c)))

cuts_not : (place : ℕ) (bytes : List ℕ) (ts : List Placed) → Cuts false (place + 4) bytes ts → Cuts false place (codes "not " ++ bytes) (at place (word (codes "not")) ∷ ts)
cuts_not place bytes ts c =
    let end : place + 4 ≡ place + 3 + 1 = omega arith in
    cut_token refl refl (cut_space refl (rw end at c))

module _ {K A : Type 0} (key_at : ℕ → List Placed → Reading K) (atom_of : Rel → K → A) where
  -- wherever the text stands, it is cut into tokens that spell the query at the level
  abbrev pub Reads : Level → List ℕ → Query A → Type 0
  Reads level text q = (len place : ℕ) (bytes : List ℕ) (ts : List Placed) → Cuts false (place + length text) bytes ts → (us : List Placed) × Cuts false place (text ++ bytes) us × Spells (key_at len) atom_of level us q ts

  as_conjunction : (text : List ℕ) (q : Query A) → Reads unit text q → Reads conjunction text q
  as_conjunction text q r len place bytes ts c = let h = r len place bytes ts c in (h.0, h.1, one_unit h.2)

  as_whole : (text : List ℕ) (q : Query A) → Reads conjunction text q → Reads whole text q
  as_whole text q r len place bytes ts c = let h = r len place bytes ts c in (h.0, h.1, one_conjunction h.2)

  reads_brackets : (text : List ℕ) (q : Query A) → Reads whole text q → Reads unit (bracketed true text) q
  reads_brackets text q r len place bytes ts c =
      let end : place + length (bracketed true text) ≡ place + 1 + length text + 1 = simp length-append (omega arith) in
      let closing = cuts_close false (place + 1 + length text) bytes ts (rw end at c) in
      let h = r len (place + 1) (41 ∷ bytes) (at (place + 1 + length text) close_bracket ∷ ts) closing in
      let same : (text ++ (41 ∷ [])) ++ bytes ≡ text ++ (41 ∷ bytes) = append_assoc text (41 ∷ []) bytes in
      (at place open_bracket ∷ h.0, rw same (cuts_open false place (text ++ (41 ∷ bytes)) h.0 h.1), in_brackets refl h.2 refl)

  reads_or : (s t : List ℕ) (a b : Query A) → Reads whole s a → Reads conjunction t b → Reads whole (s ++ (codes " or " ++ t)) (either a b)
  reads_or s t a b r u len place bytes ts c =
      let end : place + length (s ++ (codes " or " ++ t)) ≡ place + length s + 4 + length t = simp length-append (omega arith) in
      let right = u len (place + length s + 4) bytes ts (rw end at c) in
      let left = r len place (codes " or " ++ (t ++ bytes)) (at (place + length s + 1) (word (codes "or")) ∷ right.0) (cuts_or (place + length s) (t ++ bytes) right.0 right.1) in
      let same : (s ++ (codes " or " ++ t)) ++ bytes ≡ s ++ (codes " or " ++ (t ++ bytes)) = append_assoc s (codes " or " ++ t) bytes in
      (left.0, rw same left.1, or_of left.2 refl right.2)

  reads_and : (s t : List ℕ) (a b : Query A) → Reads conjunction s a → Reads unit t b → Reads conjunction (s ++ (codes " and " ++ t)) (both a b)
  reads_and s t a b r u len place bytes ts c =
      let end : place + length (s ++ (codes " and " ++ t)) ≡ place + length s + 5 + length t = simp length-append (omega arith) in
      let right = u len (place + length s + 5) bytes ts (rw end at c) in
      let left = r len place (codes " and " ++ (t ++ bytes)) (at (place + length s + 1) (word (codes "and")) ∷ right.0) (cuts_and (place + length s) (t ++ bytes) right.0 right.1) in
      let same : (s ++ (codes " and " ++ t)) ++ bytes ≡ s ++ (codes " and " ++ (t ++ bytes)) = append_assoc s (codes " and " ++ t) bytes in
      (left.0, rw same left.1, and_of left.2 refl right.2)

  reads_not : (t : List ℕ) (q : Query A) → Reads unit t q → Reads unit (codes "not " ++ t) (never q)
  reads_not t q r len place bytes ts c =
      let end : place + length (codes "not " ++ t) ≡ place + 4 + length t = simp length-append (omega arith) in
      let h = r len (place + 4) bytes ts (rw end at c) in
      (at place (word (codes "not")) ∷ h.0, cuts_not place (t ++ bytes) h.0 h.1, not_of refl h.2)

  reads_atom : (r : Rel) (k : K) (text : List ℕ) → begins_apart text ≡ true → ReadsBack key_at text k → Reads unit (rel_word r ++ text) (atom (atom_of r k))
  reads_atom r k text h b len place bytes ts c =
      let end : place + length (rel_word r ++ text) ≡ place + length (rel_word r) + length text = simp length-append (omega arith) in
      let m = b len (place + length (rel_word r)) true bytes ts (rw end at c) in
      let same : (rel_word r ++ text) ++ bytes ≡ rel_word r ++ (text ++ bytes) = append_assoc (rel_word r) text bytes in
      (at place (word (rel_word r)) ∷ m.0, rw same (cuts_rel r place (text ++ bytes) m.0 (begins_apart-append text bytes h) m.1), relation_of (keyword_of_rel r) m.2)

module _ {K A : Type 0} (texts : Texts K A) (parts : (a : A) → texts.atom_of (texts.rel_of a) (texts.operand_of a) ≡ a) (apart : (k : K) → begins_apart (texts.key_text k) ≡ true) where
  abbrev written : Query A → List ℕ
  written q = text_of texts q

  -- a query, one that isn't an `or`, and one that is neither, with brackets where it is
  abbrev ReadsEach : Query A → Type 0
  ReadsEach q = Reads texts.key_at texts.atom_of whole (written q) q × Reads texts.key_at texts.atom_of conjunction (bracketed (is_or q) (written q)) q × Reads texts.key_at texts.atom_of unit (bracketed (is_and_or_or q) (written q)) q

  from_unit : (t : List ℕ) (q : Query A) → Reads texts.key_at texts.atom_of unit t q → Reads texts.key_at texts.atom_of whole t q × Reads texts.key_at texts.atom_of conjunction t q × Reads texts.key_at texts.atom_of unit t q
  from_unit t q u = (as_whole texts.key_at texts.atom_of t q (as_conjunction texts.key_at texts.atom_of t q u), as_conjunction texts.key_at texts.atom_of t q u, u)

  reads_each : (q : Query A) → EachAtom (AtomReadsBack texts) q → ReadsEach q
  reads_each (atom a) h =
      let u = rw parts at (reads_atom texts.key_at texts.atom_of (texts.rel_of a) (texts.operand_of a) (texts.key_text (texts.operand_of a)) (apart (texts.operand_of a)) h) in
      from_unit (written (atom a)) (atom a) u
  reads_each (never q) h =
      from_unit (written (never q)) (never q) (reads_not texts.key_at texts.atom_of (bracketed (is_and_or_or q) (written q)) q (reads_each q h).2)
  reads_each (both l r) h =
      let c = reads_and texts.key_at texts.atom_of (bracketed (is_or l) (written l)) (bracketed (is_and_or_or r) (written r)) l r (reads_each l h.0).1 (reads_each r h.1).2 in
      let w = as_whole texts.key_at texts.atom_of (written (both l r)) (both l r) c in
      (w, c, reads_brackets texts.key_at texts.atom_of (written (both l r)) (both l r) w)
  reads_each (either l r) h =
      let w = reads_or texts.key_at texts.atom_of (written l) (bracketed (is_or r) (written r)) l r (reads_each l h.0).0 (reads_each r h.1).1 in
      let u = reads_brackets texts.key_at texts.atom_of (written (either l r)) (either l r) w in
      (w, as_conjunction texts.key_at texts.atom_of (bracketed true (written (either l r))) (either l r) u, u)

  pub spells_written : (text : List ℕ) (q : Query A) → text ≡ written q → EachAtom (AtomReadsBack texts) q → IsSpelling texts text q
  spells_written text q e h =
      let r = (reads_each q h).0 (length (written q)) 0 [] [] (cut_nothing refl) in
      rw (e) (r.0, rw append-nil at r.1, r.2)

pub spelling_is_read : {K A : Type 0} (texts : Texts K A) (text : List ℕ) (q : Query A) → IsSpelling texts text q → length text ≤ most_bytes → depth_of q ≤ most_depth → SpellsText texts text q
spelling_is_read texts text q s short shallow = record { short = short; tokens = s.0; cut = s.1; query = record { spelled = s.2; shallow = shallow } }
