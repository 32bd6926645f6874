-- How far a conversation has got: the lines that were answered, and what is held of the next one.
use Rattle.std.proofs.Common.{◌≡◌, ◌≢◌, ◌<◌, ℕ, Bool, true, false, List, [], ◌∷◌, ◌++◌, length, Option, Some, None, arith, refl, sym, ap, ◌∙◌, subst, append_assoc, length-append}
use Rattle.std.specs.List.{flat_map, AllByRecursion}
use Rattle.std.specs.Prelude.{nat_eq}
use Rattle.std.specs.Io.KnownBytes.{Consumes, Keeps, IsAtEnd}
use Rattle.std.proofs.KnownBytes.{Consumes-trans, Consumes-kept}
use Rattle.std.proofs.lemmas.List.{append-nil}
use Rattle.query_text.specs.Tokens.{Placed}
use Rattle.front.specs.Lines.{HasNoFeed, ended, AreLines}
use Rattle.front.specs.Buffered.{Buffered, with_room, FillsHeld, IsRestOf}
use Rattle.front.specs.Written.{Writes, WritesBeginning}
use Rattle.front.specs.Conversations.{Exchange, AnswersLine, AnswersLines, AnsweredAll, AnsweredWhole, AnsweredFirst}
use Rattle.front.proofs.Bytes.{no_feed_append}
use Rattle.front.proofs.Writing.{gathers, writes_both, writes_then_nothing, all_written, fails_behind, fails_in}

-- all bytes of the line being read, of which these are held
abbrev pub Holds : Bool → List ℕ → List ℕ → Type 0
Holds false rest part = part ≡ rest
Holds true rest part = (gone : List ℕ) × (part ≡ gone ++ rest) × (4096 < length gone) × HasNoFeed gone

pub lines_more : (lines : List (List ℕ)) (line : List ℕ) → AllByRecursion HasNoFeed lines → HasNoFeed line → AllByRecursion HasNoFeed (lines ++ line ∷ [])
lines_more [] line h n = (n, tt)
lines_more (l ∷ ls) line h n = (h.0, lines_more ls line h.1 n)

lines_append : (xs ys : List (List ℕ)) → AllByRecursion HasNoFeed xs → AllByRecursion HasNoFeed ys → AllByRecursion HasNoFeed (xs ++ ys)
lines_append [] ys h k = k
lines_append (x ∷ xs) ys h k = (h.0, lines_append xs ys h.1 k)

-- any bytes are whole lines and a rest
record Split (bytes : List ℕ) : Type 0 where
  lines : List (List ℕ)
  rest : List ℕ
  are : AreLines bytes lines rest

split_lines : (bytes : List ℕ) → Split bytes
split_lines [] = record { lines = []; rest = []; are = record { joined = refl; lines_have_none = tt; rest_has_none = tt } }
split_lines (b ∷ bs) = go (nat_eq b 10) refl (split_lines bs)
  where
    front : (b : ℕ) (lines : List (List ℕ)) (rest : List ℕ) → b ≢ 10 → AreLines bs lines rest → Split (b ∷ bs)
    front b [] rest n a = record { lines = []; rest = b ∷ rest; are = record { joined = ap (λ l. b ∷ l) a.joined; lines_have_none = tt; rest_has_none = (n, a.rest_has_none) } }
    front b (l ∷ ls) rest n a = record { lines = (b ∷ l) ∷ ls; rest = rest; are = record { joined = ap (λ l. b ∷ l) a.joined; lines_have_none = ((n, a.lines_have_none.0), a.lines_have_none.1); rest_has_none = a.rest_has_none } }

    go : (t : Bool) → nat_eq b 10 ≡ t → Split bs → Split (b ∷ bs)
    go true e s =
        let n : b ≡ 10 = search (arith, e) in
        record { lines = [] ∷ s.lines; rest = s.rest; are = record { joined = ap (λ c. c ∷ bs) n ∙ ap (λ l. 10 ∷ l) s.are.joined; lines_have_none = (tt, s.are.lines_have_none); rest_has_none = s.are.rest_has_none } }
    go false e s = front b s.lines s.rest (search (arith, e)) s.are

-- a line in front of lines
lines_join : (line bytes : List ℕ) (lines : List (List ℕ)) (rest : List ℕ) → HasNoFeed line → AreLines bytes lines rest → AreLines (ended line ++ bytes) (line ∷ lines) rest
lines_join line bytes lines rest n a = record {
  joined = ap (λ l. ended line ++ l) a.joined ∙ sym (append_assoc (ended line) (flat_map ended lines) rest);
  lines_have_none = (n, a.lines_have_none);
  rest_has_none = a.rest_has_none;
}

flat_map_both : (xs ys : List (List ℕ)) → flat_map ended (xs ++ ys) ≡ flat_map ended xs ++ flat_map ended ys
flat_map_both [] ys = refl
flat_map_both (x ∷ xs) ys = ap (λ l. ended x ++ l) (flat_map_both xs ys) ∙ sym (append_assoc (ended x) (flat_map ended xs) (flat_map ended ys))

-- more lines in front of lines
lines_before : (front : List (List ℕ)) (bytes : List ℕ) (lines : List (List ℕ)) (rest : List ℕ) → AllByRecursion HasNoFeed front → AreLines bytes lines rest → AreLines (flat_map ended front ++ bytes) (front ++ lines) rest
lines_before front bytes lines rest n a = record {
  joined = ap (λ l. flat_map ended front ++ l) a.joined ∙ sym (append_assoc (flat_map ended front) (flat_map ended lines) rest) ∙ ap (λ l. l ++ rest) (sym (flat_map_both front lines));
  lines_have_none = lines_append front lines n a.lines_have_none;
  rest_has_none = a.rest_has_none;
}

-- more bytes are held
pub holds_filled : (held : Buffered) (part bytes : List ℕ) → HasNoFeed held.rest → Holds held.overlong held.rest part → Holds (with_room held).overlong ((with_room held).rest ++ bytes) (part ++ bytes)
holds_filled held part bytes n h = go (nat_eq (length held.rest) 4097) refl held.overlong h
  where
    let_go : (overlong : Bool) → length held.rest ≡ 4097 → Holds overlong held.rest part → Holds true ([] ++ bytes) (part ++ bytes)
    let_go false e h = (held.rest, ap (λ l. l ++ bytes) h, omega (arith, e), n)
    let_go true e h = (h.0 ++ held.rest, ap (λ l. l ++ bytes) h.1, omega (arith, e, length-append h.0 held.rest, h.2), no_feed_append h.0 held.rest h.3 n)

    stays : (overlong : Bool) → Holds overlong held.rest part → Holds overlong (held.rest ++ bytes) (part ++ bytes)
    stays false h = ap (λ l. l ++ bytes) h
    stays true h = (h.0, ap (λ l. l ++ bytes) h.1 ∙ append_assoc h.0 held.rest bytes, h.2, h.3)

    go : (b : Bool) → nat_eq (length held.rest) 4097 ≡ b → (overlong : Bool) → Holds held.overlong held.rest part → Holds (with_room held).overlong ((with_room held).rest ++ bytes) (part ++ bytes)
    go true e o h =
        let r : with_room held ≡ record { rest = []; overlong = true } = rw e refl in
        subst (λ (w : Buffered). Holds w.overlong (w.rest ++ bytes) (part ++ bytes)) (sym r) (let_go held.overlong (search (arith, e)) h)
    go false e o h =
        let r : with_room held ≡ held = rw e refl in
        subst (λ (w : Buffered). Holds w.overlong (w.rest ++ bytes) (part ++ bytes)) (sym r) (stays held.overlong h)

-- the whole line of which this is held, and the bytes held after it
pub record HoldsLine (overlong : Bool) (line rest part : List ℕ) : Type 0 where
  pub whole : List ℕ
  pub is_rest : IsRestOf overlong whole line
  pub no_feed : HasNoFeed whole
  pub is : part ≡ ended whole ++ rest

pub holds_line : (overlong : Bool) (held line rest part : List ℕ) → held ≡ line ++ 10 ∷ rest → HasNoFeed line → Holds overlong held part → HoldsLine overlong line rest part
holds_line false held line rest part e n h = record { whole = line; is_rest = refl; no_feed = n; is = h ∙ e ∙ sym (append_assoc line (10 ∷ []) rest) }
holds_line true held line rest part e n h = record {
  whole = h.0 ++ line;
  is_rest = omega (arith, h.2, length-append h.0 line);
  no_feed = no_feed_append h.0 line h.3 n;
  is = h.1 ∙ ap (λ l. h.0 ++ l) e ∙ sym (append_assoc h.0 line (10 ∷ rest)) ∙ sym (append_assoc (h.0 ++ line) (10 ∷ []) rest);
}

-- the last line, which has no line feed
pub record HoldsLast (overlong : Bool) (rest part : List ℕ) : Type 0 where
  pub is_rest : IsRestOf overlong part rest
  pub no_feed : HasNoFeed part

pub holds_last : (overlong : Bool) (rest part : List ℕ) → HasNoFeed rest → Holds overlong rest part → HoldsLast overlong rest part
holds_last false rest part n h = record { is_rest = h; no_feed = subst HasNoFeed (sym h) n }
holds_last true rest part n h = record { is_rest = omega (arith, h.2, length-append h.0 rest, ap length h.1); no_feed = subst HasNoFeed (sym h.1) (no_feed_append h.0 rest h.3 n) }

consumes_nothing : (r : Option (List ℕ)) → Consumes r r []
consumes_nothing None = tt
consumes_nothing (Some xs) = refl

pub keeps_itself : (r : Option (List ℕ)) → Keeps r r
keeps_itself None = tt
keeps_itself (Some xs) = refl

-- at the reader's end what is held still has no line feed
pub no_feed_at_end : (r r' : Option (List ℕ)) (held held' : Buffered) → HasNoFeed held.rest → FillsHeld r r' held false held' → HasNoFeed held'.rest
no_feed_at_end r r' held held' n f =
    let z = (f.none_at_end refl).0 in
    let e : held'.rest ≡ (with_room held).rest ++ [] = ap (λ (h : Buffered). h.rest) f.held ∙ ap (λ b. (with_room held).rest ++ b) z in
    subst HasNoFeed (sym (e ∙ append-nil (with_room held).rest)) (go (nat_eq (length held.rest) 4097) refl)
  where
    go : (b : Bool) → nat_eq (length held.rest) 4097 ≡ b → HasNoFeed (with_room held).rest
    go true e = rw e tt
    go false e = rw e n

-- what went in and out, from what the reader had left and has left, and what the writer had and has
abbrev pub went : Option (List ℕ) → Option (List ℕ) → Option (List ℕ) → Option (List ℕ) → Exchange
went r r' w w' = record { had_left = r; has_left = r'; had = w; has = w' }

module _ {S : Type 0} (answers : ℕ → S → List Placed → List ℕ → S → Type 0) where
  lines_next : (old : S) (lines : List (List ℕ)) (text : List ℕ) (mid : S) (line said : List ℕ) (new : S) → AnswersLines answers old lines text mid → AnswersLine answers mid line said new
      → AnswersLines answers old (lines ++ line ∷ []) (text ++ said) new
  lines_next old [] text mid line said new s a =
      (said, new, [], subst (λ x. AnswersLine answers x line said new) s.1 a, (refl, refl), ap (λ t. t ++ said) s.0 ∙ sym (append-nil said))
  lines_next old (l ∷ lines) text mid line said new s a =
      (s.0, s.1, s.2 ++ said, s.3, lines_next s.1 lines s.2 mid line said new s.4 a, ap (λ x. x ++ said) s.5 ∙ append_assoc s.0 s.2 said)

  module _ (r0 w0 : Option (List ℕ)) (s0 : S) where
    pub record Progress (r w : Option (List ℕ)) (gathered : List ℕ) (s : S) (held : Buffered) : Type 0 where
      pub lines : List (List ℕ)
      pub text : List ℕ
      pub part : List ℕ
      pub lines_have_none : AllByRecursion HasNoFeed lines
      pub read : Consumes r0 r (flat_map ended lines ++ part)
      pub holds : Holds held.overlong held.rest part
      pub answers_lines : AnswersLines answers s0 lines text s
      pub wrote : Writes w0 [] w gathered text

    -- the answer to a line, before it is known whether it was written
    abbrev pub IsAnswered : S → S → Bool → List ℕ → (List ℕ → Type 0) → Type 0
    IsAnswered before after overlong line wrote =
        (whole : List ℕ) → IsRestOf overlong whole line → (said : List ℕ) × AnswersLine answers before whole said after × wrote said

    pub begin : Progress r0 w0 [] s0 (record { rest = []; overlong = false })
    begin = record {
      lines = [];
      text = [];
      part = [];
      lines_have_none = tt;
      read = consumes_nothing r0;
      holds = refl;
      answers_lines = (refl, refl);
      wrote = gathers w0 [] [] [] refl;
    }

    module _ (r w : Option (List ℕ)) (gathered : List ℕ) (s : S) (held : Buffered) (p : Progress r w gathered s held) where
      -- every line answered so far counts as carried out
      pub stands_now : (w' : Option (List ℕ)) → WritesBeginning w w' (gathered ++ []) → AnsweredFirst answers s0 s (went r0 r w0 w')
      stands_now w' h =
          let l = split_lines p.part in
          record {
            bytes = flat_map ended p.lines ++ p.part;
            lines = p.lines ++ l.lines;
            rest = l.rest;
            first = p.lines;
            others = l.lines ++ l.rest ∷ [];
            text = p.text;
            read = p.read;
            are_lines = lines_before p.lines p.part l.lines l.rest p.lines_have_none l.are;
            parted = append_assoc p.lines l.lines (l.rest ∷ []);
            answers_lines = p.answers_lines;
            wrote = fails_in w0 w w' [] gathered p.text p.wrote h;
          }

      pub sent : (w' : Option (List ℕ)) (gathered' : List ℕ) → Writes w gathered w' gathered' [] → Progress r w' gathered' s held
      sent w' gathered' h = record {
        lines = p.lines;
        text = p.text;
        part = p.part;
        lines_have_none = p.lines_have_none;
        read = p.read;
        holds = p.holds;
        answers_lines = p.answers_lines;
        wrote = writes_then_nothing w0 w w' [] gathered gathered' p.text p.wrote h;
      }

      pub filled : (r' : Option (List ℕ)) (more : Bool) (held' : Buffered) → HasNoFeed held.rest → FillsHeld r r' held more held' → Progress r' w gathered s held'
      filled r' more held' n f = subst (λ (h : Buffered). Progress r' w gathered s h) (sym f.held) (record {
        lines = p.lines;
        text = p.text;
        part = p.part ++ f.bytes;
        lines_have_none = p.lines_have_none;
        answers_lines = p.answers_lines;
        wrote = p.wrote;
        read = subst (λ b. Consumes r0 r' b) (append_assoc (flat_map ended p.lines) p.part f.bytes) (Consumes-trans r0 r r' (flat_map ended p.lines ++ p.part) f.bytes p.read f.consumed);
        holds = holds_filled held p.part f.bytes n p.holds;
      })

      -- the reader failed
      pub cut_short : (r' : Option (List ℕ)) → HasNoFeed held.rest → Keeps r r' → gathered ≡ [] → AnsweredWhole answers s0 s (went r0 r' w0 w)
      cut_short r' n k e = record {
        bytes = flat_map ended p.lines ++ p.part;
        lines = p.lines;
        rest = p.part;
        text = p.text;
        read = Consumes-kept r0 r r' (flat_map ended p.lines ++ p.part) p.read k;
        are_lines = record { joined = refl; lines_have_none = p.lines_have_none; rest_has_none = (holds_last held.overlong held.rest p.part n p.holds).no_feed };
        answers_lines = p.answers_lines;
        wrote = all_written w0 w p.text (subst (λ g. Writes w0 [] w g p.text) e p.wrote);
      }

      module _ (line rest : List ℕ) (cut : held.rest ≡ line ++ 10 ∷ rest) (no_feed : HasNoFeed line) (s' : S) where
        next_whole : HoldsLine held.overlong line rest p.part
        next_whole = holds_line held.overlong held.rest line rest p.part cut no_feed p.holds

        next_read : Consumes r0 r (flat_map ended (p.lines ++ next_whole.whole ∷ []) ++ rest)
        next_read =
            let h = next_whole in
            let e : flat_map ended p.lines ++ p.part ≡ flat_map ended (p.lines ++ h.whole ∷ []) ++ rest =
            ap (λ l. flat_map ended p.lines ++ l) h.is ∙ sym (append_assoc (flat_map ended p.lines) (ended h.whole) rest)
            ∙ ap (λ l. l ++ rest) (ap (λ l. flat_map ended p.lines ++ l) (sym (append-nil (ended h.whole))) ∙ sym (flat_map_both p.lines (h.whole ∷ []))) in
            subst (λ b. Consumes r0 r b) e p.read

        -- the line was answered
        pub answered : (w' : Option (List ℕ)) (gathered' : List ℕ) → IsAnswered s s' held.overlong line (λ text. Writes w gathered w' gathered' text) → Progress r w' gathered' s' (record { rest = rest; overlong = false })
        answered w' gathered' f =
            let a = f next_whole.whole next_whole.is_rest in
            record {
              lines = p.lines ++ next_whole.whole ∷ [];
              text = p.text ++ a.0;
              part = rest;
              lines_have_none = lines_more p.lines next_whole.whole p.lines_have_none next_whole.no_feed;
              read = next_read;
              holds = refl;
              answers_lines = lines_next s0 p.lines p.text s next_whole.whole a.0 s' p.answers_lines a.1;
              wrote = writes_both w0 w w' [] gathered gathered' p.text a.0 p.wrote a.2;
            }

        -- the line was carried out, but not all of its answer was written
        pub stands_after : (w' : Option (List ℕ)) → IsAnswered s s' held.overlong line (λ text. WritesBeginning w w' (gathered ++ text)) → AnsweredFirst answers s0 s' (went r0 r w0 w')
        stands_after w' f =
            let h = next_whole in
            let a = f h.whole h.is_rest in
            let l = split_lines rest in
            record {
              bytes = flat_map ended (p.lines ++ h.whole ∷ []) ++ rest;
              lines = (p.lines ++ h.whole ∷ []) ++ l.lines;
              rest = l.rest;
              first = p.lines ++ h.whole ∷ [];
              others = l.lines ++ l.rest ∷ [];
              text = p.text ++ a.0;
              read = next_read;
              are_lines = lines_before (p.lines ++ h.whole ∷ []) rest l.lines l.rest (lines_more p.lines h.whole p.lines_have_none h.no_feed) l.are;
              parted = append_assoc (p.lines ++ h.whole ∷ []) l.lines (l.rest ∷ []);
              answers_lines = lines_next s0 p.lines p.text s h.whole a.0 s' p.answers_lines a.1;
              wrote = fails_behind w0 w w' [] gathered p.text a.0 p.wrote a.2;
            }

      module _ (no_feed : HasNoFeed held.rest) (s' : S) where
        last_whole : HoldsLast held.overlong held.rest p.part
        last_whole = holds_last held.overlong held.rest p.part no_feed p.holds

        last_are : AreLines (flat_map ended p.lines ++ p.part) p.lines p.part
        last_are = record { joined = refl; lines_have_none = p.lines_have_none; rest_has_none = last_whole.no_feed }

        -- the last line was answered, and everything was written
        pub ended_all : (w' w'' : Option (List ℕ)) (gathered' gathered'' : List ℕ) → IsAnswered s s' held.overlong held.rest (λ text. Writes w gathered w' gathered' text) → Writes w' gathered' w'' gathered'' [] → gathered'' ≡ [] → IsAtEnd r
            → AnsweredAll answers s0 s' (went r0 r w0 w'')
        ended_all w' w'' gathered' gathered'' f h e end =
            let a = f p.part last_whole.is_rest in
            let text = p.text ++ a.0 in
            let one = writes_both w0 w w' [] gathered gathered' p.text a.0 p.wrote a.2 in
            let two = writes_then_nothing w0 w' w'' [] gathered' gathered'' text one h in
            record {
              bytes = flat_map ended p.lines ++ p.part;
              lines = p.lines;
              rest = p.part;
              text = text;
              at_end = end;
              read = p.read;
              are_lines = last_are;
              answers_lines = lines_next s0 p.lines p.text s p.part a.0 s' p.answers_lines a.1;
              wrote = all_written w0 w'' text (subst (λ g. Writes w0 [] w'' g text) e two);
            }

        pub stands_last : (w' : Option (List ℕ)) → IsAnswered s s' held.overlong held.rest (λ text. WritesBeginning w w' (gathered ++ text)) → AnsweredFirst answers s0 s' (went r0 r w0 w')
        stands_last w' f =
            let a = f p.part last_whole.is_rest in
            record {
              bytes = flat_map ended p.lines ++ p.part;
              lines = p.lines;
              rest = p.part;
              first = p.lines ++ p.part ∷ [];
              others = [];
              text = p.text ++ a.0;
              read = p.read;
              are_lines = last_are;
              parted = sym (append-nil (p.lines ++ p.part ∷ []));
              answers_lines = lines_next s0 p.lines p.text s p.part a.0 s' p.answers_lines a.1;
              wrote = fails_behind w0 w w' [] gathered p.text a.0 p.wrote a.2;
            }
