-- Marks and their askings, as a trace grows.
use Rattle.std.proofs.Common.{◌≡◌, ◌+◌, ◌<◌, ◌≤◌, ℕ, suc, zero, Bool, true, false, cond, List, [], ◌∷◌, ◌++◌, length, take, Some, ◌⊎◌, inl, inr, refl, sym, ap, ◌∙◌, arith, subst, append_assoc, length-append}
use Rattle.std.specs.Prelude.{slice_get, option_to_list, nat_eq}
use Rattle.std.proofs.lemmas.List.{append-nil, take-append-le, take_all}
use Rattle.std.proofs.lemmas.List.Elements.{filter_map-append}
use Rattle.key_class.specs.Rules.{Rules}
use Rattle.mailbox.specs.Outlets.{Rule}
use Rattle.change_list.specs.declared.item.Item.{Item}
use Rattle.change_list.specs.declared.item.Item.TheVariants as item
use Rattle.change_list.proofs.Lists.{slice_get_push, slice_get_before, slice_get_end, slice_get_within, filter_map_push}
use Rattle.cursor.specs.OpenCursors.{OpenCursor}
use Rattle.world.specs.declared.event.Event.{Event}
use Rattle.world.specs.declared.event.Event.TheVariants as event
use Rattle.world.specs.declared.reply.Reply.{Reply}
use Rattle.world.specs.declared.reply.Reply.TheVariants as reply
use Rattle.world.specs.States.{State}
use Rattle.world.specs.Traces.{Moment, Trace, written, commits_of, taken_by, taken, mark_number, marks_of, IsAsking, HasAskings}
use Rattle.world.specs.Promises.{SendsAtMostOne, Serves}

-- what a list has before its end
pub record Has {X : Type 0} (xs : List X) (i : ℕ) : Type 0 where
  pub value : X
  pub is : slice_get xs i ≡ Some value

pub has_at : {X : Type 0} (xs : List X) (i : ℕ) → i < length xs → Has xs i
has_at [] i l = absurd (omega (arith, l))
has_at (x ∷ xs) zero l = record { value = x; is = refl }
has_at (x ∷ xs) (suc i) l = let h = has_at xs i (omega (arith, l)) in record { value = h.value; is = h.is }

pub slice_get_middle : {X : Type 0} (xs ys : List X) (y : X) → slice_get (xs ++ y ∷ ys) (length xs) ≡ Some y
slice_get_middle [] ys y = refl
slice_get_middle (x ∷ xs) ys y = slice_get_middle xs ys y

module _ {K A E : Type 0} where
  pub commits_push : (trace : Trace K A E) (m : Moment K A E) → commits_of (trace ++ m ∷ []) ≡ commits_of trace ++ option_to_list (written m)
  commits_push trace m = filter_map_push written trace m

  -- the beginnings of a trace stay as they are
  pub take_push : (trace : Trace K A E) (m : Moment K A E) (i : ℕ) → i ≤ length trace → take i (trace ++ m ∷ []) ≡ take i trace
  take_push trace m i l = take-append-le i trace (m ∷ []) l

  pub take_end : (trace : Trace K A E) (m : Moment K A E) → take (length trace) (trace ++ m ∷ []) ≡ trace
  take_end trace m = take_push trace m (length trace) (omega arith) ∙ take_all (length trace) trace (omega arith)

  pub asking_push : (trace : Trace K A E) (m : Moment K A E) (c place n k : ℕ) → n ≤ k → IsAsking trace c place n → IsAsking (trace ++ m ∷ []) c place k
  asking_push trace m c place n k l a =
      let b = slice_get_within trace place _ a.asked in
      record {
        asked = slice_get_before trace (m ∷ []) place b ∙ a.asked;
        commits = rw (take_push trace m place (omega (arith, b))) (omega (arith, a.commits, l));
      }

  -- a longer trace has the same askings, where those of a mark that its last moment took are among them
  abbrev pub has_push : (trace : Trace K A E) (m : Moment K A E) (c : ℕ) (h : HasAskings trace c)
      → ((n : ℕ) → m ≡ (event.Take c, reply.Taken (item.Mark n)) → (place : ℕ) × (slice_get h.places (length (marks_of (taken c trace))) ≡ Some place) × IsAsking trace c place n)
      → HasAskings (trace ++ m ∷ []) c
  has_push trace m c h last = record {
    places = h.places;
    rising = h.rising;
    each = λ i n e.
        elim (slice_get_push trace m (event.Take c, reply.Taken (item.Mark n)) i e) [
          | inl p ↦
              let was = h.each i n p.0 in
              (was.0, rw (take_push trace m i (omega (arith, p.1))) was.1, was.2, asking_push trace m c was.0 n n (omega arith) was.3)
          | inr p ↦
              let now = last n p.1 in
              (now.0, rw (p.0, take_end trace m) now.1, subst (λ k. now.0 < k) (sym p.0) (slice_get_within trace now.0 _ now.2.asked), asking_push trace m c now.0 n n (omega arith) now.2)
        ];
  }

  -- one asking more, behind the others
  abbrev pub has_more : (trace : Trace K A E) (c place : ℕ) (h : HasAskings trace c) → ((j q : ℕ) → slice_get h.places j ≡ Some q → q < place) → HasAskings trace c
  has_more trace c place h behind = record {
    places = h.places ++ place ∷ [];
    rising = λ j first second e f.
        elim (slice_get_push h.places place second (suc j) f) [
          | inl p ↦ h.rising j first second (sym (slice_get_before h.places (place ∷ []) j (omega (arith, p.1))) ∙ e) p.0
          | inr p ↦
              let within : j < length h.places = omega (arith, p.0) in
              subst (λ k. first < k) p.1 (behind j first (sym (slice_get_before h.places (place ∷ []) j within) ∙ e))
        ];
    each = λ i n e.
        let was = h.each i n e in
        (was.0, slice_get_before h.places (place ∷ []) _ (slice_get_within h.places _ was.0 was.1) ∙ was.1, was.2, was.3);
  }

  -- The askings of an open cursor that was given these marks: one for each, and one more where a mark is asked.
  pub record FullAskings (trace : Trace K A E) (c : ℕ) (marks : List ℕ) (asked : Bool) (count : ℕ) : Type 0 where
    pub has : HasAskings trace c
    pub counted : length has.places ≡ length marks + cond asked 1 0
    pub matched : (j n place : ℕ) → slice_get marks j ≡ Some n → slice_get has.places j ≡ Some place → IsAsking trace c place n
    pub waiting : asked ≡ true → (place : ℕ) → slice_get has.places (length marks) ≡ Some place → IsAsking trace c place count

  module _ (trace : Trace K A E) (m : Moment K A E) (c : ℕ) (marks : List ℕ) (count more : ℕ) (grown : count ≤ more) where
    abbrev pub Last : (asked : Bool) → FullAskings trace c marks asked count → Type 0
    Last asked f = (n : ℕ) → m ≡ (event.Take c, reply.Taken (item.Mark n)) → (place : ℕ) × (slice_get f.has.places (length (marks_of (taken c trace))) ≡ Some place) × IsAsking trace c place n

    full_same : (asked later : Bool) → later ≡ asked → (f : FullAskings trace c marks asked count) → Last asked f → FullAskings (trace ++ m ∷ []) c marks later more
    full_same asked later s f l = record {
      has = has_push trace m c f.has l;
      counted = rw s f.counted;
      matched = λ j n place e g. asking_push trace m c place n n (omega arith) (f.matched j n place e g);
      waiting = λ t place e. asking_push trace m c place count more grown (f.waiting (sym s ∙ t) place e);
    }

    full_mark : (later : Bool) → later ≡ false → (f : FullAskings trace c marks true count) → Last true f → FullAskings (trace ++ m ∷ []) c (marks ++ count ∷ []) later more
    full_mark later s f l = record {
      has = has_push trace m c f.has l;
      counted = rw s (omega (arith, f.counted, length-append marks (count ∷ [])));
      matched = λ j n place e g.
          elim (slice_get_push marks count n j e) [
            | inl p ↦ asking_push trace m c place n n (omega arith) (f.matched j n place p.0 g)
            | inr p ↦ asking_push trace m c place count n (omega (arith, p.1)) (f.waiting refl place (rw (← p.0) g))
          ];
      waiting = λ t place e. absurd (cc);
    }

    -- every place of an asking lies within the trace
    places_within : (f : FullAskings trace c marks false count) (j q : ℕ) → slice_get f.has.places j ≡ Some q → q < length trace
    places_within f j q e =
        let within : j < length marks = omega (arith, slice_get_within f.has.places j q e, f.counted) in
        let n = has_at marks j within in
        slice_get_within trace q _ (f.matched j n.value q n.is e).asked

    full_asked : (asked : Bool) → m ≡ (event.AskMark c, reply.Asked) → (f : FullAskings trace c marks asked count) → Last asked f → length (commits_of trace) ≤ more → FullAskings (trace ++ m ∷ []) c marks true more
    full_asked true is f l b = full_same true true refl f l
    full_asked false is f l b =
        let pushed = has_push trace m c f.has l in
        let behind : (j q : ℕ) → slice_get pushed.places j ≡ Some q → q < length trace = places_within f in
        record {
          has = has_more (trace ++ m ∷ []) c (length trace) pushed behind;
          counted = omega (arith, f.counted, length-append f.has.places (length trace ∷ []));
          matched = λ j n place e g.
              elim (slice_get_push f.has.places (length trace) place j g) [
                | inl p ↦ asking_push trace m c place n n (omega arith) (f.matched j n place e p.0)
                | inr p ↦ absurd (omega (arith, p.0, f.counted, slice_get_within marks j n e))
              ];
          waiting = λ t place e.
              elim (slice_get_push f.has.places (length trace) place (length marks) e) [
                | inl p ↦ absurd (omega (arith, p.1, f.counted))
                | inr p ↦ record {
                  asked = rw (← p.1) (slice_get_end trace m ∙ ap Some is);
                  commits = rw (← p.1, take_end trace m) b;
                }
              ];
        }

module _ {K A E : Type 0} where
  pub taken_push : (trace : Trace K A E) (m : Moment K A E) (c : ℕ) → taken c (trace ++ m ∷ []) ≡ taken c trace ++ option_to_list (taken_by c m)
  taken_push trace m c = filter_map_push (taken_by c) trace m

  -- what was given to a cursor grows by what was sent to it
  pub given_push : (trace : Trace K A E) (m : Moment K A E) (c : ℕ) (before after sent : List (Item K)) → option_to_list (taken_by c m) ++ after ≡ before ++ sent
      → taken c (trace ++ m ∷ []) ++ after ≡ (taken c trace ++ before) ++ sent
  given_push trace m c before after sent h =
      ap (λ l. l ++ after) (taken_push trace m c) ∙ append_assoc (taken c trace) (option_to_list (taken_by c m)) after ∙ ap (λ l. taken c trace ++ l) h ∙ sym (append_assoc (taken c trace) before sent)

pub taken_same : (A E : Type 0) {K : Type 0} (c : ℕ) (x : Item K) → taken_by {K = K} {A = A} {E = E} c (event.Take c, reply.Taken x) ≡ Some x
taken_same A E c x = let e : nat_eq c c ≡ true = search arith in rw e refl

module _ {K A E : Type 0} (rules : Rules K A) (rule : Rule) (trace : Trace K A E) (old : State K A) (e : Event K A) (r : Reply K E) (new : State K A) (c : ℕ) (before after : OpenCursor K A)
    (s : Serves rules rule old e r new c before after) (counted : length old.commits ≡ length (commits_of trace)) (grown : length old.commits ≤ length new.commits)
    (front : (x : Item K) → taken_by c (e, r) ≡ Some x → (rest : List (Item K)) × (before.unread ≡ x ∷ rest))
    (f : FullAskings trace c (marks_of (taken c trace ++ before.unread)) before.asked (length old.commits)) where
  last_taken : Last trace (e, r) c (marks_of (taken c trace ++ before.unread)) (length old.commits) (length new.commits) grown before.asked f
  last_taken n is =
      let t : taken_by c (e, r) ≡ Some (item.Mark n) = ap (λ m. taken_by c m) is ∙ taken_same A E c (item.Mark n) in
      let u = front (item.Mark n) t in
      let marks : marks_of (taken c trace ++ before.unread) ≡ marks_of (taken c trace) ++ n ∷ marks_of u.0 =
      ap (λ l. marks_of (taken c trace ++ l)) u.1 ∙ filter_map-append mark_number (taken c trace) (item.Mark n ∷ u.0) in
      let there : slice_get (marks_of (taken c trace ++ before.unread)) (length (marks_of (taken c trace))) ≡ Some n = rw marks (slice_get_middle (marks_of (taken c trace)) (marks_of u.0) n) in
      let place = has_at f.has.places (length (marks_of (taken c trace))) (omega (arith, f.counted, slice_get_within (marks_of (taken c trace ++ before.unread)) (length (marks_of (taken c trace))) n there)) in
      (place.value, place.is, f.matched (length (marks_of (taken c trace))) n place.value there place.is)

  pub serve_askings : FullAskings (trace ++ (e, r) ∷ []) c (marks_of (taken c (trace ++ (e, r) ∷ []) ++ after.unread)) after.asked (length new.commits)
  serve_askings =
      rw (given_push trace (e, r) c before.unread after.unread s.sent s.mailbox, filter_map-append mark_number (taken c trace ++ before.unread) s.sent) (go s.sent s.one)
    where
      quiet : (later : Bool) → (later ≡ before.asked) ⊎ ((e ≡ event.AskMark c) × (r ≡ reply.Asked) × (later ≡ true)) → FullAskings (trace ++ (e, r) ∷ []) c (marks_of (taken c trace ++ before.unread) ++ []) later (length new.commits)
      quiet later h =
          rw (append-nil (marks_of (taken c trace ++ before.unread)))
          (elim h [
            | inl p ↦ full_same trace (e, r) c (marks_of (taken c trace ++ before.unread)) (length old.commits) (length new.commits) grown before.asked later p f last_taken
            | inr p ↦
                let g = full_asked trace (e, r) c (marks_of (taken c trace ++ before.unread)) (length old.commits) (length new.commits) grown before.asked (cc) f last_taken (omega (arith, counted, grown)) in
                subst (λ b. FullAskings (trace ++ (e, r) ∷ []) c (marks_of (taken c trace ++ before.unread)) b (length new.commits)) (sym p.2) g
          ])

      go : (sent : List (Item K)) → SendsAtMostOne rules rule old e r c before sent after → FullAskings (trace ++ (e, r) ∷ []) c (marks_of (taken c trace ++ before.unread) ++ marks_of sent) after.asked (length new.commits)
      go [] h = quiet after.asked h
      go (item.Row row ∷ []) h = quiet after.asked h
      go (item.Inserted row ∷ []) h = quiet after.asked h
      go (item.Deleted n row ∷ []) h = quiet after.asked h
      go (item.Moved row other ∷ []) h = quiet after.asked h
      go (item.Mark n ∷ []) h =
          subst (λ k. FullAskings (trace ++ (e, r) ∷ []) c (marks_of (taken c trace ++ before.unread) ++ k ∷ []) after.asked (length new.commits)) (sym h.1) (noted before.asked h.0 f last_taken)
        where
          noted : (asked : Bool) → asked ≡ true → (f : FullAskings trace c (marks_of (taken c trace ++ before.unread)) asked (length old.commits))
              → Last trace (e, r) c (marks_of (taken c trace ++ before.unread)) (length old.commits) (length new.commits) grown asked f
              → FullAskings (trace ++ (e, r) ∷ []) c (marks_of (taken c trace ++ before.unread) ++ length old.commits ∷ []) after.asked (length new.commits)
          noted true t f l = full_mark trace (e, r) c (marks_of (taken c trace ++ before.unread)) (length old.commits) (length new.commits) grown after.asked h.2 f l
          noted false t f l = absurd (cc)
      go (x ∷ y ∷ sent) h = absurd h
