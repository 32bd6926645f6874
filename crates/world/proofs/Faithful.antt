-- Chains of steps are faithful.
use Rattle.std.proofs.Common.{◌≡◌, ◌+◌, ◌<◌, ◌≤◌, ℕ, Bool, true, false, not, map, List, [], ◌∷◌, ◌++◌, length, take, Option, Some, None, ◌⊎◌, inl, inr, refl, sym, ap, ◌∙◌, arith, subst, append_assoc, length-append}
use Rattle.std.specs.Prelude.{slice_get, option_to_list}
use Rattle.std.proofs.lemmas.List.{append-nil}
use Rattle.std.proofs.lemmas.List.Elements.{filter-append}
use Rattle.key_class.specs.Rules.{Rules}
use Rattle.mailbox.specs.Outlets.{Rule}
use Rattle.key_class.specs.Queries.{Query, query_of, matches_query}
use Rattle.key_class.specs.declared.pred.Pred.{Pred}
use Rattle.key_class.specs.declared.refusal.Refusal.TheVariants as refusal
use Rattle.change_list.specs.declared.write.Write.{Write}
use Rattle.change_list.specs.declared.item.Item.{Item}
use Rattle.change_list.specs.declared.item.Item.TheVariants as item
use Rattle.change_list.specs.Changes.{IsLegal, item_at, changes}
use Rattle.change_list.specs.Listings.{IsListing, AreChanges, IsListingFor, BeginsListingFor, is_mark, without_marks}
use Rattle.change_list.specs.Cursors.{Fits}
use Rattle.change_list.proofs.Lists.{slice_get_push, slice_get_before, slice_get_end, slice_get_within}
use Rattle.change_list.proofs.Pushing.{changes_more, changes_push, snapshot_push}
use Rattle.change_list.proofs.Fitting.{listing_push, begins_less, fits_begins}
use Rattle.cursor.specs.OpenCursors.{OpenCursor, shown}
use Rattle.world.specs.declared.event.Event.{Event}
use Rattle.world.specs.declared.event.Event.TheVariants as event
use Rattle.world.specs.declared.reply.Reply.{Reply}
use Rattle.world.specs.declared.reply.Reply.TheVariants as reply
use Rattle.world.specs.Stamps.{Stamp}
use Rattle.world.specs.States.{State, cursor_at}
use Rattle.world.specs.Traces.{Moment, Trace, written, commits_of, taken_by, taken, delivered, asks, marks_of, HasAskings, IsOpening, IsFollowing, WasOpened, IsFaithful, commits_before}
use Rattle.world.proofs.Founds.{Founds, founds_push}
use Rattle.world.proofs.Effects.{Effect, IsFresh, IsShut, Opening, Closing, Numbering, opening_serial}
use Rattle.world.proofs.Askings.{commits_push, take_push, take_end, has_push, FullAskings, taken_push, taken_same, given_push, serve_askings}

-- the changes after a commit are those before it and its own
changes_later : {K : Type 0} (wanted : K → Bool) (s : ℕ) (commits : List (Write K)) (write : Write K) → s ≤ length commits
    → changes wanted s (length commits) commits ++ option_to_list (item_at wanted (commits ++ write ∷ []) (length commits)) ≡ changes wanted s (length (commits ++ write ∷ [])) (commits ++ write ∷ [])
changes_later wanted s commits write b =
    let later = commits ++ write ∷ [] in
    ap (λ t. t ++ option_to_list (item_at wanted later (length commits))) (sym (changes_push wanted s (length commits) commits write b (omega arith)))
    ∙ sym (changes_more wanted s (length commits) later b) ∙ ap (λ k. changes wanted s k later) (sym (length-append commits (write ∷ [])))

-- a beginning of a listing is one of the longer listing after a commit
begins_push : {K : Type 0} (wanted : K → Bool) (follows : Bool) (s : ℕ) (commits : List (Write K)) (write : Write K) (items : List (Item K)) → BeginsListingFor follows wanted s (length commits) commits items
    → BeginsListingFor follows wanted s (length (commits ++ write ∷ [])) (commits ++ write ∷ []) items
begins_push wanted false s commits write items b =
    let l = b.listing in
    let n : length (commits ++ write ∷ []) ≡ length commits + 1 = length-append commits (write ∷ []) in
    let later = commits ++ write ∷ [] in
    record {
      rest = b.rest ++ option_to_list (item_at wanted later (length commits));
      listing = record {
        from_before = omega (arith, l.from_before, n);
        within = omega arith;
        rows = l.rows;
        each_once = rw (snapshot_push wanted s commits write (l.from_before)) l.each_once;
        is = sym (append_assoc items b.rest (option_to_list (item_at wanted later (length commits)))) ∙ ap (λ t. t ++ option_to_list (item_at wanted later (length commits))) l.is
            ∙ append_assoc (map item.Row l.rows) (changes wanted s (length commits) commits) (option_to_list (item_at wanted later (length commits)))
            ∙ ap (λ t. map item.Row l.rows ++ t) (changes_later wanted s commits write l.from_before);
      };
    }
begins_push wanted true s commits write items b =
    let l = b.changes in
    let n : length (commits ++ write ∷ []) ≡ length commits + 1 = length-append commits (write ∷ []) in
    let later = commits ++ write ∷ [] in
    record {
      rest = b.rest ++ option_to_list (item_at wanted later (length commits));
      changes = record {
        from_before = omega (arith, l.from_before, n);
        within = omega arith;
        is = sym (append_assoc items b.rest (option_to_list (item_at wanted later (length commits)))) ∙ ap (λ t. t ++ option_to_list (item_at wanted later (length commits))) l.is
            ∙ changes_later wanted s commits write l.from_before;
      };
    }

begins_grow : {K : Type 0} (wanted : K → Bool) (follows : Bool) (s : ℕ) (commits later : List (Write K)) (write : Option (Write K)) (items : List (Item K)) → later ≡ commits ++ option_to_list write
    → BeginsListingFor follows wanted s (length commits) commits items → BeginsListingFor follows wanted s (length later) later items
begins_grow wanted follows s commits later None items h b = rw (h, append-nil commits) b
begins_grow wanted follows s commits later (Some write) items h b = rw h (begins_push wanted follows s commits write items b)

listing_grow : {K : Type 0} (wanted : K → Bool) (follows : Bool) (s n : ℕ) (commits later : List (Write K)) (write : Option (Write K)) (items : List (Item K)) → later ≡ commits ++ option_to_list write
    → IsListingFor follows wanted s n commits items → IsListingFor follows wanted s n later items
listing_grow wanted follows s n commits later None items h b = rw (h, append-nil commits) b
listing_grow wanted follows s n commits later (Some write) items h b = rw h (listing_push wanted follows s n commits write items b)

module _ {K A : Type 0} (rules : Rules K A) (rule : Rule) where
  -- an open cursor with this query and opening number, which these items fit, what its mailbox holds included
  pub record OpenFits (s : State K A) (q : Query A) (follows : Bool) (n : ℕ) (items : List (Item K)) (k : OpenCursor K A) : Type 0 where
    pub query : k.query ≡ q
    pub follows_is : k.follows ≡ follows
    pub opened : k.opened ≡ n
    pub fits : Fits rules.is_match s.commits (shown rules rule s.search.tree k) (items ++ k.unread)

  abbrev pub SlotFits : State K A → Query A → Bool → ℕ → List (Item K) → Option (OpenCursor K A) → Type 0
  SlotFits s q follows n items (Some k) = OpenFits s q follows n items k
  SlotFits s q follows n items None = BeginsListingFor follows (matches_query rules.is_match q) n (length s.commits) s.commits (without_marks items)

  open_begins : (s : State K A) (q : Query A) (follows : Bool) (n : ℕ) (items : List (Item K)) (k : OpenCursor K A) → OpenFits s q follows n items k → BeginsListingFor follows (matches_query rules.is_match q) n (length s.commits) s.commits (without_marks items)
  open_begins s q follows n items k f =
      let b = fits_begins rules.is_match s.commits (shown rules rule s.search.tree k) (items ++ k.unread) f.fits in
      let whole : without_marks (items ++ k.unread) ≡ without_marks items ++ without_marks k.unread = filter-append (λ i. not (is_mark i)) items k.unread in
      rw (← f.query, ← f.follows_is, ← f.opened)
      (begins_less (matches_query rules.is_match k.query) k.follows k.opened (length s.commits) s.commits (without_marks items) (without_marks k.unread)
      (subst (λ l. BeginsListingFor k.follows (matches_query rules.is_match k.query) k.opened (length s.commits) s.commits l) whole b))

  pub slot_begins : (s : State K A) (q : Query A) (follows : Bool) (n : ℕ) (items : List (Item K)) (o : Option (OpenCursor K A)) → SlotFits s q follows n items o → BeginsListingFor follows (matches_query rules.is_match q) n (length s.commits) s.commits (without_marks items)
  slot_begins s q follows n items (Some k) f = open_begins s q follows n items k f
  slot_begins s q follows n items None f = f

module _ {K A E : Type 0} where
  -- a cursor was opened at the place: at the present commits, with its snapshot, or behind commit n, which it follows
  abbrev pub IsBeginning : Trace K A E → ℕ → ℕ → Bool → ℕ → Pred A → Type 0
  IsBeginning trace i c false n query = IsOpening trace i c query × (n ≡ commits_before i trace)
  IsBeginning trace i c true n query = IsFollowing trace i c n query

module _ {K A E : Type 0} (rules : Rules K A) (rule : Rule) where
  abbrev pub AskingsOf : Trace K A E → State K A → ℕ → Option (OpenCursor K A) → Type 0
  AskingsOf trace s c (Some k) = FullAskings trace c (marks_of (taken c trace ++ k.unread)) k.asked (length s.commits)
  AskingsOf trace s c None = HasAskings trace c

  -- what holds of a trace and the state that it leads to
  pub record Inv (trace : Trace K A E) (s : State K A) : Type 0 where
    pub commits : s.commits ≡ commits_of trace
    pub legal : IsLegal s.commits
    -- an open cursor was opened, by one opening
    pub seen : (c : ℕ) (k : OpenCursor K A) → cursor_at s c ≡ Some k → WasOpened trace c
    pub once : (i j c : ℕ) (a b : Event K A) (end other : E) → slice_get trace i ≡ Some (a, reply.Opened c end) → slice_get trace j ≡ Some (b, reply.Opened c other) → i ≡ j
    pub issued : (i c : ℕ) (a : Event K A) (end : E) → slice_get trace i ≡ Some (a, reply.Opened c end) → c ≤ s.last
    pub known : (j c : ℕ) (x : Item K) → slice_get trace j ≡ Some (event.Take c, reply.Taken x) → WasOpened (take j trace) c
    pub opened : (i c : ℕ) (follows : Bool) (n : ℕ) (query : Pred A) → IsBeginning trace i c follows n query → (c ≤ s.last) × SlotFits rules rule s (query_of query) follows n (taken c trace) (cursor_at s c)
    pub untaken : (c : ℕ) → s.last < c → taken c trace ≡ []
    pub taken_given : (j c : ℕ) (x : Item K) → slice_get trace j ≡ Some (event.Take c, reply.Taken x) → c ≤ s.last
    pub within : (c : ℕ) (k : OpenCursor K A) → cursor_at s c ≡ Some k → c ≤ s.last
    pub marks : (i j c : ℕ) (follows : Bool) (n m : ℕ) (query : Pred A) → IsBeginning trace i c follows n query → slice_get trace j ≡ Some (event.Take c, reply.Taken (item.Mark m))
        → IsListingFor follows (matches_query rules.is_match (query_of query)) n m s.commits (delivered c (take j trace))
    pub askings : (c : ℕ) → AskingsOf trace s c (cursor_at s c)
    pub closed : (i c : ℕ) → slice_get trace i ≡ Some (event.Close c, reply.Closed) → IsShut s c
    pub silent : (i j c : ℕ) (later : Event K A) (answer : Reply K E) → slice_get trace i ≡ Some (event.Close c, reply.Closed) → i < j
        → slice_get trace j ≡ Some (later, answer) → asks later c → answer ≡ reply.Refused refusal.CursorClosed
    pub numbered : (i : ℕ) (e : Event K A) (stamp : Stamp K) → slice_get trace i ≡ Some (e, reply.Committed stamp) → stamp.number ≡ length (commits_of (take i trace)) + 1
    pub finders : Founds trace s

  module _ (trace : Trace K A E) (old new : State K A) (e : Event K A) (r : Reply K E) (I : Inv trace old) (E' : Effect rules rule old e r new) where
    longer : Trace K A E
    longer = trace ++ (e, r) ∷ []

    before_push : (i : ℕ) → i ≤ length trace → commits_of (take i (trace ++ (e, r) ∷ [])) ≡ commits_of (take i trace)
    before_push i l = ap (λ t. commits_of t) (take_push trace (e, r) i l)

    before_end : commits_of (take (length trace) (trace ++ (e, r) ∷ [])) ≡ old.commits
    before_end = ap (λ t. commits_of t) (take_end trace (e, r)) ∙ sym I.commits

    grown : length old.commits ≤ length new.commits
    grown = omega (arith, ap length E'.commits, length-append old.commits (option_to_list (written (e, r))))

    -- an opening of the longer trace is one of the trace, or the last moment
    beginning_push : (i c : ℕ) (follows : Bool) (n : ℕ) (query : Pred A) → IsBeginning (trace ++ (e, r) ∷ []) i c follows n query → ((i < length trace) × IsBeginning trace i c follows n query) ⊎ ((i ≡ length trace) × IsFresh rules rule old new follows n query c)
    beginning_push i c false n query o =
        elim (slice_get_push trace (e, r) (event.Open query o.0.room, reply.Opened c o.0.end) i o.0.is) [
          | inl p ↦ inl (p.1, (record { room = o.0.room; end = o.0.end; is = p.0 }, o.1 ∙ ap length (before_push i (omega (arith, p.1)))))
          | inr p ↦
              let now : n ≡ length old.commits = o.1 ∙ ap (λ k. length (commits_of (take k (trace ++ (e, r) ∷ [])))) p.0 ∙ ap length before_end in
              inr (p.0, subst (λ k. IsFresh rules rule old new false k query c) (sym now) (subst (λ m. Opening rules rule old new m.0 m.1) p.1 E'.opening))
        ]
    beginning_push i c true n query o =
        elim (slice_get_push trace (e, r) (event.Follow query o.room n, reply.Opened c o.end) i o.is) [
          | inl p ↦ inl (p.1, record { room = o.room; end = o.end; is = p.0 })
          | inr p ↦ inr (p.0, subst (λ m. Opening rules rule old new m.0 m.1) p.1 E'.opening)
        ]

    -- a serial that is answered by the last moment is new
    issued_now : (c : ℕ) (a : Event K A) (end : E) → ◌≡◌ {A = Event K A × Reply K E} (e, r) (a, reply.Opened c end) → (old.last < c) × (c ≤ new.last)
    issued_now c a end h = opening_serial rules rule old new a c end (subst (λ m. Opening rules rule old new m.0 m.1) h E'.opening)

    issued_push : (i c : ℕ) (a : Event K A) (end : E) → slice_get (trace ++ (e, r) ∷ []) i ≡ Some (a, reply.Opened c end) → c ≤ new.last
    issued_push i c a end h =
        elim (slice_get_push trace (e, r) (a, reply.Opened c end) i h) [
          | inl p ↦ omega (arith, I.issued i c a end p.0, E'.last)
          | inr p ↦ (issued_now c a end p.1).1
        ]

    -- where nothing is given to a cursor that wasn't open
    not_taken : (c : ℕ) → cursor_at old c ≡ None → taken_by c (e, r) ≡ None
    not_taken c h = go (taken_by c (e, r)) refl
      where
        go : (o : Option (Item K)) → taken_by c (e, r) ≡ o → taken_by c (e, r) ≡ None
        go None t = t
        go (Some x) t = let k = E'.takes c x t in absurd (let a : None ≡ Some k.before = sym h ∙ k.was_open in cc)

    taken_stays : (c : ℕ) → taken_by c (e, r) ≡ None → taken c (trace ++ (e, r) ∷ []) ≡ taken c trace
    taken_stays c h = taken_push trace (e, r) c ∙ ap (λ o. taken c trace ++ option_to_list o) h ∙ append-nil (taken c trace)

    slot_push : (q : Query A) (follows : Bool) (n c : ℕ) → c ≤ old.last → (o p : Option (OpenCursor K A)) → cursor_at old c ≡ o → cursor_at new c ≡ p → SlotFits rules rule old q follows n (taken c trace) o → SlotFits rules rule new q follows n (taken c (trace ++ (e, r) ∷ [])) p
    slot_push q follows n c l (Some before) (Some after) a b f =
        let s = E'.serves c before after a b in
        record {
          query = s.query ∙ f.query;
          follows_is = s.follows ∙ f.follows_is;
          opened = s.opened ∙ f.opened;
          fits = rw (given_push trace (e, r) c before.unread after.unread s.sent s.mailbox) (s.fits (taken c trace ++ before.unread) f.fits);
        }
    slot_push q follows n c l (Some before) None a b f =
        let none : taken_by c (e, r) ≡ None = gone (taken_by c (e, r)) refl in
        rw (taken_stays c none) (begins_grow (matches_query rules.is_match q) follows n old.commits new.commits (written (e, r)) (without_marks (taken c trace)) E'.commits (slot_begins rules rule old q follows n (taken c trace) (Some before) f))
      where
        gone : (o : Option (Item K)) → taken_by c (e, r) ≡ o → taken_by c (e, r) ≡ None
        gone None t = t
        gone (Some x) t = let k = E'.takes c x t in absurd (let h : None ≡ Some k.after = sym b ∙ k.is_open in cc)
    slot_push q follows n c l None (Some after) a b f = absurd (let h : None ≡ Some after = sym (E'.shut c l a) ∙ b in cc)
    slot_push q follows n c l None None a b f =
        rw (taken_stays c (not_taken c a)) (begins_grow (matches_query rules.is_match q) follows n old.commits new.commits (written (e, r)) (without_marks (taken c trace)) E'.commits f)

    not_open : (s : State K A) → ((c : ℕ) (k : OpenCursor K A) → cursor_at s c ≡ Some k → c ≤ s.last) → (c : ℕ) → s.last < c → cursor_at s c ≡ None
    not_open s h c l = go (cursor_at s c) refl
      where
        go : (o : Option (OpenCursor K A)) → cursor_at s c ≡ o → cursor_at s c ≡ None
        go None t = t
        go (Some k) t = absurd (omega (arith, l, h c k t))

    opened_push : (i c : ℕ) (follows : Bool) (n : ℕ) (query : Pred A) → IsBeginning (trace ++ (e, r) ∷ []) i c follows n query
        → (c ≤ new.last) × SlotFits rules rule new (query_of query) follows n (taken c (trace ++ (e, r) ∷ [])) (cursor_at new c)
    opened_push i c follows n query o =
        elim (beginning_push i c follows n query o) [
          | inl p ↦
              let was = I.opened i c follows n query p.1 in
              (omega (arith, was.0, E'.last), slot_push (query_of query) follows n c was.0 (cursor_at old c) (cursor_at new c) refl refl was.1)
          | inr p ↦
              let f = p.1 in
              let none : taken c (trace ++ (e, r) ∷ []) ≡ [] = taken_stays c (not_taken c (not_open old I.within c f.serial)) ∙ I.untaken c f.serial in
              (f.given, rw (none, f.is_open) (record { query = f.query_is; follows_is = f.follows_is; opened = f.opened; fits = rw f.unread f.fits }))
        ]

    was_opened_push : (c : ℕ) → WasOpened trace c → WasOpened (trace ++ (e, r) ∷ []) c
    was_opened_push c h = record {
      place = h.place;
      opening = h.opening;
      end = h.end;
      is = slice_get_before trace ((e, r) ∷ []) h.place (slice_get_within trace h.place _ h.is) ∙ h.is;
    }

    seen_push : (c : ℕ) (k : OpenCursor K A) → cursor_at new c ≡ Some k → WasOpened (trace ++ (e, r) ∷ []) c
    seen_push c k h = go (cursor_at old c) refl
      where
        go : (o : Option (OpenCursor K A)) → cursor_at old c ≡ o → WasOpened (trace ++ (e, r) ∷ []) c
        go (Some before) was = was_opened_push c (I.seen c before was)
        go None was =
            let o = (E'.appears c k was h).3 in
            record { place = length trace; opening = e; end = o.end; is = slice_get_end trace (e, r) ∙ ap (λ x. Some (e, x)) o.is }

    once_push : (i j c : ℕ) (a b : Event K A) (end other : E) → slice_get (trace ++ (e, r) ∷ []) i ≡ Some (a, reply.Opened c end) → slice_get (trace ++ (e, r) ∷ []) j ≡ Some (b, reply.Opened c other) → i ≡ j
    once_push i j c a b end other h k =
        elim (slice_get_push trace (e, r) (a, reply.Opened c end) i h) [
          | inl p ↦ elim (slice_get_push trace (e, r) (b, reply.Opened c other) j k) [
            | inl q ↦ I.once i j c a b end other p.0 q.0
            | inr q ↦ absurd (omega (arith, I.issued i c a end p.0, (issued_now c b other q.1).0))
          ]
          | inr p ↦ elim (slice_get_push trace (e, r) (b, reply.Opened c other) j k) [
            | inl q ↦ absurd (omega (arith, I.issued j c b other q.0, (issued_now c a end p.1).0))
            | inr q ↦ p.0 ∙ sym q.0
          ]
        ]

    known_push : (j c : ℕ) (x : Item K) → slice_get (trace ++ (e, r) ∷ []) j ≡ Some (event.Take c, reply.Taken x) → WasOpened (take j (trace ++ (e, r) ∷ [])) c
    known_push j c x h =
        elim (slice_get_push trace (e, r) (event.Take c, reply.Taken x) j h) [
          | inl p ↦ rw (take_push trace (e, r) j (omega (arith, p.1))) (I.known j c x p.0)
          | inr p ↦
              let t = E'.takes c x (ap (λ m. taken_by c m) p.1 ∙ taken_same A E c x) in
              rw (p.0, take_end trace (e, r)) (I.seen c t.before t.was_open)
        ]

    taken_given_push : (j c : ℕ) (x : Item K) → slice_get (trace ++ (e, r) ∷ []) j ≡ Some (event.Take c, reply.Taken x) → (c ≤ old.last) × (c ≤ new.last)
    taken_given_push j c x h =
        elim (slice_get_push trace (e, r) (event.Take c, reply.Taken x) j h) [
          | inl p ↦ let g = I.taken_given j c x p.0 in (g, omega (arith, g, E'.last))
          | inr p ↦
              let t = E'.takes c x (ap (λ m. taken_by c m) p.1 ∙ taken_same A E c x) in
              let g = I.within c t.before t.was_open in
              (g, omega (arith, g, E'.last))
        ]

    -- the mark of the last moment
    mark_now : (i c : ℕ) (follows : Bool) (n m : ℕ) (query : Pred A) → IsBeginning trace i c follows n query → ◌≡◌ {A = Event K A × Reply K E} (e, r) (event.Take c, reply.Taken (item.Mark m))
        → IsListingFor follows (matches_query rules.is_match (query_of query)) n m old.commits (delivered c trace)
    mark_now i c follows n m query o is =
        let t = E'.takes c (item.Mark m) (ap (λ m. taken_by c m) is ∙ taken_same A E c (item.Mark m)) in
        let f = subst (λ o. SlotFits rules rule old (query_of query) follows n (taken c trace) o) t.was_open (I.opened i c follows n query o).1 in
        rw (← f.query, ← f.follows_is, ← f.opened) (f.fits.marks (taken c trace) t.rest m (ap (λ l. taken c trace ++ l) t.front))

    marks_push : (i j c : ℕ) (follows : Bool) (n m : ℕ) (query : Pred A) → IsBeginning (trace ++ (e, r) ∷ []) i c follows n query → slice_get (trace ++ (e, r) ∷ []) j ≡ Some (event.Take c, reply.Taken (item.Mark m))
        → IsListingFor follows (matches_query rules.is_match (query_of query)) n m new.commits (delivered c (take j (trace ++ (e, r) ∷ [])))
    marks_push i j c follows n m query o h =
        elim (beginning_push i c follows n query o) [
          | inl p ↦
              listing_grow (matches_query rules.is_match (query_of query)) follows n m old.commits new.commits (written (e, r)) _ E'.commits
              (elim (slice_get_push trace (e, r) (event.Take c, reply.Taken (item.Mark m)) j h) [
                | inl q ↦ rw (take_push trace (e, r) j (omega (arith, q.1))) (I.marks i j c follows n m query p.1 q.0)
                | inr q ↦ rw (q.0, take_end trace (e, r)) (mark_now i c follows n m query p.1 q.1)
              ])
          | inr p ↦ absurd (omega (arith, (taken_given_push j c (item.Mark m) h).0, p.1.serial))
        ]

    askings_push : (c : ℕ) → AskingsOf (trace ++ (e, r) ∷ []) new c (cursor_at new c)
    askings_push c = go (cursor_at old c) (cursor_at new c) refl refl (I.askings c)
      where
        fronts : (before : OpenCursor K A) → cursor_at old c ≡ Some before → (x : Item K) → taken_by c (e, r) ≡ Some x → (rest : List (Item K)) × (before.unread ≡ x ∷ rest)
        fronts before h x t =
            let k = E'.takes c x t in
            let same : Some k.before ≡ Some before = sym k.was_open ∙ h in
            let eq : k.before ≡ before = cc in
            (k.rest, subst (λ (b : OpenCursor K A). b.unread ≡ x ∷ k.rest) eq k.front)

        untouched : taken_by c (e, r) ≡ None → HasAskings trace c → HasAskings (trace ++ (e, r) ∷ []) c
        untouched none h = has_push trace (e, r) c h (λ n is. absurd (let t : None ≡ Some (item.Mark n) = sym none ∙ ap (λ m. taken_by c m) is ∙ taken_same A E c (item.Mark n) in cc))

        go : (o p : Option (OpenCursor K A)) → cursor_at old c ≡ o → cursor_at new c ≡ p → AskingsOf trace old c o → AskingsOf (trace ++ (e, r) ∷ []) new c p
        go (Some before) (Some after) a b f = serve_askings rules rule trace old e r new c before after (E'.serves c before after a b) (ap length I.commits) grown (fronts before a) f
        go (Some before) None a b f = untouched (gone (taken_by c (e, r)) refl) f.has
          where
            gone : (o : Option (Item K)) → taken_by c (e, r) ≡ o → taken_by c (e, r) ≡ None
            gone None t = t
            gone (Some x) t = let k = E'.takes c x t in absurd (let h : None ≡ Some k.after = sym b ∙ k.is_open in cc)
        go None None a b f = untouched (not_taken c a) f
        go None (Some after) a b f =
            let fresh = E'.appears c after a b in
            let none : taken c (trace ++ (e, r) ∷ []) ≡ [] = taken_stays c (not_taken c a) ∙ I.untaken c fresh.0 in
            rw (none, fresh.1, fresh.2) (record {
              has = record {
                places = [];
                rising = λ j first second g h. absurd (cc);
                each = λ i n g. absurd (omega (arith, fresh.0, (taken_given_push i c (item.Mark n) g).0));
              };
              counted = refl;
              matched = λ j n place g h. absurd (cc);
              waiting = λ t place g. absurd (cc);
            })

    closed_push : (i c : ℕ) → slice_get (trace ++ (e, r) ∷ []) i ≡ Some (event.Close c, reply.Closed) → IsShut new c
    closed_push i c h =
        elim (slice_get_push trace (e, r) (event.Close c, reply.Closed) i h) [
          | inl p ↦ let was = I.closed i c p.0 in record { positive = was.positive; given = omega (arith, was.given, E'.last); closed = E'.shut c was.given was.closed }
          | inr p ↦ subst (λ m. Closing {K = K} {A = A} {E = E} rules rule new m.0 m.1) p.1 E'.closing
        ]

    silent_push : (i j c : ℕ) (later : Event K A) (answer : Reply K E) → slice_get (trace ++ (e, r) ∷ []) i ≡ Some (event.Close c, reply.Closed) → i < j
        → slice_get (trace ++ (e, r) ∷ []) j ≡ Some (later, answer) → asks later c → answer ≡ reply.Refused refusal.CursorClosed
    silent_push i j c later answer h l k a =
        elim (slice_get_push trace (e, r) (event.Close c, reply.Closed) i h) [
          | inl p ↦ elim (slice_get_push trace (e, r) (later, answer) j k) [
            | inl q ↦ I.silent i j c later answer p.0 l q.0 a
            | inr q ↦ ap (λ m. m.1) (sym q.1) ∙ E'.silent c (I.closed i c p.0) (subst (λ m. asks m.0 c) (sym q.1) a)
          ]
          | inr p ↦ absurd (omega (arith, slice_get_within (trace ++ (e, r) ∷ []) j (later, answer) k, p.0, l, length-append trace ((e, r) ∷ [])))
        ]

    numbered_push : (i : ℕ) (f : Event K A) (stamp : Stamp K) → slice_get (trace ++ (e, r) ∷ []) i ≡ Some (f, reply.Committed stamp)
        → stamp.number ≡ (length (commits_of (take i (trace ++ (e, r) ∷ []))) + 1)
    numbered_push i f stamp h =
        elim (slice_get_push trace (e, r) (f, reply.Committed stamp) i h) [
          | inl p ↦ I.numbered i f stamp p.0 ∙ ap (λ t. length t + 1) (sym (before_push i (omega (arith, p.1))))
          | inr p ↦
              let at_end : commits_of (take i (trace ++ (e, r) ∷ [])) ≡ old.commits = ap (λ k. commits_of (take k (trace ++ (e, r) ∷ []))) p.0 ∙ before_end in
              let number : stamp.number ≡ length old.commits + 1 = subst (λ (m : Moment K A E). Numbering rules rule old m.1) p.1 E'.numbering in
              number ∙ ap (λ t. length t + 1) (sym at_end)
        ]

    -- the invariant after one more step
    pub Inv-push : Inv (trace ++ (e, r) ∷ []) new
    Inv-push = record {
      commits = E'.commits ∙ ap (λ t. t ++ option_to_list (written (e, r))) I.commits ∙ sym (commits_push trace (e, r));
      legal = E'.legal;
      seen = seen_push;
      once = once_push;
      issued = issued_push;
      known = known_push;
      opened = opened_push;
      untaken = λ c l.
          let old_l : old.last < c = omega (arith, l, E'.last) in
          taken_stays c (not_taken c (not_open old I.within c old_l)) ∙ I.untaken c old_l;
      taken_given = λ j c x h. (taken_given_push j c x h).1;
      within = E'.within;
      marks = marks_push;
      askings = askings_push;
      closed = closed_push;
      silent = silent_push;
      numbered = numbered_push;
      finders = founds_push rules rule trace old new e r I.finders E'.finders;
    }

  pub faithful : (trace : Trace K A E) (s : State K A) → Inv trace s → IsFaithful rules.is_match trace
  faithful trace s I = record {
    numbered = I.numbered;
    writes = I.finders.writes;
    legal = subst (λ t. IsLegal t) I.commits I.legal;
    finders = I.finders.once;
    cursors = I.once;
    opened = I.known;
    delivers = λ i c query o. delivered_is c false (commits_before i trace) query (I.opened i c false (commits_before i trace) query (o, refl)).1;
    marks = λ i j c n query o h.
        subst (λ t. IsListing (matches_query rules.is_match (query_of query)) (commits_before i trace) n t (delivered c (take j trace))) I.commits (I.marks i j c false (commits_before i trace) n query (o, refl) h);
    follows = λ i c n query o. delivered_is c true n query (I.opened i c true n query o).1;
    marks_behind = λ i j c n m query o h.
        subst (λ t. AreChanges (matches_query rules.is_match (query_of query)) n m t (delivered c (take j trace))) I.commits (I.marks i j c true n m query o h);
    askings = λ c. go c (cursor_at s c) (I.askings c);
    closed = I.silent;
  }
    where
      delivered_is : (c : ℕ) (follows : Bool) (n : ℕ) (query : Pred A) → SlotFits rules rule s (query_of query) follows n (taken c trace) (cursor_at s c)
          → BeginsListingFor follows (matches_query rules.is_match (query_of query)) n (length (commits_of trace)) (commits_of trace) (delivered c trace)
      delivered_is c follows n query f =
          subst (λ t. BeginsListingFor follows (matches_query rules.is_match (query_of query)) n (length t) t (delivered c trace)) I.commits
          (slot_begins rules rule s (query_of query) follows n (taken c trace) (cursor_at s c) f)

      go : (c : ℕ) (o : Option (OpenCursor K A)) → AskingsOf trace s c o → HasAskings trace c
      go c (Some k) f = f.has
      go c None f = f
