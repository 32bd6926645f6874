-- What sweeps of every leaf and of one page take of the dead of a store.
use Rattle.std.proofs.Common.{◌≡◌, ◌<◌, ◌≤◌, ◌⊎◌, inl, inr, ℕ, zero, suc, Bool, true, false, cond, List, [], ◌∷◌, ◌++◌, length, map, filter, All, Option, Some, None, refl, sym, ap, ◌∙◌, arith, subst, min}
use Rattle.std.specs.Prelude.{slice_get, slice_set, nat_lt, option_to_list, if◌then◌else◌, IsPermutation}
use Rattle.std.specs.List.{AllByRecursion, filter_map}
use Rattle.std.proofs.lemmas.Bool.{both_ways, cases_Bool}
use Rattle.std.proofs.lemmas.List.{get_or_past, length-map, map-append, map-set, set-get_or}
use Rattle.std.proofs.Math.ListN.{get_or-map}
use Rattle.std.proofs.lemmas.List.Elements.{All-nil, All-cons, All-head, All-tail}
use Rattle.std.proofs.lemmas.List.Sorted.{All-permutation}
use Rattle.key_class.specs.Rules.{Rules}
use Rattle.mailbox.specs.Outlets.{Rule}
use Rattle.change_list.proofs.Lists.{filter_map_cons}
use Rattle.change_list.proofs.Tracking.{commit_within}
use Rattle.cursor.specs.OpenCursors.{OpenCursor, shown, is_scanning}
use Rattle.collector.specs.Horizons.{IsHorizon, ScansFrom}
use Rattle.node.specs.Changes.{with_rows}
use Rattle.page_table.specs.Soundness.{IsSound}
use Rattle.page_table.specs.Trees.{Tree, after_rows, no_page, page_at, rows_of_tree}
use Rattle.page_table.proofs.Under.{entries_under}
use Rattle.row_version.specs.Entries.{Entry, is_needed, lives_at}
use Rattle.scan.specs.Agreement.{IsEntryOf, IsDeath}
use Rattle.split.specs.Tests.{is_leaf}
use Rattle.writes.proofs.HorizonFacts.{horizon_unique}
use Rattle.writes.specs.Sweeping.{SweepsAll, SweepsSome, is_past}
use Rattle.world.proofs.Refusing.{open_passes}
use Rattle.world.proofs.Serials.{member_at, member_within}
use Rattle.world.specs.Resting.{death, death_from, deaths, Rests}
use Rattle.world.specs.States as world
use Rattle.world.specs.Steps.{SweepsLeaf}
use Rattle.store.specs.States.{StoreState, KeepsLiving, SweepsOnePage, SweepsStore, SweepsStorePart as StoreSweepsSome, IsNeededBy, dead_on, is_dead_needed, horizon_of}
use Rattle.store.specs.Worlds.{dead_of_page, dead_row, store_state}
use Rattle.store.proofs.Worlds.{open_as}
use Rattle.store.proofs.Keeping.{keeps_cursors, as_many, dead_rows_permuted}

module _ {K A : Type 0} (rules : Rules K A) (rule : Rule) (t : Tree K) (commits : ℕ) where
  later : (k : OpenCursor K A) (ks : List (OpenCursor K A)) (opened : ℕ) → ScansFrom ks opened → ScansFrom (k ∷ ks) opened
  later k ks opened scan = record { at = suc scan.at; cursor = scan.cursor; is = scan.is; scanning = scan.scanning; opened_is = scan.opened_is }

  -- the horizon that a store shows is that of its world
  pub shown_horizon : (ks : List (OpenCursor K A)) → IsHorizon commits ks (horizon_of commits (map (shown rules rule t) ks))
  shown_horizon [] = record { within = omega arith; least = λ opened scan. absurd (let e = scan.is in cc); reached = inl refl }
  shown_horizon (k ∷ ks) = go (is_scanning k.stack) refl (shown_horizon ks)
    where
      rest : ℕ
      rest = horizon_of commits (map (shown rules rule t) ks)

      first_or_later : (at : ℕ) (c : OpenCursor K A) → slice_get (k ∷ ks) at ≡ Some c → (k ≡ c) ⊎ ((i : ℕ) × (slice_get ks i ≡ Some c))
      first_or_later zero c h = inl (cc)
      first_or_later (suc i) c h = inr (i, h)

      least_of : (h : ℕ) → ((opened : ℕ) → ScansFrom ks opened → h ≤ opened) → (is_scanning k.stack ≡ true → h ≤ k.opened) → (opened : ℕ) → ScansFrom (k ∷ ks) opened → h ≤ opened
      least_of h least above opened scan = elim (first_or_later scan.at scan.cursor scan.is) [
        | inl e ↦
            let scans : is_scanning k.stack ≡ true = ap (λ (c : OpenCursor K A). is_scanning c.stack) e ∙ scan.scanning in
            let same : k.opened ≡ opened = ap (λ (c : OpenCursor K A). c.opened) e ∙ scan.opened_is in
            omega (arith, above scans, same)
        | inr old ↦ least opened (record { at = old.0; cursor = scan.cursor; is = old.1; scanning = scan.scanning; opened_is = scan.opened_is })
      ]

      either_one : (a b : ℕ) → ((min a b ≡ a) × (a ≤ b)) ⊎ ((min a b ≡ b) × (b ≤ a))
      either_one a b = search arith

      go : (b : Bool) → is_scanning k.stack ≡ b → IsHorizon commits ks (horizon_of commits (map (shown rules rule t) ks)) → IsHorizon commits (k ∷ ks) (if b then min k.opened (horizon_of commits (map (shown rules rule t) ks)) else horizon_of commits (map (shown rules rule t) ks))
      go false e is = record {
        within = is.within;
        least = least_of (horizon_of commits (map (shown rules rule t) ks)) is.least (λ scans. absurd (both_ways (is_scanning k.stack) e scans));
        reached = elim is.reached [ inl all ↦ inl all | inr scan ↦ inr (later k ks _ scan) ];
      }
      go true e is = elim (either_one k.opened (horizon_of commits (map (shown rules rule t) ks))) [
        | inl own ↦ rw (own.0) (record {
          within = omega (arith, own.1, is.within);
          least = least_of k.opened (λ opened scan. omega (arith, own.1, is.least opened scan)) (λ s. omega arith);
          reached = inr (record { at = 0; cursor = k; is = refl; scanning = e; opened_is = refl });
        })
        | inr old ↦ rw (old.0) (record {
          within = is.within;
          least = least_of (horizon_of commits (map (shown rules rule t) ks)) is.least (λ s. old.1);
          reached = elim is.reached [ inl all ↦ inl all | inr scan ↦ inr (later k ks _ scan) ];
        })
      ]

module _ {K A : Type 0} (rules : Rules K A) (rule : Rule) (old : world.State K A) (sound : world.IsSoundWorld rules.is_cover old) (horizon : ℕ) (is : IsHorizon (length old.commits) old.cursors horizon) where
  -- what a store says that a scan needs
  same_horizon : horizon_of (length old.commits) (map (shown rules rule old.search.tree) old.cursors) ≡ horizon
  same_horizon = horizon_unique (length old.commits) old.cursors _ horizon (shown_horizon rules rule old.search.tree (length old.commits) old.cursors) is

  needed_as : (d : ℕ × ℕ) → is_dead_needed (store_state rules rule old) (dead_row d) ≡ is_past horizon d
  needed_as d = ap (λ h. nat_lt h d.1) same_horizon

  filter_as : (ds : List (ℕ × ℕ)) → filter (is_dead_needed (store_state rules rule old)) (map dead_row ds) ≡ map dead_row (filter (is_past horizon) ds)
  filter_as [] = refl
  filter_as (d ∷ ds) = rw (needed_as d) (go (is_past horizon d) (filter_as ds))
    where
      go : (b : Bool) → filter (is_dead_needed (store_state rules rule old)) (map dead_row ds) ≡ map dead_row (filter (is_past horizon) ds)
          → cond b (dead_row d ∷ filter (is_dead_needed (store_state rules rule old)) (map dead_row ds)) (filter (is_dead_needed (store_state rules rule old)) (map dead_row ds)) ≡ map dead_row (cond b (d ∷ filter (is_past horizon) ds) (filter (is_past horizon) ds))
      go true e = ap (λ l. dead_row d ∷ l) e
      go false e = e

  unneeded_as : (ds : List (ℕ × ℕ)) → AllByRecursion (λ d. is_past horizon d ≡ false) ds → AllByRecursion (λ d. is_dead_needed (store_state rules rule old) d ≡ false) (map dead_row ds)
  unneeded_as [] a = tt
  unneeded_as (d ∷ ds) a = (needed_as d ∙ a.0, unneeded_as ds a.1)

  -- a dead row past the horizon is needed by an open cursor
  needed_by : (d : ℕ × ℕ) → d.1 ≤ length old.commits → horizon < d.1 → IsNeededBy (store_state rules rule old) (dead_row d)
  needed_by d l past = elim is.reached [
    | inl all ↦ absurd (omega (arith, all, l, past))
    | inr scan ↦
        let m = member_at (λ k. k.serial) scan.cursor.serial 0 old.last scan.at old.cursors scan.cursor sound.serials scan.is refl in
        let n = member_within (λ k. k.serial) scan.cursor.serial 0 old.last old.cursors scan.cursor sound.serials m in
        record {
          serial = scan.cursor.serial;
          cursor = shown rules rule old.search.tree scan.cursor;
          is_open = open_as rules rule old scan.cursor.serial scan.cursor (open_passes old scan.cursor.serial scan.cursor m n.0 n.1) m;
          scanning = scan.scanning;
          opened = omega (arith, scan.opened_is, past);
        }
  ]

  -- a death of the tree, of a row that a scan needs
  abbrev IsKept : ℕ × ℕ → Type 0
  IsKept d = (d.1 ≤ length old.commits) × (horizon < d.1)

  deaths_within : (es : List (Entry K)) → All (λ e. IsEntryOf old.commits e) es → All (λ (d : ℕ × ℕ). d.1 ≤ length old.commits) (filter_map death es)
  deaths_within [] a = All-nil (λ (d : ℕ × ℕ). d.1 ≤ length old.commits)
  deaths_within (e ∷ es) a = rw (filter_map_cons death e es) (by_death (deaths_within es (All-tail (λ e. IsEntryOf old.commits e) e es a)) e.died refl)
    where
      by_death : All (λ (d : ℕ × ℕ). d.1 ≤ length old.commits) (filter_map death es) → (o : Option ℕ) → e.died ≡ o → All (λ (d : ℕ × ℕ). d.1 ≤ length old.commits) (option_to_list (death_from e.row e.died) ++ filter_map death es)
      by_death rest None h = rw h rest
      by_death rest (Some n) h =
          let d : IsDeath old.commits e.row (Some n) = subst (λ o. IsDeath old.commits e.row o) h (All-head (λ e. IsEntryOf old.commits e) e es a).death in
          rw h (All-cons (λ (d : ℕ × ℕ). d.1 ≤ length old.commits) (e.row, n) (filter_map death es) (commit_within old.commits n d.write d.is).1 rest)

  kept_filtered : (ds : List (ℕ × ℕ)) → All (λ (d : ℕ × ℕ). d.1 ≤ length old.commits) ds → All IsKept (filter (is_past horizon) ds)
  kept_filtered [] a = All-nil IsKept
  kept_filtered (d ∷ ds) a = go (is_past horizon d) refl (kept_filtered ds (All-tail (λ (d : ℕ × ℕ). d.1 ≤ length old.commits) d ds a))
    where
      go : (b : Bool) → is_past horizon d ≡ b → All IsKept (filter (is_past horizon) ds) → All IsKept (cond b (d ∷ filter (is_past horizon) ds) (filter (is_past horizon) ds))
      go true e r = All-cons IsKept d (filter (is_past horizon) ds) (All-head (λ (d : ℕ × ℕ). d.1 ≤ length old.commits) d ds a, search (arith, e)) r
      go false e r = r

  needed_all : (ds : List (ℕ × ℕ)) → All IsKept ds → AllByRecursion (λ d. IsNeededBy (store_state rules rule old) d) (map dead_row ds)
  needed_all [] a = tt
  needed_all (d ∷ ds) a = let k = All-head IsKept d ds a in (needed_by d k.0 k.1, needed_all ds (All-tail IsKept d ds a))

  pub old_kept : All IsKept (filter (is_past horizon) (deaths old.search.tree))
  old_kept = kept_filtered (deaths old.search.tree) (deaths_within (rows_of_tree old.search.tree)
      (entries_under old.search.tree sound.tree.sound.rank sound.tree.sound.ranked (λ e. IsEntryOf old.commits e) sound.agrees.entries 0 old.search.tree.counter sound.tree.sound.root_exists))

-- the needed rows of a page have the deaths past the horizon
needed_deaths : {K : Type 0} (horizon : ℕ) (es : List (Entry K)) → filter_map death (filter (is_needed horizon) es) ≡ filter (is_past horizon) (filter_map death es)
needed_deaths horizon [] = refl
needed_deaths {K} horizon (e ∷ es) = by_death e.died refl (needed_deaths horizon es) ∙ ap (filter (is_past horizon)) (sym (filter_map_cons death e es))
  where
    kept : List (Entry K)
    kept = filter (is_needed horizon) es

    died : List (ℕ × ℕ)
    died = filter_map death es

    by_death : (o : Option ℕ) → e.died ≡ o → filter_map death kept ≡ filter (is_past horizon) died → filter_map death (cond (lives_at horizon e.died) (e ∷ kept) kept) ≡ filter (is_past horizon) (option_to_list (death_from e.row e.died) ++ died)
    by_death None none h =
        ap (λ o. filter_map death (cond (lives_at horizon o) (e ∷ kept) kept)) none ∙ filter_map_cons death e kept
        ∙ ap (λ o. option_to_list (death_from e.row o) ++ filter_map death kept) none ∙ h ∙ sym (ap (λ o. filter (is_past horizon) (option_to_list (death_from e.row o) ++ died)) none)
    by_death (Some n) some h =
        ap (λ o. filter_map death (cond (lives_at horizon o) (e ∷ kept) kept)) some ∙ by_number (nat_lt horizon n)
        ∙ sym (ap (λ o. filter (is_past horizon) (option_to_list (death_from e.row o) ++ died)) some)
      where
        by_number : (b : Bool) → filter_map death (cond b (e ∷ kept) kept) ≡ cond b ((e.row, n) ∷ filter (is_past horizon) died) (filter (is_past horizon) died)
        by_number true = filter_map_cons death e kept ∙ ap (λ o. option_to_list (death_from e.row o) ++ filter_map death kept) some ∙ ap (λ ds. (e.row, n) ∷ ds) h
        by_number false = h

-- the dead rows on a page, as a store shows them
dead_on_as : {K A : Type 0} (rules : Rules K A) (rule : Rule) (s : world.State K A) (page : ℕ) → dead_on (store_state rules rule s) page ≡ dead_of_page (page_at s.search.tree page)
dead_on_as rules rule s page = get_or-map dead_of_page s.search.tree.pages page no_page

-- a page that isn't a leaf has no rows
no_rows : {K : Type 0} (is_cover : K → K → Bool) (t : Tree K) (fan : ℕ) → IsSound is_cover fan t → (page : ℕ) → is_leaf t page ≡ false → (page_at t page).rows ≡ []
no_rows is_cover t fan sound page no_leaf = elim within [
  | inl l ↦ (sound.shape page l).inner (search (arith, no_leaf, l))
  | inr past ↦ ap (λ p. p.rows) (get_or_past t.pages page no_page past)
]
  where
    within : (page < length t.pages) ⊎ (length t.pages ≤ page)
    within = search arith

module _ {K A : Type 0} (rules : Rules K A) (rule : Rule) (old new : world.State K A) (sound : world.IsSoundWorld rules.is_cover old) (page : ℕ) where
  abbrev before : StoreState K A
  before = store_state rules rule old

  leaf_swept : (count : ℕ) → SweepsLeaf old page count new → SweepsOnePage before page (store_state rules rule new)
  unfolding after_rows
  leaf_swept count s =
      ap (λ w. map dead_of_page w.search.tree.pages) s.after
      ∙ map-set dead_of_page old.search.tree.pages page (with_rows (page_at old.search.tree page) (filter (is_needed s.horizon) rows))
      ∙ ap (slice_set before.dead_by_page page) left
    where
      rows : List (Entry K)
      rows = (page_at old.search.tree page).rows

      left : map dead_row (filter_map death (filter (is_needed s.horizon) rows)) ≡ filter (is_dead_needed before) (dead_on before page)
      left =
          ap (map dead_row) (needed_deaths s.horizon rows) ∙ sym (filter_as rules rule old sound s.horizon s.is (filter_map death rows))
          ∙ ap (filter (is_dead_needed before)) (sym (dead_on_as rules rule old page))

  nothing_swept : is_leaf old.search.tree page ≡ false → SweepsOnePage before page before
  nothing_swept no_leaf = sym (ap (slice_set before.dead_by_page page) (ap (filter (is_dead_needed before)) none ∙ sym none) ∙ set-get_or before.dead_by_page page [])
    where
      none : dead_on before page ≡ []
      none = dead_on_as rules rule old page ∙ ap (λ rows. map dead_row (filter_map death rows)) (no_rows rules.is_cover old.search.tree old.search.fan sound.tree.sound page no_leaf)

  pub sweeps_one : (count : ℕ) → (is_leaf old.search.tree page ≡ true → SweepsLeaf old page count new) → (is_leaf old.search.tree page ≡ false → new ≡ old) → SweepsOnePage before page (store_state rules rule new)
  sweeps_one count leaf other = elim (cases_Bool (is_leaf old.search.tree page)) [
    | inl is ↦ leaf_swept count (leaf is)
    | inr inner ↦ subst (λ w. SweepsOnePage before page (store_state rules rule w)) (sym (other inner)) (nothing_swept inner)
  ]

module _ {K A : Type 0} (rules : Rules K A) (rule : Rule) (old new : world.State K A) (sound : world.IsSoundWorld rules.is_cover old) (rests : Rests rules rule old new) (commits : new.commits ≡ old.commits)
    (pages : length new.search.tree.pages ≡ length old.search.tree.pages) (last_finder : new.last_finder ≡ old.last_finder) where
  keeps_living : KeepsLiving rules.is_match (store_state rules rule old) (store_state rules rule new)
  keeps_living = record {
    limit = rests.limit;
    page_limit = rests.page_limit;
    commits = commits;
    last = rests.last;
    cursors = keeps_cursors rules rule old new rests;
    as_many = as_many rules rule old new rests;
    pages = omega (arith, pages, rests.page_limit);
    finders = last_finder;
  }

  pub sweeps : (number : ℕ) → SweepsAll old number new → SweepsStore rules.is_match (store_state rules rule old) number (store_state rules rule new)
  sweeps number s = record {
    rest = keeps_living;
    counted = let a : length (map dead_row (deaths new.search.tree)) ≡ length (deaths new.search.tree) = length-map (deaths new.search.tree) dead_row in let b : length (map dead_row (deaths old.search.tree)) ≡ length (deaths old.search.tree) = length-map (deaths old.search.tree) dead_row in omega (arith, a, b, s.counted);
    left = rw (filter_as rules rule old sound s.horizon s.is (deaths old.search.tree)) (dead_rows_permuted (filter (is_past s.horizon) (deaths old.search.tree)) (deaths new.search.tree) s.left);
    needed = needed_all rules rule old sound s.horizon s.is (deaths new.search.tree) (All-permutation (IsKept rules rule old sound s.horizon s.is) (filter (is_past s.horizon) (deaths old.search.tree)) (deaths new.search.tree) s.left (old_kept rules rule old sound s.horizon s.is));
  }

  pub sweeps_some : SweepsSome old new → StoreSweepsSome rules.is_match (store_state rules rule old) (store_state rules rule new)
  sweeps_some s = record {
    rest = keeps_living;
    gone = map dead_row s.gone;
    parted = subst (λ l. IsPermutation (map dead_row (deaths old.search.tree)) l) (map-append dead_row s.gone (deaths new.search.tree)) (dead_rows_permuted (deaths old.search.tree) (s.gone ++ deaths new.search.tree) s.parted);
    unneeded = unneeded_as rules rule old sound s.horizon s.is s.gone s.unneeded;
  }
