-- What sweeps of pages take, page by page.
use Rattle.std.proofs.Common.{◌≡◌, ◌+◌, ◌*◌, ◌<◌, ◌≤◌, inl, inr, ℕ, Bool, true, false, cond, List, [], ◌∷◌, ◌++◌, length, filter, Option, Some, None, refl, sym, ap, ◌∙◌, arith, subst, All}
use Rattle.std.proofs.Common.{length-append}
use Rattle.std.specs.Prelude.{nat_lt, option_to_list}
use Rattle.std.specs.List.{AllByRecursion, filter_map}
use Rattle.std.proofs.lemmas.Bool.{cases_Bool}
use Rattle.std.proofs.lemmas.List.Elements.{All-cons, All-nil}
use Rattle.key_class.specs.Rules.{Rules}
use Rattle.mailbox.specs.Outlets.{Rule}
use Rattle.key_class.specs.declared.refusal.Refusal.{Refusal}
use Rattle.key_class.specs.declared.refusal.Refusal.TheVariants as refusal
use Rattle.change_list.proofs.Lists.{filter_map_cons}
use Rattle.collector.specs.Horizons.{IsHorizon}
use Rattle.page_table.proofs.Arranged.{arranged}
use Rattle.page_table.proofs.PageLists.{is_or_not}
use Rattle.page_table.proofs.RowChanges.{rows_at, rows_off}
use Rattle.page_table.proofs.Under.{entries_under}
use Rattle.page_table.proofs.Visits.{weigh-ones}
use Rattle.page_table.proofs.Weights.{weigh-append, weigh-where}
use Rattle.page_table.specs.Keeping.{EachEntry}
use Rattle.page_table.specs.Soundness.{IsSound}
use Rattle.page_table.specs.Trees.{Tree, page_at, rows_of_tree}
use Rattle.page_table.specs.Weights.{weigh}
use Rattle.row_version.specs.Entries.{Entry, is_needed, lives_at}
use Rattle.page_table.specs.LeafChanges.{after_sweep}
use Rattle.split.specs.Tests.{first_failing, is_leaf, sweep_tests}
use Rattle.writes.specs.Sweeping.{SweepsAll, SweepsSome, is_past}
use Rattle.writes.proofs.Deaths.{rows_changed}
use Rattle.writes.proofs.HorizonFacts.{a_horizon, horizon_unique}
use Rattle.writes.proofs.UnderWay.{rows_pages}
use Rattle.world.proofs.Resting.{death_weight, rests_refl, rests_trans, same_pair, same_pair_exact, step_rests, weigh_filter_map}
use Rattle.world.specs.declared.event.Event.TheVariants as event
use Rattle.world.specs.declared.reply.Reply.TheVariants as reply
use Rattle.world.specs.Promises.{ServesAll}
use Rattle.world.specs.Resting.{death, death_from, deaths, Rests}
use Rattle.world.specs.States.{State, IsSoundWorld}
use Rattle.world.specs.Steps.{IsRefused, SweepsLeaf}

weigh_filter : {X : Type 0} (f : X → ℕ) (p : X → Bool) (xs : List X) → weigh f (filter p xs) ≡ weigh (λ x. cond (p x) (f x) 0) xs
weigh_filter f p [] = refl
weigh_filter f p (x ∷ xs) = go (p x) (weigh_filter f p xs)
  where
    go : (b : Bool) → weigh f (filter p xs) ≡ weigh (λ x. cond (p x) (f x) 0) xs → weigh f (cond b (x ∷ filter p xs) (filter p xs)) ≡ cond b (f x) 0 + weigh (λ x. cond (p x) (f x) 0) xs
    go true e = omega (arith, e)
    go false e = omega (arith, e)

all_filter : {X : Type 0} (p : X → Bool) (xs : List X) → All (λ x. p x ≡ true) (filter p xs)
all_filter p [] = All-nil (λ x. p x ≡ true)
all_filter {X} p (x ∷ xs) = go (p x) refl (all_filter p xs)
  where
    go : (b : Bool) → p x ≡ b → All (λ x. p x ≡ true) (filter p xs) → All (λ x. p x ≡ true) (cond b (x ∷ filter p xs) (filter p xs))
    go true e h = All-cons (λ (x : X). p x ≡ true) x (filter p xs) e h
    go false e h = h

recursion_append : {X : Type 0} (P : X → Type 0) (xs ys : List X) → AllByRecursion P xs → AllByRecursion P ys → AllByRecursion P (xs ++ ys)
recursion_append P [] ys a b = b
recursion_append P (x ∷ xs) ys a b = (a.0, recursion_append P xs ys a.1 b)

-- the death of an entry that a sweep takes
abbrev pub lost_from : ℕ → ℕ → Option ℕ → Option (ℕ × ℕ)
lost_from horizon row None = None
lost_from horizon row (Some n) = cond (nat_lt horizon n) None (Some (row, n))

module _ (horizon : ℕ) where
  -- an entry is kept, or its death is lost
  part_weight : (f : ℕ × ℕ → ℕ) (row : ℕ) (o : Option ℕ) → weigh f (option_to_list (death_from row o)) ≡ cond (lives_at horizon o) (weigh f (option_to_list (death_from row o))) 0 + weigh f (option_to_list (lost_from horizon row o))
  part_weight f row None = refl
  part_weight f row (Some n) = go (nat_lt horizon n)
    where
      go : (b : Bool) → weigh f ((row, n) ∷ []) ≡ cond b (weigh f ((row, n) ∷ [])) 0 + weigh f (option_to_list (cond b None (Some (row, n))))
      go true = omega arith
      go false = omega arith

  part_count : (row : ℕ) (o : Option ℕ) → cond (lives_at horizon o) 1 0 + length {A = ℕ × ℕ} (option_to_list (lost_from horizon row o)) ≡ 1
  part_count row None = refl
  part_count row (Some n) = go (nat_lt horizon n)
    where
      go : (b : Bool) → cond b 1 0 + length {A = ℕ × ℕ} (option_to_list (cond b None (Some (row, n)))) ≡ 1
      go true = refl
      go false = refl

  part_unneeded : (row : ℕ) (o : Option ℕ) → AllByRecursion (λ d. is_past horizon d ≡ false) (option_to_list (lost_from horizon row o))
  part_unneeded row None = tt
  part_unneeded row (Some n) = go (nat_lt horizon n) refl
    where
      go : (b : Bool) → nat_lt horizon n ≡ b → AllByRecursion (λ d. is_past horizon d ≡ false) (option_to_list (cond b None (Some (row, n))))
      go true e = tt
      go false e = (e, tt)

module _ {K : Type 0} (horizon : ℕ) where
  abbrev pub lost : List (Entry K) → List (ℕ × ℕ)
  lost xs = filter_map (λ e. lost_from horizon e.row e.died) xs

  lost_weight : (f : ℕ × ℕ → ℕ) (xs : List (Entry K)) → weigh (death_weight f) xs ≡ weigh (death_weight f) (filter (is_needed horizon) xs) + weigh f (lost xs)
  lost_weight f xs =
      let a = weigh_filter (death_weight f) (is_needed horizon) xs in
      let b = weigh_filter_map f (λ (e : Entry K). lost_from horizon e.row e.died) xs in
      omega (arith, a, b, each xs)
    where
      each : (xs : List (Entry K)) → weigh (death_weight f) xs ≡ weigh (λ (e : Entry K). cond (is_needed horizon e) (death_weight f e) 0) xs + weigh (λ (e : Entry K). weigh f (option_to_list (lost_from horizon e.row e.died))) xs
      each [] = refl
      each (x ∷ xs) = omega (arith, part_weight horizon f x.row x.died, each xs)

  lost_count : (xs : List (Entry K)) → length (filter (is_needed horizon) xs) + length (lost xs) ≡ length xs
  lost_count xs =
      let a = weigh_filter (λ (e : Entry K). 1) (is_needed horizon) xs in
      let b = weigh_filter_map (λ (d : ℕ × ℕ). 1) (λ (e : Entry K). lost_from horizon e.row e.died) xs in
      omega (arith, a, b, each xs, weigh-ones (filter (is_needed horizon) xs), weigh-ones (lost xs))
    where
      one : (e : Entry K) → cond (is_needed horizon e) 1 0 + weigh (λ (d : ℕ × ℕ). 1) (option_to_list (lost_from horizon e.row e.died)) ≡ 1
      one e = omega (arith, part_count horizon e.row e.died, weigh-ones (option_to_list (lost_from horizon e.row e.died)))

      each : (xs : List (Entry K)) → weigh (λ (e : Entry K). cond (is_needed horizon e) 1 0) xs + weigh (λ (e : Entry K). weigh (λ (d : ℕ × ℕ). 1) (option_to_list (lost_from horizon e.row e.died))) xs ≡ length xs
      each [] = refl
      each (x ∷ xs) = omega (arith, one x, each xs)

  lost_unneeded : (xs : List (Entry K)) → AllByRecursion (λ d. is_past horizon d ≡ false) (lost xs)
  lost_unneeded [] = tt
  lost_unneeded (x ∷ xs) = subst (λ l. AllByRecursion (λ d. is_past horizon d ≡ false) l) (sym (filter_map_cons (λ (e : Entry K). lost_from horizon e.row e.died) x xs))
      (recursion_append (λ d. is_past horizon d ≡ false) (option_to_list (lost_from horizon x.row x.died)) (lost xs) (part_unneeded horizon x.row x.died) (lost_unneeded xs))

weigh_unneeded : (f : ℕ × ℕ → ℕ) (horizon : ℕ) (gone : List (ℕ × ℕ)) → AllByRecursion (λ d. is_past horizon d ≡ false) gone → weigh (λ d. cond (is_past horizon d) (f d) 0) gone ≡ 0
weigh_unneeded f horizon [] a = refl
weigh_unneeded f horizon (d ∷ gone) a =
    let e : cond (is_past horizon d) (f d) 0 ≡ 0 = ap (λ b. cond b (f d) 0) a.0 in
    omega (arith, e, weigh_unneeded f horizon gone a.1)

-- the death of a needed entry is past
needed_past : (f : ℕ × ℕ → ℕ) (horizon row : ℕ) (o : Option ℕ) → lives_at horizon o ≡ true → weigh (λ d. cond (is_past horizon d) (f d) 0) (option_to_list (death_from row o)) ≡ weigh f (option_to_list (death_from row o))
needed_past f horizon row None h = refl
needed_past f horizon row (Some n) h = let e : cond (nat_lt horizon n) (f (row, n)) 0 ≡ f (row, n) = ap (λ b. cond b (f (row, n)) 0) h in omega (arith, e)

module _ {K A : Type 0} (rules : Rules K A) (rule : Rule) where
  -- the pages from the first on, before another, are swept, and this many rows went
  pub record HasSwept (old : State K A) (first page number : ℕ) (now : State K A) : Type 0 where
    pub horizon : ℕ
    pub is : IsHorizon (length old.commits) old.cursors horizon
    pub gone : List (ℕ × ℕ)
    pub parted : (f : ℕ × ℕ → ℕ) → weigh f (deaths old.search.tree) ≡ weigh f gone + weigh f (deaths now.search.tree)
    pub unneeded : AllByRecursion (λ d. is_past horizon d ≡ false) gone
    pub counted : number ≡ length gone
    -- no page holds more than 64 rows
    pub few : number + 64 * first ≤ 64 * page
    pub clean : (q : ℕ) → first ≤ q → q < page → All (λ e. is_needed horizon e ≡ true) (page_at now.search.tree q).rows
    pub sound : IsSoundWorld rules.is_cover now
    pub rests : Rests rules rule old now
    pub commits : now.commits ≡ old.commits
    pub pages : length now.search.tree.pages ≡ length old.search.tree.pages
    pub finders : now.finders ≡ old.finders
    pub last_finder : now.last_finder ≡ old.last_finder

  pub swept_none : (old : State K A) (first : ℕ) → IsSoundWorld rules.is_cover old → HasSwept old first first 0 old
  swept_none old first sound = let h = a_horizon (length old.commits) old.cursors in record {
    horizon = h.0;
    is = h.1;
    gone = [];
    parted = λ f. omega arith;
    unneeded = tt;
    counted = refl;
    few = omega arith;
    clean = λ q f l. absurd (omega (arith, f, l));
    sound = sound;
    rests = rests_refl rules rule old;
    commits = refl;
    pages = refl;
    finders = refl;
    last_finder = refl;
  }

  module _ (old : State K A) (first page number : ℕ) (now : State K A) (h : HasSwept old first page number now) where
    -- all is swept
    pub swept_all : first ≡ 0 → length old.search.tree.pages ≤ page → SweepsAll old number now
    swept_all start end = record {
      horizon = h.horizon;
      is = h.is;
      counted = omega (arith, h.parted (λ d. 1), h.counted, weigh-ones h.gone, weigh-ones (deaths now.search.tree), weigh-ones (deaths old.search.tree));
      left = arranged same_pair same_pair_exact (filter (is_past h.horizon) (deaths old.search.tree)) (deaths now.search.tree) each;
    }
      where
        needed : EachEntry (λ e. is_needed h.horizon e ≡ true) now.search.tree
        needed q l = h.clean q (omega (arith, start)) (omega (arith, l, end, h.pages))

        each : (f : ℕ × ℕ → ℕ) → weigh f (filter (is_past h.horizon) (deaths old.search.tree)) ≡ weigh f (deaths now.search.tree)
        each f =
            let p : ℕ × ℕ → ℕ = λ d. cond (is_past h.horizon d) (f d) 0 in
            let a : weigh f (filter (is_past h.horizon) (deaths old.search.tree)) ≡ weigh p (deaths old.search.tree) = weigh_filter f (is_past h.horizon) (deaths old.search.tree) in
            let b : weigh p (deaths old.search.tree) ≡ weigh p h.gone + weigh p (deaths now.search.tree) = h.parted p in
            let c : weigh p h.gone ≡ 0 = weigh_unneeded f h.horizon h.gone h.unneeded in
            let d : weigh p (deaths now.search.tree) ≡ weigh (death_weight p) (rows_of_tree now.search.tree) = weigh_filter_map p death (rows_of_tree now.search.tree) in
            let e : weigh f (deaths now.search.tree) ≡ weigh (death_weight f) (rows_of_tree now.search.tree) = weigh_filter_map f death (rows_of_tree now.search.tree) in
            let g : weigh (death_weight p) (rows_of_tree now.search.tree) ≡ weigh (death_weight f) (rows_of_tree now.search.tree) =
            weigh-where (λ (e : Entry K). is_needed h.horizon e ≡ true) (death_weight p) (death_weight f) (λ e n. needed_past f h.horizon e.row e.died n) (rows_of_tree now.search.tree)
            (entries_under now.search.tree h.sound.tree.sound.rank h.sound.tree.sound.ranked (λ e. is_needed h.horizon e ≡ true) needed 0 now.search.tree.counter h.sound.tree.sound.root_exists) in
            omega (arith, a, b, c, d, e, g)

    -- some is swept
    pub swept_some : SweepsSome old now
    swept_some = record {
      horizon = h.horizon;
      is = h.is;
      gone = h.gone;
      parted = arranged same_pair same_pair_exact (deaths old.search.tree) (h.gone ++ deaths now.search.tree) (λ f. let a = weigh-append f h.gone (deaths now.search.tree) in omega (arith, h.parted f, a));
      unneeded = h.unneeded;
    }

    -- an inner page holds no row
    pub swept_inner : is_leaf now.search.tree page ≡ false → page < length old.search.tree.pages → HasSwept old first (page + 1) number now
    swept_inner inner l = record {
      horizon = h.horizon;
      is = h.is;
      gone = h.gone;
      parted = h.parted;
      unneeded = h.unneeded;
      counted = h.counted;
      few = omega (arith, h.few);
      clean = λ q f k. elim (is_or_not q page) [
        | inl e ↦ subst (λ n. All (λ e. is_needed h.horizon e ≡ true) (page_at now.search.tree n).rows) (sym e) (subst (λ rows. All (λ (e : Entry K). is_needed h.horizon e ≡ true) rows) (sym nothing) (All-nil (λ (e : Entry K). is_needed h.horizon e ≡ true)))
        | inr d ↦ h.clean q f (search (arith, k, d))
      ];
      sound = h.sound;
      rests = h.rests;
      commits = h.commits;
      pages = h.pages;
      finders = h.finders;
      last_finder = h.last_finder;
    }
      where
        within : page < length now.search.tree.pages
        within = omega (arith, l, h.pages)

        level : 0 < (page_at now.search.tree page).level
        level = search (arith, inner, within)

        nothing : (page_at now.search.tree page).rows ≡ []
        nothing = (h.sound.tree.sound.shape page within).inner level

    -- a leaf is swept
    pub swept_leaf : (new : State K A) (count : ℕ) → page < length old.search.tree.pages → Rests rules rule now new → SweepsLeaf now page count new → IsSoundWorld rules.is_cover new → HasSwept old first (page + 1) (number + count) new
    swept_leaf new count l rests s sound = record {
      horizon = h.horizon;
      is = h.is;
      gone = h.gone ++ lost h.horizon rows;
      parted = λ f.
          let a = weigh-append f h.gone (lost h.horizon rows) in
          let b = rows_changed rules.is_cover now.search.tree now.search.fan h.sound.tree.sound page within (filter (is_needed h.horizon) rows) (death_weight f) in
          let c : weigh f (deaths now.search.tree) ≡ weigh (death_weight f) (rows_of_tree now.search.tree) = weigh_filter_map f death (rows_of_tree now.search.tree) in
          let d : weigh f (deaths swept) ≡ weigh (death_weight f) (rows_of_tree swept) = weigh_filter_map f death (rows_of_tree swept) in
          let e : weigh f (deaths new.search.tree) ≡ weigh f (deaths swept) = ap (λ t. weigh f (deaths t)) tree_is in
          omega (arith, h.parted f, a, b, c, d, e, lost_weight h.horizon f rows);
      unneeded = recursion_append (λ d. is_past h.horizon d ≡ false) h.gone (lost h.horizon rows) h.unneeded (lost_unneeded h.horizon rows);
      counted = omega (arith, h.counted, count_is, length-append h.gone (lost h.horizon rows));
      few = omega (arith, h.few, small);
      clean = λ q f k. elim (is_or_not q page) [
        | inl e ↦ subst (λ n. All (λ e. is_needed h.horizon e ≡ true) (page_at new.search.tree n).rows) (sym e)
            (subst (λ t. All (λ e. is_needed h.horizon e ≡ true) (page_at t page).rows) (sym tree_is)
            (subst (λ rows. All (λ (e : Entry K). is_needed h.horizon e ≡ true) rows) (sym (rows_at now.search.tree tree_sound.rank tree_sound.ranked page within (filter (is_needed h.horizon) rows)))
            (all_filter (is_needed h.horizon) rows)))
        | inr d ↦ subst (λ t. All (λ e. is_needed h.horizon e ≡ true) (page_at t q).rows) (sym tree_is)
            (subst (λ rows. All (λ (e : Entry K). is_needed h.horizon e ≡ true) rows) (sym (rows_off now.search.tree tree_sound.rank tree_sound.ranked page within (filter (is_needed h.horizon) rows) q d))
            (h.clean q f (search (arith, k, d))))
      ];
      sound = sound;
      rests = rests_trans rules rule old now new h.rests rests;
      commits = ap (λ s. s.commits) s.after ∙ h.commits;
      pages = pages ∙ h.pages;
      finders = ap (λ s. s.finders) s.after ∙ h.finders;
      last_finder = ap (λ s. s.last_finder) s.after ∙ h.last_finder;
    }
      where
        rows : List (Entry K)
        rows = (page_at now.search.tree page).rows

        within : page < length now.search.tree.pages
        within = omega (arith, l, h.pages)

        tree_sound : IsSound rules.is_cover now.search.fan now.search.tree
        tree_sound = h.sound.tree.sound

        swept : Tree K
        swept = after_sweep now.search.tree page h.horizon

        horizon_is : s.horizon ≡ h.horizon
        horizon_is = horizon_unique (length now.commits) now.cursors s.horizon h.horizon s.is
            (subst (λ c. IsHorizon (length c) now.cursors h.horizon) (sym h.commits) (subst (λ c. IsHorizon (length old.commits) c h.horizon) (sym h.rests.cursors) h.is))

        tree_is : new.search.tree ≡ swept
        tree_is = ap (λ s. s.search.tree) s.after ∙ ap (after_sweep now.search.tree page) horizon_is

        pages : length new.search.tree.pages ≡ length now.search.tree.pages
        pages = ap (λ t. length t.pages) tree_is ∙ rows_pages now.search.tree page (filter (is_needed h.horizon) rows)

        counted : count + length (filter (is_needed h.horizon) rows) ≡ length rows
        counted = subst (λ n. count + length (filter (is_needed n) rows) ≡ length rows) horizon_is s.counted

        count_is : count ≡ length (lost h.horizon rows)
        count_is = omega (arith, counted, lost_count h.horizon rows)

        small : count ≤ 64
        small = omega (arith, counted, (tree_sound.shape page within).fits, h.sound.tree.fan_limit)

    -- a page is swept, if it is a leaf
    pub swept_page : (new : State K A) (count : ℕ) → page < length old.search.tree.pages → Rests rules rule now new → IsSoundWorld rules.is_cover new →
        (is_leaf now.search.tree page ≡ true → SweepsLeaf now page count new) → (is_leaf now.search.tree page ≡ false → (count ≡ 0) × (new ≡ now)) → HasSwept old first (page + 1) (number + count) new
    swept_page new count l rests sound leaf other = elim (cases_Bool (is_leaf now.search.tree page)) [
      | inl is ↦ swept_leaf new count l rests (leaf is) sound
      | inr inner ↦
          let same : number ≡ number + count = omega (arith, (other inner).0) in
          subst (λ n. HasSwept old first (page + 1) n new) same (rw (other inner).1 (swept_inner inner l))
    ]

-- a sweep of a leaf
module _ {K A : Type 0} (rules : Rules K A) (rule : Rule) (old : State K A) (page : ℕ) (leaf : is_leaf old.search.tree page ≡ true) where
  leaf_within : page < length old.search.tree.pages
  leaf_within = search (arith, leaf)

  -- it is refused for lack of memory alone
  pub sweep_refused : (new : State K A) (why : Refusal) → IsRefused rules rule old (event.Sweep page) why new → (why ≡ refusal.OutOfMemory) × (new ≡ old)
  sweep_refused new why r = (
    elim r.cause [
      | inl failed ↦ absurd (let e : None ≡ Some why = sym passed ∙ failed in cc)
      | inr later ↦ later.1.memory
    ],
    r.unchanged,
  )
    where
      passed : first_failing (sweep_tests old.search page) ≡ None
      passed = rw leaf refl

  -- the cursors rest
  pub leaf_rests : {E : Type 0} (new : State K A) (count : ℕ) → ServesAll {E = E} rules rule old (event.Sweep page) (reply.Swept count) new → SweepsLeaf old page count new → Rests rules rule old new
  leaf_rests {E} new count serves s =
      step_rests {E = E} rules rule old (event.Sweep page) (reply.Swept count) new serves (λ c. refl) (ap (λ s. s.limit) s.after) (ap (λ s. s.search.limit) s.after)
      (omega (arith, ap (λ s. length s.search.tree.pages) s.after, rows_pages old.search.tree page (filter (is_needed s.horizon) (page_at old.search.tree page).rows))) (ap (λ s. s.last) s.after) (ap (λ s. s.cursors) s.after)

  pub has_swept_leaf : {E : Type 0} (new : State K A) (count : ℕ) → IsSoundWorld rules.is_cover old → ServesAll {E = E} rules rule old (event.Sweep page) (reply.Swept count) new → SweepsLeaf old page count new → IsSoundWorld rules.is_cover new →
      HasSwept rules rule old page (page + 1) (0 + count) new
  has_swept_leaf new count sound serves s later = swept_leaf rules rule old page page 0 old (swept_none rules rule old page sound) new count leaf_within (leaf_rests new count serves s) s later
