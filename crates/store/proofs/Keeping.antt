-- What a call that asks nothing of the cursors leaves to a store.
use Rattle.std.proofs.Common.{◌≡◌, ◌↔◌, ◌-◌, ◌≤◌, ℕ, Bool, true, false, ◌||◌, ◌&&◌, List, [], ◌∷◌, ◌++◌, length, map, Option, Some, None, Result, Ok, Err, ◌⊎◌, inl, inr, refl, sym, ap, ◌∙◌, arith, subst}
use Rattle.std.specs.Prelude.{nat_eq, nat_lt, sum_by, OnOk, OnErr, IfOk, IfErr, IsPermutation, if◌then◌else◌}
use Rattle.std.proofs.lemmas.Bool.{and_from, and_parts, eq-eqb, eqb-true}
use Rattle.std.proofs.lemmas.List.{length-map}
use Rattle.std.proofs.lemmas.List.Sorted.{sum_by-IsPermutation}
use Rattle.std.proofs.lemmas.List.Sums.{sum_by-cons}
use Rattle.key_class.specs.Rules.{Rules}
use Rattle.mailbox.specs.Outlets.{Rule}
use Rattle.key_class.specs.declared.refusal.Refusal.{Refusal}
use Rattle.key_class.specs.declared.refusal.Refusal.TheVariants as refusal
use Rattle.change_list.proofs.Collections.{permuted_from_weights}
use Rattle.change_list.specs.declared.config.Config.{Config}
use Rattle.change_list.specs.declared.write.Write.{Write}
use Rattle.page_table.specs.Trees.{new_tree, pages_under, pages_within}
use Rattle.cursor.specs.OpenCursors.{OpenCursor, shown}
use Rattle.world.specs.Resting.{deaths, Rests}
use Rattle.world.specs.States as world
use Rattle.store.specs.States.{DeadRow, Stays, SameOrStays, KeepsCursors, Commits, Keeps, open_or_closed, new_store}
use Rattle.store.specs.Worlds.{dead_row, store_state, IsQuiet}
use Rattle.store.proofs.Worlds.{shown_if, found_shown}

-- what holds where a call was made, and where it was refused
pub on_ok : {X : Type 0} {P Q : Type 0} (r : Result X Refusal) → (P → Q) → OnOk r P → OnOk r Q
on_ok (Ok x) f p = f p
on_ok (Err why) f p = tt

pub on_err : {X : Type 0} {P Q : Type 0} (r : Result X Refusal) → (P → Q) → OnErr r P → OnErr r Q
on_err (Ok x) f p = tt
on_err (Err why) f p = f p

pub on_errs : {X : Type 0} {P Q R : Type 0} (r : Result X Refusal) → (P → Q → R) → OnErr r P → OnErr r Q → OnErr r R
on_errs (Ok x) f p q = tt
on_errs (Err why) f p q = f p q

pub if_ok : {X : Type 0} {P Q : X → Type 0} (r : Result X Refusal) → ((x : X) → P x → Q x) → IfOk r P → IfOk r Q
if_ok (Ok x) f p = f x p
if_ok (Err why) f p = tt

pub if_err : {X : Type 0} {P Q : Refusal → Type 0} (r : Result X Refusal) → ((why : Refusal) → P why → Q why) → IfErr r P → IfErr r Q
if_err (Ok x) f p = tt
if_err (Err why) f p = f why p

-- refused by tests alone
pub by_tests : {P Q : Type 0} → P ⊎ (Q × ⊥) → P
by_tests (inl p) = p
by_tests (inr q) = absurd (q.1)

-- what a map makes of a collection
module _ {X Y : Type 0} (g : X → Y) where
  sum_map : (f : Y → ℕ) (xs : List X) → sum_by f (map g xs) ≡ sum_by (λ x. f (g x)) xs
  sum_map f [] = refl
  sum_map f (x ∷ xs) = omega (arith, sum_by-cons f (g x) (map g xs), sum_by-cons (λ y. f (g y)) x xs, sum_map f xs)

abbrev same_dead : DeadRow → DeadRow → Bool
same_dead x y = nat_eq x.row y.row && nat_eq x.died y.died

pub dead_rows_permuted : (xs ys : List (ℕ × ℕ)) → IsPermutation xs ys → IsPermutation (map dead_row xs) (map dead_row ys)
dead_rows_permuted xs ys p =
    permuted_from_weights same_dead exact (map dead_row xs) (map dead_row ys)
    (λ f. sum_map dead_row f xs ∙ sym (sum_by-IsPermutation (λ x. f (dead_row x)) xs ys p) ∙ sym (sum_map dead_row f ys))
  where
    exact : (x y : DeadRow) → (same_dead x y ≡ true) ↔ (x ≡ y)
    exact x y = (there, λ e. subst (λ z. same_dead x z ≡ true) e (and_from _ _ (eq-eqb x.row x.row refl) (eq-eqb x.died x.died refl)))
      where
        there : same_dead x y ≡ true → x ≡ y
        there h =
            let parts = and_parts (nat_eq x.row y.row) (nat_eq x.died y.died) h in
            let first : x.row ≡ y.row = eqb-true x.row y.row parts.0 in
            let second : x.died ≡ y.died = eqb-true x.died y.died parts.1 in
            λ i. record { row = first i; died = second i }

module _ {K A : Type 0} (rules : Rules K A) (rule : Rule) (old new : world.State K A) (rests : Rests rules rule old new) where
  stays : (c : ℕ) (k : OpenCursor K A) → world.cursor_at old c ≡ Some k → Stays rules.is_match old.commits new.commits (shown rules rule old.search.tree k) (shown rules rule new.search.tree k)
  stays c k h = record { query = refl; follows = refl; opened = refl; scanning = refl; asked = refl; fits = rests.fits c k h }

  by_test : (c : ℕ) (b : Bool) (o : Option (OpenCursor K A)) → world.cursor_at old c ≡ o
      → SameOrStays rules.is_match old.commits new.commits
      (if b then Err refusal.NoSuchCursor else open_or_closed (shown_if rules rule old.search.tree o))
      (if b then Err refusal.NoSuchCursor else open_or_closed (shown_if rules rule new.search.tree o))
  by_test c true o h = refl
  by_test c false None h = refl
  by_test c false (Some k) h = stays c k h

  pub keeps_cursors : KeepsCursors rules.is_match (store_state rules rule old) (store_state rules rule new)
  keeps_cursors c =
      let last : old.last ≡ new.last = sym rests.last in
      let here : world.cursor_at old c ≡ world.cursor_at new c = ap (λ ks. world.cursor_at (record old { cursors = ks }) c) (sym rests.cursors) in
      let test : (nat_eq c 0 || nat_lt old.last c) ≡ (nat_eq c 0 || nat_lt new.last c) = ap (λ n. nat_eq c 0 || nat_lt n c) last in
      rw (found_shown rules rule old.search.tree c old.cursors, found_shown rules rule new.search.tree c new.cursors, ← test, ← here) (by_test c (nat_eq c 0 || nat_lt old.last c) (world.cursor_at old c) refl)

  pub as_many : length (map (shown rules rule new.search.tree) new.cursors) ≡ length (map (shown rules rule old.search.tree) old.cursors)
  as_many = length-map new.cursors (shown rules rule new.search.tree) ∙ ap length rests.cursors ∙ sym (length-map old.cursors (shown rules rule old.search.tree))

  fewer_left : new.search.limit - length new.search.tree.pages ≤ old.search.limit - length old.search.tree.pages
  fewer_left = omega (arith, rests.pages, rests.page_limit)

  pub commits_write : (write : Write K) → new.commits ≡ old.commits ++ write ∷ [] → Commits rules.is_match (store_state rules rule old) write (store_state rules rule new)
  commits_write write e = record { limit = rests.limit; page_limit = rests.page_limit; commits = e; last = rests.last; cursors = keeps_cursors; as_many = as_many; pages = fewer_left }

  pub keeps : new.commits ≡ old.commits → IsPermutation (deaths old.search.tree) (deaths new.search.tree) → Keeps rules.is_match (store_state rules rule old) (store_state rules rule new)
  keeps e dead = record {
    limit = rests.limit;
    page_limit = rests.page_limit;
    commits = e;
    last = rests.last;
    dead = dead_rows_permuted (deaths old.search.tree) (deaths new.search.tree) dead;
    cursors = keeps_cursors;
    as_many = as_many;
    pages = fewer_left;
  }

  pub still_quiet : IsQuiet old → new.finders ≡ old.finders → IsQuiet new
  still_quiet quiet e = record { no_finder = e ∙ quiet.no_finder; emptied = rw rests.cursors quiet.emptied }

-- a new world's dead are none, and it has one page
pub new_is : {K A : Type 0} (rules : Rules K A) (rule : Rule) (config : Config) → store_state rules rule (world.new_state config) ≡ new_store {K = K} {A = A} config
unfolding new_tree pages_under pages_within
new_is rules rule config = refl
