-- The dead rows of a store are those of its pages.
use Rattle.std.proofs.Common.{◌≡◌, ◌+◌, ◌*◌, ◌<◌, ◌≤◌, ℕ, zero, suc, Bool, List, [], ◌∷◌, ◌++◌, length, map, refl, sym, ap, ◌∙◌, arith, subst}
use Rattle.std.specs.Prelude.{get_or, IsPermutation}
use Rattle.std.specs.List.{filter_map, flat_map}
use Rattle.std.proofs.lemmas.List.{map-append}
use Rattle.std.proofs.lemmas.List.Concat.{flat_map-cons}
use Rattle.key_class.specs.Rules.{Rules}
use Rattle.mailbox.specs.Outlets.{Rule}
use Rattle.node.specs.Pages.{Page}
use Rattle.page_table.proofs.Arranged.{arranged}
use Rattle.page_table.proofs.Counting.{one-different, one-equal}
use Rattle.page_table.proofs.Under.{rows_under-weigh, under_weigh}
use Rattle.page_table.proofs.Weights.{weigh-add, weigh-flat_map}
use Rattle.page_table.specs.Soundness.{IsSound}
use Rattle.page_table.specs.Trees.{Tree, no_page, page_at, pages_under, rows_of_tree}
use Rattle.page_table.specs.Weights.{one_if_equal, weigh}
use Rattle.world.proofs.Resting.{death_weight, same_pair, same_pair_exact, weigh_filter_map}
use Rattle.world.specs.Resting.{death, deaths}
use Rattle.world.specs.States as world
use Rattle.store.specs.States.{DeadRow, dead_on_pages}
use Rattle.store.specs.Worlds.{dead_of_page, dead_row, store_state}
use Rattle.store.proofs.Keeping.{dead_rows_permuted}

weigh_scaled : (p v : ℕ) (xs : List ℕ) → weigh (λ x. one_if_equal x p * v) xs ≡ weigh (λ x. one_if_equal x p) xs * v
weigh_scaled p v [] = omega arith
weigh_scaled p v (x ∷ xs) = omega (arith, weigh_scaled p v xs)

weigh_nothing : (xs : List ℕ) → weigh (λ x. 0) xs ≡ 0
weigh_nothing [] = refl
weigh_nothing (x ∷ xs) = omega (arith, weigh_nothing xs)

module _ {K : Type 0} (f : Page K → ℕ) where
  -- what the page with number x weighs, where the first page of the list has number k
  abbrev weigh_named : ℕ → ℕ → List (Page K) → ℕ
  weigh_named x k [] = 0
  weigh_named x k (p ∷ ps) = one_if_equal x k * f p + weigh_named x (k + 1) ps

  named_later : (x k : ℕ) (ps : List (Page K)) → x < k → weigh_named x k ps ≡ 0
  named_later x k [] l = refl
  named_later x k (p ∷ ps) l =
      let here : one_if_equal x k * f p ≡ 0 * f p = ap (λ n. n * f p) (one-different x k (λ e. absurd (omega (arith, l, e)))) in
      omega (arith, here, named_later x (k + 1) ps (omega (arith, l)))

  named_here : (i k : ℕ) (ps : List (Page K)) → i < length ps → weigh_named (k + i) k ps ≡ f (get_or ps i no_page)
  named_here i k [] l = absurd (omega (arith, l))
  named_here zero k (p ∷ ps) l =
      let here : one_if_equal (k + 0) k * f p ≡ 1 * f p = ap (λ n. n * f p) (one-equal (k + 0) k (omega arith)) in
      omega (arith, here, named_later (k + 0) (k + 1) ps (omega arith))
  named_here (suc i) k (p ∷ ps) l =
      let here : one_if_equal (k + suc i) k * f p ≡ 0 * f p = ap (λ n. n * f p) (one-different (k + suc i) k (λ e. absurd (omega (arith, e)))) in
      let number : k + 1 + i ≡ k + suc i = omega arith in
      let later : weigh_named (k + suc i) (k + 1) ps ≡ f (get_or ps i no_page) = subst (λ x. weigh_named x (k + 1) ps ≡ f (get_or ps i no_page)) number (named_here i (k + 1) ps (omega (arith, l))) in
      omega (arith, here, later)

  -- numbers that have each page once weigh what the pages do
  each_once : (xs : List ℕ) (k : ℕ) (ps : List (Page K)) → ((q : ℕ) → k ≤ q → q < k + length ps → weigh (λ x. one_if_equal x q) xs ≡ 1) → weigh (λ x. weigh_named x k ps) xs ≡ weigh f ps
  each_once xs k [] once = weigh_nothing xs
  each_once xs k (p ∷ ps) once =
      let parts = weigh-add (λ x. one_if_equal x k * f p) (λ x. weigh_named x (k + 1) ps) xs in
      let here : weigh (λ x. one_if_equal x k) xs * f p ≡ 1 * f p = ap (λ n. n * f p) (once k (omega arith) (omega arith)) in
      let later = each_once xs (k + 1) ps (λ q l m. once q (omega (arith, l)) (omega (arith, m))) in
      omega (arith, parts, weigh_scaled k (f p) xs, here, later)

module _ {K : Type 0} (is_cover : K → K → Bool) (t : Tree K) (fan : ℕ) (sound : IsSound is_cover fan t) where
  pages_weigh : (f : Page K → ℕ) → weigh (λ x. f (page_at t x)) (pages_under t 0 t.counter) ≡ weigh f t.pages
  pages_weigh f =
      under_weigh t sound.rank sound.ranked (λ x. f (page_at t x)) (λ x. weigh_named f x 0 t.pages) named 0 t.counter sound.root_exists
      ∙ each_once f (pages_under t 0 t.counter) 0 t.pages (λ q a l. (sound.reached q (omega (arith, l))).once)
    where
      named : (x : ℕ) → x < length t.pages → f (page_at t x) ≡ weigh_named f x 0 t.pages
      named x l = let number : 0 + x ≡ x = omega arith in subst (λ y. f (page_at t x) ≡ weigh_named f y 0 t.pages) number (sym (named_here f x 0 t.pages l))

  deaths_of_pages : IsPermutation (deaths t) (flat_map (λ p. filter_map death p.rows) t.pages)
  deaths_of_pages = arranged same_pair same_pair_exact (deaths t) (flat_map (λ p. filter_map death p.rows) t.pages) (λ f.
      weigh_filter_map f death (rows_of_tree t) ∙ rows_under-weigh t (death_weight f) 0 t.counter ∙ pages_weigh (λ p. weigh (death_weight f) p.rows)
      ∙ sym (weigh-flat_map f (λ p. filter_map death p.rows) t.pages ∙ each f t.pages))
    where
      each : (f : ℕ × ℕ → ℕ) (ps : List (Page K)) → weigh (λ p. weigh f (filter_map death p.rows)) ps ≡ weigh (λ p. weigh (death_weight f) p.rows) ps
      each f [] = refl
      each f (p ∷ ps) = omega (arith, weigh_filter_map f death p.rows, each f ps)

  joined : (ps : List (Page K)) → map dead_row (flat_map (λ p. filter_map death p.rows) ps) ≡ flat_map (λ (ds : List DeadRow). ds) (map dead_of_page ps)
  joined [] = refl
  joined (p ∷ ps) =
      ap (map dead_row) (flat_map-cons (λ (p : Page K). filter_map death p.rows) p ps)
      ∙ map-append dead_row (filter_map death p.rows) (flat_map (λ p. filter_map death p.rows) ps)
      ∙ ap (λ ds. dead_of_page p ++ ds) (joined ps)
      ∙ sym (flat_map-cons (λ (ds : List DeadRow). ds) (dead_of_page p) (map dead_of_page ps))

  dead_of_pages : IsPermutation (map dead_row (deaths t)) (flat_map (λ (ds : List DeadRow). ds) (map dead_of_page t.pages))
  dead_of_pages = subst (λ ds. IsPermutation (map dead_row (deaths t)) ds) (joined t.pages) (dead_rows_permuted (deaths t) (flat_map (λ p. filter_map death p.rows) t.pages) deaths_of_pages)

-- both lists of a store have the same dead rows
pub has_dead_on_pages : {K A : Type 0} (rules : Rules K A) (rule : Rule) (s : world.State K A) → world.IsSoundWorld rules.is_cover s → IsPermutation (store_state rules rule s).dead (dead_on_pages (store_state rules rule s))
has_dead_on_pages rules rule s sound = dead_of_pages rules.is_cover s.search.tree s.search.fan sound.tree.sound
