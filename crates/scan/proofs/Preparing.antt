-- A visit that was worked out beside the table is one of the table, where the page is as it was.
use Rattle.std.proofs.Common.{◌≡◌, ◌-◌, ◌<◌, ℕ, Bool, List, [], ◌∷◌, ◌++◌, length, map, filter, reverse, take, refl, sym, ap, ◌∙◌, arith}
use Rattle.std.proofs.lemmas.List.{map-append, reverse-append, length-map}
use Rattle.change_list.specs.declared.item.Row.{Row}
use Rattle.node.specs.declared.branch.Branch.{Branch}
use Rattle.node.specs.Pages.{Page, followed}
use Rattle.page_table.specs.Stacks.{StackItem}
use Rattle.page_table.specs.Trees.{Tree, page_at}
use Rattle.scan.specs.Prepared.{wanted_children}
use Rattle.scan.specs.Scanning.{IsNext, Visits, PushesSome, child_items, seen}
use Rattle.scan.proofs.Growing.{pushes_some}
use Rattle.scan.proofs.Visiting.{goes_on_made, visits_made}

pub map_reverse : {A B : Type 0} (f : A → B) (xs : List A) → map f (reverse xs) ≡ reverse (map f xs)
map_reverse f [] = refl
map_reverse f (x ∷ xs) =
    ap (map f) (reverse-append (x ∷ []) xs) ∙ map-append f (reverse xs) (x ∷ []) ∙ ap (λ l. l ++ f x ∷ []) (map_reverse f xs) ∙ sym (reverse-append (f x ∷ []) (map f xs))

pub map_twice : {A B C : Type 0} (g : B → C) (f : A → B) (xs : List A) → map g (map f xs) ≡ map (λ x. g (f x)) xs
map_twice g f [] = refl
map_twice g f (x ∷ xs) = ap (λ l. g (f x) ∷ l) (map_twice g f xs)

pub items_of_children : {K : Type 0} (wanted : K → Bool) (memo : ℕ) (branches : List (Branch K)) → map (λ p. record { page = p; memo = memo }) (wanted_children wanted branches) ≡ child_items wanted memo branches
items_of_children {K} wanted memo branches =
    let f : ℕ → StackItem = λ p. record { page = p; memo = memo } in
    let g : Branch K → ℕ = λ b. b.child in
    let chosen : List (Branch K) = filter (λ b. wanted b.key) branches in
    map_reverse f (map g chosen) ∙ ap reverse (map_twice f g chosen)

pub prepared_made : {K : Type 0} (wanted consistent : K → Bool) (s counter : ℕ) (old reserved after_pop after_push new : List StackItem) (item : StackItem) (memo : ℕ) (right children : List ℕ) (page : Page K) (rows : List (Row K))
    → IsNext old item → reserved ≡ old → after_pop ≡ take (length reserved - 1) reserved → memo ≡ item.memo → after_push ≡ after_pop ++ map (λ r. record { page = r; memo = memo }) right → right ≡ followed page memo
    → new ≡ after_push ++ map (λ p. record { page = p; memo = counter }) children → children ≡ wanted_children consistent page.branches → rows ≡ seen wanted s page.rows
    → (p : ℕ) → p ≡ item.page → (t : Tree K) → t.counter ≡ counter → page_at t item.page ≡ page → Visits consistent wanted s t old p rows new
prepared_made {K} wanted consistent s counter old reserved after_pop after_push new item memo right children page rows next e_reserved e_pop e_memo e_push e_right e_new e_children e_rows p e_p t e_counter e_page =
    let fresh : List StackItem = map (λ p. record { page = p; memo = counter }) children in
    let e_fresh : fresh ≡ child_items consistent t.counter page.branches =
    ap (map (λ p. record { page = p; memo = counter })) e_children ∙ items_of_children consistent counter page.branches ∙ ap (λ n. child_items consistent n page.branches) (sym e_counter) in
    visits_made wanted consistent s t old new item p rows
    (goes_on_made consistent t old reserved after_pop after_push new item memo right page next e_reserved e_pop e_memo (sym e_page) e_push e_right (e_new ∙ ap (λ l. after_push ++ l) e_fresh))
    e_p (e_rows ∙ ap (λ (p : Page K). seen wanted s p.rows) (sym e_page))

-- a visit with a child to push pushes a page
pub prepared_pushes : {K : Type 0} (consistent : K → Bool) (stack : List StackItem) (item : StackItem) (page : Page K) (children : List ℕ) → IsNext stack item
    → children ≡ wanted_children consistent page.branches → 0 < length children → (t : Tree K) → page_at t item.page ≡ page → PushesSome consistent t stack
prepared_pushes {K} consistent stack item page children next e_children some t e_page =
    let item_of : ℕ → StackItem = λ p. record { page = p; memo = t.counter } in
    let same : map item_of children ≡ child_items consistent t.counter (page_at t item.page).branches =
    ap (map item_of) (e_children ∙ ap (λ (p : Page K). wanted_children consistent p.branches) (sym e_page)) ∙ items_of_children consistent t.counter (page_at t item.page).branches in
    pushes_some consistent t stack item next (λ none. omega (arith, ap length (same ∙ none), length-map children item_of, some))
