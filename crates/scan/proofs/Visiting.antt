-- One visit of a scan: that it is one, and what it keeps in a sound tree.
use Rattle.std.proofs.Common.{◌≡◌, ◌+◌, ◌-◌, ◌<◌, ◌≤◌, ℕ, Bool, true, List, [], ◌∷◌, ◌++◌, length, map, take, sym, ap, ◌∙◌, arith, subst, append_assoc, length-append}
use Rattle.std.proofs.lemmas.Bool.{and_right}
use Rattle.std.proofs.lemmas.List.Elements.{All-append, All-head}
use Rattle.std.proofs.Math.Seq.{take-append_seam}
use Rattle.change_list.specs.declared.item.Row.{Row}
use Rattle.row_version.specs.Entries.{visible_at}
use Rattle.node.specs.Pages.{Page, followed}
use Rattle.page_table.proofs.Lists.{All-front, All-back}
use Rattle.page_table.proofs.Scans.{scan_visit}
use Rattle.page_table.proofs.Stacks.{left_append, left_one, pushed_stack, visit_work}
use Rattle.page_table.proofs.Weights.{weigh-append}
use Rattle.page_table.specs.Soundness.{IsSound}
use Rattle.page_table.specs.Stacks.{StackItem, IsStack, pages_left, pushed, rows_left}
use Rattle.page_table.specs.TraversalLaws.{Prunes}
use Rattle.page_table.specs.Trees.{Tree, page_at}
use Rattle.page_table.specs.Weights.{Same, weigh}
use Rattle.smallvec.specs.SmallVec.{SmallVec, HasRoomFor}
use Rattle.scan.proofs.Seen.{seen_weight, unseen_weight, weigh_seen}
use Rattle.scan.specs.Scanning.{GoesOn, IsNext, Visits, child_items, seen, to_find}

-- what is left without the last item
popped_is : (old rest : List StackItem) (item : StackItem) → old ≡ rest ++ item ∷ [] → take (length old - 1) old ≡ rest
popped_is old rest item is =
    let l : length old - 1 ≡ length rest = omega (arith, ap length is, length-append rest (item ∷ [])) in
    ap (λ n. take n old) l ∙ ap (take (length rest)) is ∙ take-append_seam rest (item ∷ [])

-- room for one more once the last item is popped
pub room_popped : (before after : SmallVec StackItem) (more : ℕ) (item : StackItem) → HasRoomFor before more → IsNext before.items item → after.items ≡ take (length before.items - 1) before.items
    → after.capacity ≡ before.capacity → HasRoomFor after (more + 1)
room_popped before after more item room next is capacity =
    let l : length before.items ≡ length next.rest + 1 = ap length next.is ∙ length-append next.rest (item ∷ []) in
    let k : length after.items ≡ length next.rest = ap length (is ∙ popped_is before.items next.rest item next.is) in
    omega (arith, room, l, k, capacity)

-- the item to be visited next names a page
pub next_exists : {K : Type 0} (t : Tree K) (old : List StackItem) (item : StackItem) → IsStack t old → IsNext old item → (item.page < length t.pages) × (item.memo ≤ t.counter)
next_exists t old item stack next = All-head (λ (i : StackItem). (i.page < length t.pages) × (i.memo ≤ t.counter)) item [] (All-back (λ (i : StackItem). (i.page < length t.pages) × (i.memo ≤ t.counter)) next.rest (item ∷ []) (subst (λ o. IsStack t o) next.is stack))

pub goes_on_made : {K : Type 0} (wanted : K → Bool) (t : Tree K) (old reserved after_pop after_push new : List StackItem) (item : StackItem) (memo : ℕ) (right : List ℕ) (page : Page K)
    → IsNext old item → reserved ≡ old → after_pop ≡ take (length reserved - 1) reserved → memo ≡ item.memo → page ≡ page_at t item.page → after_push ≡ after_pop ++ map (λ r. record { page = r; memo = memo }) right → right ≡ followed page memo
    → new ≡ after_push ++ child_items wanted t.counter page.branches → GoesOn wanted t old item new
goes_on_made {K} wanted t old reserved after_pop after_push new item memo right page next e_reserved e_pop e_memo e_page e_push e_right e_new = record {
  rest = next.rest;
  before = next.is;
  after =
      e_new ∙ ap (λ x. x ++ child_items wanted t.counter page.branches) (e_push ∙ ap (λ x. x ++ map (to_right memo) right) (e_pop ∙ ap (λ xs. take (length xs - 1) xs) e_reserved ∙ popped_is old next.rest item next.is))
      ∙ append_assoc next.rest (map (to_right memo) right) (child_items wanted t.counter page.branches)
      ∙ ap (λ x. next.rest ++ (map (to_right memo) x ++ child_items wanted t.counter page.branches)) e_right
      ∙ ap (λ m. next.rest ++ (map (to_right m) (followed page m) ++ child_items wanted t.counter page.branches)) e_memo
      ∙ ap (λ (x : Page K). next.rest ++ (map (to_right item.memo) (followed x item.memo) ++ child_items wanted t.counter x.branches)) e_page;
}
  where
    to_right : ℕ → ℕ → StackItem
    to_right m r = record { page = r; memo = m }

pub visits_made : {K : Type 0} (wanted consistent : K → Bool) (s : ℕ) (t : Tree K) (old new : List StackItem) (item : StackItem) (page : ℕ) (noted : List (Row K))
    → GoesOn consistent t old item new → page ≡ item.page → noted ≡ seen wanted s (page_at t item.page).rows → Visits consistent wanted s t old page noted new
visits_made wanted consistent s t old new item page noted on e_page e_noted =
    subst (λ n. Visits consistent wanted s t old n noted new) (sym e_page) (record { rest = on.rest; memo = item.memo; before = on.before; after = on.after; noted_is = e_noted })

module _ {K : Type 0} (is_cover : K → K → Bool) (t : Tree K) (fan : ℕ) (sound : IsSound is_cover fan t) (wanted consistent : K → Bool) (s : ℕ) (old new : List StackItem) (page : ℕ) (noted : List (Row K))
    (stack : IsStack t old) (visit : Visits consistent wanted s t old page noted new) where
  abbrev InStack : StackItem → Type 0
  InStack i = (i.page < length t.pages) × (i.memo ≤ t.counter)

  abbrev item : StackItem
  item = record { page = page; memo = visit.memo }

  abbrev next : List StackItem
  next = pushed t (λ b. consistent b.key) page visit.memo

  parts : IsStack t (visit.rest ++ item ∷ [])
  parts = subst (λ o. IsStack t o) visit.before stack

  here : InStack item
  here = All-head InStack item [] (All-back InStack visit.rest (item ∷ []) parts)

  -- what is left is a stack
  pub visit_stack : IsStack t new
  visit_stack = subst (λ n. IsStack t n) (sym visit.after)
      (All-append InStack visit.rest next (All-front InStack visit.rest (item ∷ []) parts) (pushed_stack t sound.rank sound.ranked (λ b. consistent b.key) page visit.memo here.0 here.1))

  -- fewer pages are left
  pub visit_pages : length (pages_left t new) + 1 ≤ length (pages_left t old)
  visit_pages =
      let a : length (pages_left t new) ≡ length (pages_left t (visit.rest ++ next)) = ap (λ x. length (pages_left t x)) visit.after in
      let b : length (pages_left t old) ≡ length (pages_left t (visit.rest ++ item ∷ [])) = ap (λ x. length (pages_left t x)) visit.before in
      omega (arith, a, b, visit_work t sound.rank sound.ranked (λ b. consistent b.key) visit.rest item here.0)

  -- no wanted row is lost, and none comes twice
  pub visit_find : ((a b c : K) → is_cover a b ≡ true → is_cover b c ≡ true → is_cover a c ≡ true) → Prunes is_cover wanted consistent → Same (noted ++ to_find wanted s t new) (to_find wanted s t old)
  visit_find through prunes w =
      let f = seen_weight w wanted s in
      let own = (page_at t page).rows in
      let a = weigh-append w noted (to_find wanted s t new) in
      let b : weigh w noted ≡ weigh w (seen wanted s own) = ap (weigh w) visit.noted_is in
      let c = weigh_seen w wanted s own in
      let d = weigh_seen w wanted s (rows_left t new) in
      let e : weigh f (rows_left t new) ≡ weigh f (rows_left t (visit.rest ++ next)) = ap (λ x. weigh f (rows_left t x)) visit.after in
      let g = left_append t f visit.rest next in
      let h = scan_visit is_cover through wanted consistent prunes t fan sound f (λ x n. unseen_weight w wanted s x (and_right (visible_at s x) (wanted x.key) n)) page visit.memo here.0 in
      let i = left_append t f visit.rest (item ∷ []) in
      let j = left_one t f item in
      let k = weigh_seen w wanted s (rows_left t old) in
      let l : weigh f (rows_left t old) ≡ weigh f (rows_left t (visit.rest ++ item ∷ [])) = ap (λ x. weigh f (rows_left t x)) visit.before in
      omega (arith, a, b, c, d, e, g, h, i, j, k, l)
