-- When a visit notes a row or pushes a page.
use Rattle.std.proofs.Common.{◌≡◌, ◌≢◌, ◌+◌, ◌<◌, ℕ, Bool, true, false, map, List, [], ◌∷◌, ◌++◌, length, take, drop, get_or, refl, sym, ap, ◌∙◌, arith, length-append}
use Rattle.std.specs.Prelude.{filter, reverse, Result, Ok, Err, OnErr}
use Rattle.std.proofs.lemmas.List.{map-append, reverse-append, take_more}
use Rattle.std.proofs.lemmas.List.Elements.{filter-append}
use Rattle.change_list.specs.declared.item.Row.{Row}
use Rattle.node.specs.declared.branch.Branch.{Branch}
use Rattle.page_table.specs.Stacks.{StackItem}
use Rattle.page_table.specs.Trees.{Tree, page_at}
use Rattle.row_version.specs.Entries.{Entry}
use Rattle.scan.specs.Scanning.{IsNext, PushesSome, child_items, is_seen, seen}
use Rattle.search.specs.Live.{row_of}

-- what holds anyhow holds of an error
pub on_err : {A E P : Type 0} (r : Result A E) → P → OnErr r P
on_err (Ok x) p = tt
on_err (Err e) p = p

-- a list with something in it isn't empty
ends_in : {X : Type 0} (xs ys : List X) (y : X) (zs : List X) → zs ≡ xs ++ y ∷ ys → zs ≢ []
ends_in xs ys y zs is none = omega (arith, ap length is, ap length none, length-append xs (y ∷ ys))

module _ {K : Type 0} where
  -- a row that is seen among the rest
  pub sees_some : (wanted : K → Bool) (s : ℕ) (noted : List (Row K)) (entries : List (Entry K)) (i : ℕ) (e : Entry K) (more : List (Entry K)) → drop i entries ≡ e ∷ more → is_seen wanted s e ≡ true
      → noted ++ seen wanted s (drop i entries) ≡ seen wanted s entries → seen wanted s entries ≢ []
  sees_some wanted s noted entries i e more here is same =
      let first : seen wanted s (e ∷ more) ≡ row_of e ∷ seen wanted s more = rw is refl in
      ends_in noted (seen wanted s more) (row_of e) (seen wanted s entries) (sym same ∙ ap (λ l. noted ++ seen wanted s l) here ∙ ap (λ l. noted ++ l) first)

  module _ (wanted : K → Bool) (memo : ℕ) where
    child_append : (xs ys : List (Branch K)) → child_items wanted memo (xs ++ ys) ≡ child_items wanted memo ys ++ child_items wanted memo xs
    child_append xs ys =
        ap (λ l. reverse (map item l)) (filter-append (λ b. wanted b.key) xs ys)
        ∙ ap reverse (map-append item (filter (λ b. wanted b.key) xs) (filter (λ b. wanted b.key) ys))
        ∙ reverse-append (map item (filter (λ b. wanted b.key) xs)) (map item (filter (λ b. wanted b.key) ys))
      where
        item : Branch K → StackItem
        item b = record { page = b.child; memo = memo }

    -- the items of one child more
    more_items : (bs : List (Branch K)) (i : ℕ) (b : Branch K) → i < length bs → get_or bs i b ≡ b → child_items wanted memo (take (i + 1) bs) ≡ child_items wanted memo (b ∷ []) ++ child_items wanted memo (take i bs)
    more_items bs i b l is = ap (child_items wanted memo) (take_more bs i b l ∙ ap (λ x. take i bs ++ x ∷ []) is) ∙ child_append (take i bs) (b ∷ [])

    -- a last branch that isn't wanted adds nothing
    pub unwanted_last : (bs : List (Branch K)) (i : ℕ) (b : Branch K) → i < length bs → get_or bs i b ≡ b → wanted b.key ≡ false → child_items wanted memo (take (i + 1) bs) ≡ child_items wanted memo (take i bs)
    unwanted_last bs i b l is other =
        let none : child_items wanted memo (b ∷ []) ≡ [] = rw other refl in
        more_items bs i b l is ∙ ap (λ x. x ++ child_items wanted memo (take i bs)) none

    -- a last branch that is wanted is pushed
    pub wanted_last : (bs : List (Branch K)) (i : ℕ) (b : Branch K) → i < length bs → get_or bs i b ≡ b → wanted b.key ≡ true → child_items wanted memo (take (i + 1) bs) ≢ []
    wanted_last bs i b l is asked =
        let one : child_items wanted memo (b ∷ []) ≡ (record { page = b.child; memo = memo }) ∷ [] = rw asked refl in
        ends_in [] (child_items wanted memo (take i bs)) (record { page = b.child; memo = memo }) (child_items wanted memo (take (i + 1) bs)) (more_items bs i b l is ∙ ap (λ x. x ++ child_items wanted memo (take i bs)) one)

  -- where a child is pushed
  pub pushes_some : (wanted : K → Bool) (t : Tree K) (stack : List StackItem) (item : StackItem) → IsNext stack item → child_items wanted t.counter (page_at t item.page).branches ≢ [] → PushesSome wanted t stack
  pushes_some wanted t stack item next some = record {
    item = item;
    next = next;
    some = λ none. some (second_empty _ (child_items wanted t.counter (page_at t item.page).branches) none);
  }
    where
      second_empty : (xs ys : List StackItem) → xs ++ ys ≡ [] → ys ≡ []
      second_empty [] ys h = h
      second_empty (x ∷ xs) ys h = absurd (cc)
