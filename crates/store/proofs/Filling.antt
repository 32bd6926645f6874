-- A store that is filled with the rows of another.
use Rattle.std.proofs.Common.{◌≡◌, Result, Ok, Err, inl, inr, ◌+◌, ◌<◌, ℕ, Bool, false, not, List, [], ◌∷◌, ◌++◌, length, filter, map, take, get_or, refl, sym, ap, subst, ◌∙◌, arith}
use Rattle.std.specs.Prelude.{IfErr, IsPermutation}
use Rattle.std.specs.Result.{IsErrAnd}
use Rattle.std.proofs.lemmas.List.{length-map, length-take-le, map-append, take_more}
use Rattle.std.proofs.lemmas.List.Sorted.{length_permutation}
use Rattle.std.proofs.Math.Seq.{take-length}
use Rattle.key_class.specs.declared.refusal.Refusal.{Refusal}
use Rattle.key_class.specs.declared.refusal.Refusal.TheVariants as refusal
use Rattle.change_list.specs.declared.config.Config.{Config}
use Rattle.change_list.specs.declared.item.Row.{Row}
use Rattle.change_list.specs.declared.write.Write.{Write}
use Rattle.change_list.specs.declared.write.Write.TheVariants.{Insert}
use Rattle.change_list.specs.Changes.{is_ended, rows}
use Rattle.change_list.proofs.Lists.{by_pushes}
use Rattle.change_list.proofs.Made.{made_none}
use Rattle.change_list.proofs.Pushing.{rows_insert}
use Rattle.store.specs.Renewing.{HasMadeOnly, RefusesRenewal, insert_of, numbered}
use Rattle.store.specs.States.{Commits, HasFewPages, HasNoCommitLeft, RefusesRow, StoreState, new_store}

none_of_none : {X : Type 0} (xs : List X) → length xs ≡ 0 → xs ≡ []
none_of_none [] e = refl
none_of_none (x ∷ xs) e = absurd (omega (arith, e))

module _ {K : Type 0} where
  none_end : (rs : List (Row K)) (n : ℕ) → is_ended (map insert_of rs) n ≡ false
  none_end [] n = refl
  none_end (r ∷ rs) n = none_end rs n

  numbered_push : (n : ℕ) (rs : List (Row K)) (r : Row K) → numbered n (rs ++ r ∷ []) ≡ numbered n rs ++ (record r { row = n + length rs }) ∷ []
  numbered_push n [] r = let e : n ≡ n + length {A = Row K} [] = omega arith in ap (λ k. (record r { row = k }) ∷ []) e
  numbered_push n (x ∷ rs) r =
      let e : n + 1 + length rs ≡ n + length (x ∷ rs) = omega arith in
      ap (λ l. (record x { row = n }) ∷ l) (numbered_push (n + 1) rs r ∙ ap (λ k. numbered (n + 1) rs ++ (record r { row = k }) ∷ []) e)

  -- the rows of some inserts are numbered in their order
  pub inserts_live : (rs : List (Row K)) → rows (map insert_of rs) ≡ numbered 1 rs
  inserts_live rs = by_pushes (λ l. rows (map insert_of l) ≡ numbered 1 l) begin more rs
    where
      begin : rows {K = K} [] ≡ []
      begin = ap (filter (λ (r : Row K). not (is_ended {K = K} [] r.row))) made_none

      more : (l : List (Row K)) (r : Row K) → rows (map insert_of l) ≡ numbered 1 l → rows (map insert_of (l ++ r ∷ [])) ≡ numbered 1 (l ++ r ∷ [])
      more l r h =
          let made = map insert_of l in
          let e : length made + 1 ≡ 1 + length l = omega (arith, length-map l insert_of) in
          ap rows (map-append insert_of l (r ∷ []))
          ∙ rows_insert made r.key r.tag (none_end l (length made + 1))
          ∙ ap (λ k. rows made ++ (record { row = k; key = r.key; tag = r.tag }) ∷ []) e
          ∙ ap (λ f. f ++ (record { row = 1 + length l; key = r.key; tag = r.tag }) ∷ []) h
          ∙ sym (numbered_push 1 l r)

-- an error tells its reason
pub same_reason : {X Y : Type 0} (x y : Y) → ◌≡◌ {A = Result X Y} (Err x) (Err y) → x ≡ y
same_reason x y e = cc

-- what was made is no error
pub no_error : {X Y : Type 0} (x : X) (y : Y) → ◌≡◌ {A = Result X Y} (Ok x) (Err y) → ⊥
no_error x y e = cc

-- no row is refused for the configuration
pub not_bad : {K A : Type 0} (later : StoreState K A) (why : Refusal) → RefusesRow later why → why ≡ refusal.BadConfig → ⊥
not_bad later why refuses bad = elim refuses [
  | inl memory ↦ absurd (cc)
  | inr further ↦ elim further [
    | inl commits ↦ absurd (cc)
    | inr lacking ↦ let pages : why ≡ refusal.PagesFull = lacking.0 in absurd (cc)
  ]
]

module _ {K A : Type 0} (config : Config) where
  -- a store with the first rows, and the numbers that they had
  pub record IsRenewing (done : List (Row K)) (store : StoreState K A) (numbers : List ℕ) : Type 0 where
    pub made : HasMadeOnly config (map insert_of done) store
    pub few_pages : HasFewPages store
    pub numbers_are : numbers ≡ map (λ r. r.row) done

  pub renewing_begun : (store : StoreState K A) (numbers : List ℕ) → store ≡ new_store config → numbers ≡ [] → IsRenewing [] store numbers
  renewing_begun store numbers e none = record {
    made = record {
      commits_are = ap (λ (s : StoreState K A). s.commits) e;
      limit = ap (λ (s : StoreState K A). s.limit) e;
      page_limit = ap (λ (s : StoreState K A). s.page_limit) e;
      no_cursor = ap (λ (s : StoreState K A). s.cursors) e;
      none_given = ap (λ (s : StoreState K A). s.last) e;
      none_dead = ap (λ (s : StoreState K A). s.dead) e;
      no_finder = ap (λ (s : StoreState K A). s.finders) e;
    };
    few_pages = subst HasFewPages (sym e) (omega arith);
    numbers_are = none;
  }

  module _ (matching : A → K → Bool) (all : List (Row K)) (i : ℕ) (within : i < length all) (row : Row K) (at : row ≡ get_or all i row) (old new : StoreState K A) (numbers : List ℕ) (before : IsRenewing (take i all) old numbers) where
    pub renewing_more : (more : List ℕ) → Commits matching old (Insert row.key row.tag) new → IsPermutation old.dead new.dead → new.finders ≡ old.finders → HasFewPages new → more ≡ numbers ++ row.row ∷ []
        → IsRenewing (take (i + 1) all) new more
    renewing_more more commits dead finders few told =
        let done = take i all in
        let b = before.made in
        let taken : take (i + 1) all ≡ done ++ row ∷ [] = take_more all i row within ∙ ap (λ r. done ++ r ∷ []) (sym at) in
        subst (λ l. IsRenewing l new more) (sym taken) (record {
          made = record {
            commits_are = commits.commits ∙ ap (λ l. l ++ insert_of row ∷ []) b.commits_are ∙ sym (map-append insert_of done (row ∷ []));
            limit = commits.limit ∙ b.limit;
            page_limit = commits.page_limit ∙ b.page_limit;
            no_cursor = none_of_none new.cursors (commits.as_many ∙ ap length b.no_cursor);
            none_given = commits.last ∙ b.none_given;
            none_dead = none_of_none new.dead (length_permutation old.dead new.dead dead ∙ ap length b.none_dead);
            no_finder = finders ∙ b.no_finder;
          };
          few_pages = few;
          numbers_are = told ∙ ap (λ l. l ++ row.row ∷ []) before.numbers_are ∙ sym (map-append (λ (r : Row K). r.row) done (row ∷ []));
        })

    -- a row isn't inserted for a reason that stands against the whole
    pub renewing_refused : (living : List (Write K)) → rows living ≡ all → (later : StoreState K A) → later.commits ≡ old.commits → later.page_limit ≡ old.page_limit → HasFewPages later
        → (why : Refusal) → RefusesRow later why → (why ≡ refusal.CommitsFull → HasNoCommitLeft old) → RefusesRenewal config living why
    renewing_refused living is later kept pages few why refuses full =
        let count : length old.commits ≡ i = ap length before.made.commits_are ∙ length-map (take i all) insert_of ∙ length-take-le i all (omega (arith, within)) in
        elim refuses [
          | inl memory ↦ inr (inr (inr memory))
          | inr further ↦ elim further [
            | inl commits ↦
                let none : HasNoCommitLeft old = full commits in
                inr (inl (commits, omega (arith, none, count, before.made.limit, within, ap length is)))
            | inr lacking ↦
                inr (inr (inl (lacking.0, omega (arith, lacking.1, few, pages, before.made.page_limit, ap length kept, count, within, ap length is))))
          ]
        ]

  -- when all rows are there, they live under their new numbers
  pub renewing_live : (all : List (Row K)) (store : StoreState K A) (numbers : List ℕ) (i : ℕ) → IsRenewing (take i all) store numbers → i ≡ length all → rows store.commits ≡ numbered 1 all
  renewing_live all store numbers i done e =
      let whole : take i all ≡ all = ap (λ n. take n all) e ∙ take-length all in
      ap rows (done.made.commits_are ∙ ap (map insert_of) whole) ∙ inserts_live all

-- no renewal is refused for another reason
pub renewing_for_memory : {K X : Type 0} (config : Config) (commits : List (Write K)) (r : Result X Refusal) → IsErrAnd r (λ why. why ≡ refusal.OutOfMemory) → IfErr r (RefusesRenewal config commits)
renewing_for_memory config commits (Ok x) h = tt
renewing_for_memory config commits (Err why) h = inr (inr (inr h))
