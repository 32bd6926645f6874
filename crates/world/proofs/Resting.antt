-- What steps leave to cursors of which nothing is asked, and what they do to the dead rows that the tree holds.
use Rattle.std.proofs.Common.{◌≡◌, ◌↔◌, ◌<◌, ◌≤◌, ℕ, Bool, true, ◌&&◌, List, [], ◌∷◌, ◌++◌, length, Option, Some, None, refl, sym, ap, ◌∙◌, arith, subst}
use Rattle.std.specs.Prelude.{nat_eq, option_to_list, IsPermutation}
use Rattle.std.specs.List.{filter_map}
use Rattle.std.proofs.lemmas.Bool.{and_from, and_parts, eq-eqb, eqb-true}
use Rattle.std.proofs.lemmas.List.{append-nil, length-append}
use Rattle.key_class.specs.Rules.{Rules}
use Rattle.mailbox.specs.Outlets.{Rule}
use Rattle.change_list.proofs.Lists.{filter_map_cons}
use Rattle.change_list.specs.declared.item.Item.{Item}
use Rattle.change_list.specs.Cursors.{Fits}
use Rattle.row_version.specs.Entries.{Entry}
use Rattle.page_table.proofs.Arranged.{arranged}
use Rattle.page_table.proofs.RowsOnce.{place_all}
use Rattle.page_table.proofs.Weights.{weigh-append}
use Rattle.page_table.specs.Keeping.{KeepsRows}
use Rattle.page_table.specs.Soundness.{IsSound}
use Rattle.page_table.specs.Trees.{Tree, rows_of_tree}
use Rattle.page_table.specs.Weights.{weigh}
use Rattle.cursor.specs.OpenCursors.{OpenCursor, shown}
use Rattle.page_table.specs.LeafChanges.{after_place}
use Rattle.world.specs.declared.event.Event.{Event}
use Rattle.world.specs.declared.reply.Reply.{Reply}
use Rattle.world.specs.Promises.{ServesAll}
use Rattle.world.specs.Resting.{death, deaths, Rests}
use Rattle.world.specs.States.{State, cursor_at}
use Rattle.world.specs.Traces.{taken_by}

abbrev pub same_pair : ℕ × ℕ → ℕ × ℕ → Bool
same_pair x y = nat_eq x.0 y.0 && nat_eq x.1 y.1

pub same_pair_exact : (x y : ℕ × ℕ) → (same_pair x y ≡ true) ↔ (x ≡ y)
same_pair_exact x y = (there, λ e. subst (λ z. same_pair x z ≡ true) e (and_from _ _ (eq-eqb x.0 x.0 refl) (eq-eqb x.1 x.1 refl)))
  where
    there : same_pair x y ≡ true → x ≡ y
    there h =
        let parts = and_parts (nat_eq x.0 y.0) (nat_eq x.1 y.1) h in
        let first : x.0 ≡ y.0 = eqb-true x.0 y.0 parts.0 in
        let second : x.1 ≡ y.1 = eqb-true x.1 y.1 parts.1 in
        λ i. (first i, second i)

pub weigh_filter_map : {X Y : Type 0} (f : Y → ℕ) (g : X → Option Y) (xs : List X) → weigh f (filter_map g xs) ≡ weigh (λ x. weigh f (option_to_list (g x))) xs
weigh_filter_map f g [] = refl
weigh_filter_map f g (x ∷ xs) =
    ap (weigh f) (filter_map_cons g x xs)
    ∙ (let a = weigh-append f (option_to_list (g x)) (filter_map g xs) in omega (arith, a, weigh_filter_map f g xs))

-- what a death weighs, as a weight of entries
abbrev pub death_weight : {K : Type 0} → (ℕ × ℕ → ℕ) → Entry K → ℕ
death_weight f e = weigh f (option_to_list (death e))

module _ {K : Type 0} where
  -- trees whose dead weigh the same hold the same dead
  pub deaths_from_weights : (t t' : Tree K) → ((f : ℕ × ℕ → ℕ) → weigh (death_weight f) (rows_of_tree t) ≡ weigh (death_weight f) (rows_of_tree t')) → IsPermutation (deaths t) (deaths t')
  deaths_from_weights t t' same =
      arranged same_pair same_pair_exact (deaths t) (deaths t') (λ f. weigh_filter_map f death (rows_of_tree t) ∙ same f ∙ sym (weigh_filter_map f death (rows_of_tree t')))

  -- a step that keeps the rows keeps the dead
  pub deaths_kept : (t t' : Tree K) → KeepsRows t t' → IsPermutation (deaths t) (deaths t')
  deaths_kept t t' kept = deaths_from_weights t t' (λ f. sym (kept.whole (death_weight f)))

  -- so does a leaf that takes a live entry
  pub deaths_placed : (is_cover : K → K → Bool) (t : Tree K) (fan : ℕ) → IsSound is_cover fan t → (p : ℕ) → p < length t.pages → (key : K) (row tag : ℕ)
      → IsPermutation (deaths t) (deaths (after_place t p (record { key = key; row = row; tag = tag; died = None })))
  deaths_placed is_cover t fan sound p l key row tag =
      deaths_from_weights t (after_place t p (record { key = key; row = row; tag = tag; died = None })) (λ f.
      let e = place_all is_cover t fan sound (death_weight f) p l (record { key = key; row = row; tag = tag; died = None }) in omega (arith, e))

nothing_more : {X : Type 0} (xs ys : List X) → xs ≡ xs ++ ys → ys ≡ []
nothing_more xs [] e = refl
nothing_more xs (y ∷ ys) e = absurd (omega (arith, ap length e, length-append xs (y ∷ ys)))

module _ {K A : Type 0} (rules : Rules K A) (rule : Rule) where
  pub rests_refl : (s : State K A) → Rests rules rule s s
  rests_refl s = record { limit = refl; page_limit = refl; pages = omega arith; last = refl; cursors = refl; fits = λ c k h items f. f }

  pub rests_trans : (a b c : State K A) → Rests rules rule a b → Rests rules rule b c → Rests rules rule a c
  rests_trans a b c r s = record {
    limit = s.limit ∙ r.limit;
    page_limit = s.page_limit ∙ r.page_limit;
    pages = omega (arith, r.pages, s.pages);
    last = s.last ∙ r.last;
    cursors = s.cursors ∙ r.cursors;
    fits = λ n k h items f. s.fits n k (ap (λ l. cursor_in n l) r.cursors ∙ h) items (r.fits n k h items f);
  }
    where
      cursor_in : ℕ → List (OpenCursor K A) → Option (OpenCursor K A)
      cursor_in n l = cursor_at (record a { cursors = l }) n

module _ {K A E : Type 0} (rules : Rules K A) (rule : Rule) where
  -- a step of which no cursor is asked anything
  pub step_rests : (old : State K A) (e : Event K A) (r : Reply K E) (new : State K A) → ServesAll rules rule old e r new → ((c : ℕ) → taken_by c (e, r) ≡ None)
      → new.limit ≡ old.limit → new.search.limit ≡ old.search.limit → length old.search.tree.pages ≤ length new.search.tree.pages → new.last ≡ old.last → new.cursors ≡ old.cursors → Rests rules rule old new
  step_rests old e r new serves none limit page_limit pages last cursors = record { limit = limit; page_limit = page_limit; pages = pages; last = last; cursors = cursors; fits = fits }
    where
      fits : (c : ℕ) (k : OpenCursor K A) → cursor_at old c ≡ Some k → (items : List (Item K)) → Fits rules.is_match old.commits (shown rules rule old.search.tree k) items → Fits rules.is_match new.commits (shown rules rule new.search.tree k) items
      fits c k h items f =
          let there : cursor_at new c ≡ Some k = ap (λ l. cursor_at (record old { cursors = l }) c) cursors ∙ h in
          let s = serves c k k h there in
          let box : k.unread ≡ k.unread ++ s.sent = sym (ap (λ o. option_to_list o ++ k.unread) (none c)) ∙ s.mailbox in
          subst (λ l. Fits rules.is_match new.commits (shown rules rule new.search.tree k) l) (ap (λ l. items ++ l) (nothing_more k.unread s.sent box) ∙ append-nil items) (s.fits items f)
