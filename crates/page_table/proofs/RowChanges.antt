-- A change of one leaf's rows: what is under every (page, memo), and that the tree stays sound.
use Rattle.std.proofs.Common.{ℕ, suc, ◌+◌, ◌*◌, ◌<◌, ◌≤◌, ◌≡◌, List, [], ◌∷◌, ◌++◌, length, option_to_list, All, refl, ap, ap₂, arith, sym, ◌∙◌, subst, cond, Bool, inl, inr}
use Rattle.std.proofs.lemmas.List.{get_or-set_same, get_or-set_other}
use Rattle.node.specs.Changes.{with_rows}
use Rattle.node.specs.Pages.{Page}
use Rattle.node.specs.declared.branch.Branch.{Branch}
use Rattle.page_table.proofs.Counting.{one-different, one-equal}
use Rattle.page_table.proofs.PageLists.{is_or_not, replaced-length, replaced_pages}
use Rattle.page_table.proofs.SameLinks.{replaced_under}
use Rattle.page_table.proofs.Under.{All-both, rows_under-weigh, under_weigh}
use Rattle.page_table.proofs.Weights.{weigh-add, weigh-append, weigh-set}
use Rattle.page_table.specs.Soundness.{BoundsBelow, IsBelow, IsBounded, IsReached, IsRoot, IsShaped, IsSound, IsWithin}
use Rattle.page_table.specs.Trees.{Falls, IsRanked, LinksFall, Tree, after_rows, linking, naming, no_page, owing, page_at, pages_under, rows_under}
use Rattle.page_table.specs.Weights.{one_if_equal, weigh}
use Rattle.row_version.specs.Entries.{Entry}

weigh-scaled : (p v : ℕ) (xs : List ℕ) → weigh (λ x. one_if_equal x p * v) xs ≡ weigh (λ x. one_if_equal x p) xs * v
weigh-scaled p v [] = omega arith
weigh-scaled p v (x ∷ xs) = omega (arith, weigh-scaled p v xs)

module _ {K : Type 0} (t : Tree K) (rank : ℕ → ℕ) (r : IsRanked t rank) (p : ℕ) (l : p < length t.pages) (rows : List (Entry K)) where
  abbrev t' : Tree K
  t' = after_rows t p rows

  -- THE PAGES MET are the same list
  pub rows-pages : (q m : ℕ) → pages_under t' q m ≡ pages_under t q m
  unfolding after_rows
  rows-pages q m = replaced_under t p (with_rows (page_at t p) rows) l (record { children = refl; right = refl; owed = refl; nsn = refl }) q m

  pub rows_at : (page_at t' p).rows ≡ rows
  unfolding after_rows
  rows_at = ap (λ page. page.rows) (get_or-set_same t.pages p (with_rows (page_at t p) rows) no_page l)

  pub rows_off : (q : ℕ) → ((q ≡ p) → ⊥) → (page_at t' q).rows ≡ (page_at t q).rows
  unfolding after_rows
  rows_off q d = ap (λ page. page.rows) (get_or-set_other t.pages p q (with_rows (page_at t p) rows) no_page d)

  pub new_weight : (f : Entry K → ℕ) (q m : ℕ) → weigh f (rows_under t' q m) ≡ weigh (λ x. weigh f (page_at t' x).rows) (pages_under t q m)
  new_weight f q m = rows_under-weigh t' f q m ∙ ap (weigh (λ x. weigh f (page_at t' x).rows)) (rows-pages q m)

  -- SWEEP, A MARK OF DEATH, AND PLACE for those who do not see the entry: a weight that the leaf keeps is kept everywhere
  pub rows_kept : (f : Entry K → ℕ) → weigh f rows ≡ weigh f (page_at t p).rows → (q m : ℕ) → q < length t.pages → weigh f (rows_under t' q m) ≡ weigh f (rows_under t q m)
  rows_kept f e q m k =
      new_weight f q m
      ∙ under_weigh t rank r (λ x. weigh f (page_at t' x).rows) (λ x. weigh f (page_at t x).rows)
      (λ x a. elim (is_or_not x p) [
        | inl d ↦ ap (λ y. weigh f (page_at t' y).rows) d ∙ ap (weigh f) rows_at ∙ e ∙ ap (λ y. weigh f (page_at t y).rows) (sym d)
        | inr d ↦ ap (weigh f) (rows_off x d)
      ]) q m k
      ∙ sym (rows_under-weigh t f q m)

  -- PLACE: as often as the leaf is met, the entry is there once more
  pub rows_placed : (f : Entry K → ℕ) (e : Entry K) → rows ≡ (page_at t p).rows ++ e ∷ [] → (q m : ℕ) → q < length t.pages →
      weigh f (rows_under t' q m) ≡ weigh f (rows_under t q m) + weigh (λ x. one_if_equal x p) (pages_under t q m) * f e
  rows_placed f e er q m k =
      new_weight f q m
      ∙ under_weigh t rank r (λ x. weigh f (page_at t' x).rows) (λ x. weigh f (page_at t x).rows + one_if_equal x p * f e) each q m k
      ∙ weigh-add (λ x. weigh f (page_at t x).rows) (λ x. one_if_equal x p * f e) (pages_under t q m)
      ∙ ap₂ (λ a b. a + b) (sym (rows_under-weigh t f q m)) (weigh-scaled p (f e) (pages_under t q m))
    where
      scaled : (x n : ℕ) → one_if_equal x p ≡ n → one_if_equal x p * f e ≡ n * f e
      scaled x n w = ap (λ y. y * f e) w

      each : (x : ℕ) → x < length t.pages → weigh f (page_at t' x).rows ≡ weigh f (page_at t x).rows + one_if_equal x p * f e
      each x a = elim (is_or_not x p) [
        | inl d ↦ omega (arith, scaled x 1 (one-equal x p d), ap (λ y. weigh f (page_at t' y).rows) d, ap (weigh f) rows_at, ap (weigh f) er, weigh-append f (page_at t p).rows (e ∷ []), ap (λ y. weigh f (page_at t y).rows) d)
        | inr d ↦ omega (arith, scaled x 0 (one-different x p d), ap (weigh f) (rows_off x d))
      ]

module _ {K : Type 0} (is_cover : K → K → Bool) (t : Tree K) (fan : ℕ) (sound : IsSound is_cover fan t) (p : ℕ) (l : p < length t.pages) (rows : List (Entry K))
    (leaf : (page_at t p).level ≡ 0) (fits : length rows ≤ fan) (within : All (λ e. IsWithin is_cover (page_at t p).cover e.key) rows) where
  abbrev u : Tree K
  u = after_rows t p rows

  abbrev page' : Page K
  page' = with_rows (page_at t p) rows

  pub rows_length : length u.pages ≡ length t.pages
  unfolding after_rows
  rows_length = replaced-length t p page'

  each_page : (P : ℕ → Page K → Type 0) → P p page' → ((q : ℕ) → q < length t.pages → ((q ≡ p) → ⊥) → P q (page_at t q)) → (q : ℕ) → q < length t.pages → P q (page_at u q)
  unfolding after_rows
  each_page P here other q k = replaced_pages t p page' P l here other q k

  same_total : (f : Page K → ℕ) → f page' ≡ f (page_at t p) → weigh f u.pages ≡ weigh f t.pages
  unfolding after_rows
  same_total f e = omega (arith, weigh-set f t.pages p page' no_page l, e)

  level_kept : (q : ℕ) → q < length t.pages → (page_at u q).level ≡ (page_at t q).level
  level_kept q k = each_page (λ x page. page.level ≡ (page_at t x).level) refl (λ x k d. refl) q k

  cover_kept : (q : ℕ) → q < length t.pages → (page_at u q).cover ≡ (page_at t q).cover
  cover_kept q k = each_page (λ x page. page.cover ≡ (page_at t x).cover) refl (λ x k d. refl) q k

  owed_kept : (q : ℕ) → q < length t.pages → (page_at u q).owed ≡ (page_at t q).owed
  owed_kept q k = each_page (λ x page. page.owed ≡ (page_at t x).owed) refl (λ x k d. refl) q k

  right_kept : (q : ℕ) → q < length t.pages → (page_at u q).right ≡ (page_at t q).right
  right_kept q k = each_page (λ x page. page.right ≡ (page_at t x).right) refl (λ x k d. refl) q k

  links_kept : (q : ℕ) → q < length t.pages → LinksFall (length t.pages) sound.rank q (page_at u q)
  links_kept q k = each_page (λ x page. LinksFall (length t.pages) sound.rank x page) (record { down = (sound.ranked.links p l).down; along = (sound.ranked.links p l).along }) (λ x k d. sound.ranked.links x k) q k

  along_kept : (q : ℕ) → q < length t.pages → (m : ℕ) → All (λ x. (page_at t x).level ≡ m) (option_to_list (page_at t q).right) → All (λ x. (page_at u x).level ≡ m) (option_to_list (page_at t q).right)
  along_kept q k m h = All-both (λ x. Falls (length t.pages) sound.rank q x) (λ x. (page_at t x).level ≡ m) (λ x. (page_at u x).level ≡ m) (λ x f e. level_kept x f.0 ∙ e) _ ((sound.ranked.links q k).along) h

  down_kept : (q : ℕ) → q < length t.pages → (m : ℕ) → All (λ (b : Branch K). suc (page_at t b.child).level ≡ m) (page_at t q).branches → All (λ (b : Branch K). suc (page_at u b.child).level ≡ m) (page_at t q).branches
  down_kept q k m h = All-both (λ (b : Branch K). Falls (length t.pages) sound.rank q b.child) (λ (b : Branch K). suc (page_at t b.child).level ≡ m) (λ (b : Branch K). suc (page_at u b.child).level ≡ m) (λ b f e. ap suc (level_kept b.child f.0) ∙ e) _ ((sound.ranked.links q k).down) h

  branch_kept : (b : Branch K) → b.child < length t.pages → BoundsBelow is_cover t b → BoundsBelow is_cover u b
  branch_kept b k w = record {
    child = subst (λ o. IsBelow is_cover b.key o) (sym (cover_kept b.child k)) w.child;
    sibling = λ o. subst (λ x. All (λ y. IsBelow is_cover b.key (page_at u y).cover) (option_to_list x)) (sym (right_kept b.child k))
        (All-both (λ y. IsBelow is_cover b.key (page_at t y).cover) (λ y. Falls (length t.pages) sound.rank b.child y) (λ y. IsBelow is_cover b.key (page_at u y).cover)
        (λ y c f. subst (λ x. IsBelow is_cover b.key x) (sym (cover_kept y f.0)) c) _ (w.sibling (sym (owed_kept b.child k) ∙ o)) ((sound.ranked.links b.child k).along));
  }

  branches_kept : (q : ℕ) → q < length t.pages → All (λ b. BoundsBelow is_cover u b) (page_at t q).branches
  branches_kept q k = All-both (λ (b : Branch K). Falls (length t.pages) sound.rank q b.child) (λ b. BoundsBelow is_cover t b) (λ b. BoundsBelow is_cover u b) (λ b f w. branch_kept b f.0 w) _ ((sound.ranked.links q k).down) ((sound.bounded q k).below)

  reached_kept : (q : ℕ) → q < length t.pages → (page : Page K) → page.hung ≡ (page_at t q).hung → page.owed ≡ (page_at t q).owed → IsReached u q page
  unfolding after_rows
  reached_kept q k page eh eo = let w : IsReached t q (page_at t q) = sound.reached q k in record {
    named = ap (λ x. x + one_if_equal q 0) (same_total (λ page. naming q page.branches) refl) ∙ w.named ∙ ap (λ b. cond b 1 0) (sym eh);
    owed_by = same_total (λ page. owing q page) refl ∙ w.owed_by ∙ ap (λ b. cond b 0 1) (sym eh);
    settled = λ e. eo ∙ w.settled (sym eh ∙ e);
    linked_by = λ e. same_total (λ page. linking q page) refl ∙ w.linked_by (sym eh ∙ e);
    once = ap (weigh (λ x. one_if_equal x q)) (rows-pages t sound.rank sound.ranked p l rows 0 t.counter) ∙ w.once;
  }

  shape_here : IsShaped u fan page'
  unfolding after_rows
  shape_here = let w : IsShaped t fan (page_at t p) = sound.shape p l in record {
    number = w.number;
    link = w.link;
    level_along = along_kept p l (page_at t p).level w.level_along;
    level_down = down_kept p l (page_at t p).level w.level_down;
    leaf = w.leaf;
    inner = λ k. absurd (omega (arith, leaf));
    fits = omega (arith, fits, ap length (w.leaf leaf));
    low = omega (arith, w.low, rows_length);
    branched = w.branched;
  }

  shape_other : (q : ℕ) → q < length t.pages → IsShaped u fan (page_at t q)
  unfolding after_rows
  shape_other q k = let w : IsShaped t fan (page_at t q) = sound.shape q k in record {
    number = w.number;
    link = w.link;
    level_along = along_kept q k (page_at t q).level w.level_along;
    level_down = down_kept q k (page_at t q).level w.level_down;
    leaf = w.leaf;
    inner = w.inner;
    fits = w.fits;
    low = omega (arith, w.low, rows_length);
    branched = w.branched;
  }

  posted_kept : weigh (λ page. cond page.hung 0 1) u.pages + u.counter < length u.pages
  unfolding after_rows
  posted_kept = omega (arith, same_total (λ page. cond page.hung 0 1) refl, rows_length, sound.posted)

  pub rows_sound : IsSound is_cover fan u
  rows_sound = record {
    rank = sound.rank;
    ranked = record {
      bounded = λ q h. subst (λ n. sound.rank q < n) (sym rows_length) (sound.ranked.bounded q (subst (λ n. q < n) rows_length h));
      links = λ q h. subst (λ n. LinksFall n sound.rank q (page_at u q)) (sym rows_length) (links_kept q (subst (λ n. q < n) rows_length h));
    };
    root_exists = subst (λ n. 0 < n) (sym rows_length) sound.root_exists;
    root = each_page (λ x page. (x ≡ 0) → IsRoot page)
        (λ e. let w : IsRoot (page_at t p) = subst (λ x. IsRoot (page_at t x)) (sym e) sound.root in record { number = w.number; no_right = w.no_right; not_owed = w.not_owed; hung = w.hung; no_cover = w.no_cover })
        (λ x k d e. subst (λ x. IsRoot (page_at t x)) (sym e) sound.root) 0 sound.root_exists refl;
    no_link_to_root = same_total (λ page. linking 0 page) refl ∙ sound.no_link_to_root;
    posted = posted_kept;
    shape = λ q h. each_page (λ q page. IsShaped u fan page) shape_here (λ q k d. shape_other q k) q (subst (λ n. q < n) rows_length h);
    reached = λ q h. each_page (λ q page. IsReached u q page) (reached_kept p l page' refl refl) (λ q k d. reached_kept q k (page_at t q) refl refl) q (subst (λ n. q < n) rows_length h);
    bounded = λ q h. each_page (λ q page. IsBounded is_cover u page)
        (record { rows = within; branches = (sound.bounded p l).branches; below = branches_kept p l })
        (λ q k d. record { rows = (sound.bounded q k).rows; branches = (sound.bounded q k).branches; below = branches_kept q k })
        q (subst (λ n. q < n) rows_length h);
  }
