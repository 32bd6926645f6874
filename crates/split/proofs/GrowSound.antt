-- A growth of the root keeps the tree sound.
use Rattle.std.proofs.Common.{ℕ, suc, ◌+◌, ◌<◌, ◌≤◌, ◌≡◌, List, [], length, option_to_list, All, refl, ap, arith, sym, ◌∙◌, subst, cond, Bool, true, false, eqb, ◌⊎◌, inl, inr, Some, None, Option, length-append}
use Rattle.std.proofs.lemmas.List.Elements.{All-weaker, All-nil, All-cons, All-append}
use Rattle.key_class.specs.declared.sides.Side.{Side}
use Rattle.node.proofs.PartEnds.{left_part-nil, right_part-nil}
use Rattle.node.specs.Changes.{branch_to, grown_left, grown_right, grown_root}
use Rattle.node.specs.Pages.{Page}
use Rattle.node.specs.Parts.{left_part, right_part}
use Rattle.node.specs.declared.branch.Branch.{Branch}
use Rattle.page_table.proofs.Counting.{false_true, not_named, one-different, one-equal}
use Rattle.page_table.proofs.Under.{All-both, under_weigh}
use Rattle.page_table.proofs.Weights.{weigh-append, weigh-at, weigh-zero, weigh_one}
use Rattle.key_class.specs.Rules.{KeyLaws}
use Rattle.page_table.specs.Soundness.{BoundsBelow, IsBelow, IsBounded, IsReached, IsRoot, IsShaped, IsSound, IsWithin}
use Rattle.page_table.specs.Trees.{Falls, IsRanked, Tree, linking, naming, no_page, owing, page_at, pages_under}
use Rattle.page_table.specs.Weights.{one_if_equal, weigh}
use Rattle.row_version.specs.Entries.{Entry}
use Rattle.split.proofs.Bounds.{branches_within, rows_within}
use Rattle.split.proofs.Grow.{grow-length, grow_pages, grow_rank, grow_ranked, grow_under, grown}
use Rattle.split.proofs.GrowRows.{can_grow, grow_total}
use Rattle.split.proofs.Halves.{some_branch}
use Rattle.split.proofs.PartWeights.{All-left_part, All-right_part, length-parts, weigh-parts}
use Rattle.split.proofs.SplitReached.{none_names, none_owes}
use Rattle.split.specs.Steps.{CanGrow, SidesPart, after_grow}

module _ {K : Type 0} (is_cover : K → K → Bool) (union : K → K → K) (laws : KeyLaws is_cover union) (t : Tree K) (fan : ℕ) (sound : IsSound is_cover fan t) (wide : 2 ≤ fan) (sides : List Side) (part : SidesPart (page_at t 0) sides) where
  abbrev can : CanGrow union t sides
  can = can_grow is_cover union t fan sides sound part

  abbrev r : IsRanked t sound.rank
  r = sound.ranked

  abbrev n : ℕ
  n = length t.pages

  abbrev root : Page K
  root = page_at t 0

  abbrev t' : Tree K
  t' = after_grow union t sides

  abbrev a : Page K
  a = grown_left union root sides (suc n)

  abbrev b : Page K
  b = grown_right union root sides

  abbrev root' : Page K
  root' = grown_root root n a.cover (suc n) b.cover

  new_naming : (x q : ℕ) (o : Option K) → (k : K) × (o ≡ Some k) → naming q (branch_to x o) ≡ one_if_equal x q
  new_naming x q None w = cc w.1
  new_naming x q (Some k) w = weigh_one (λ y. one_if_equal y q) x

  total : (f : Page K → ℕ) → weigh f t'.pages + f root ≡ weigh f t.pages + (f root' + (f a + f b))
  total = grow_total union t sound.rank r sides can

  names_more : (q : ℕ) → weigh (λ page. naming q page.branches) t'.pages ≡ weigh (λ page. naming q page.branches) t.pages + (one_if_equal n q + one_if_equal (suc n) q)
  names_more q = omega (
    arith,
    total (λ page. naming q page.branches),
    weigh-append (λ (x : Branch K). one_if_equal x.child q) (branch_to n a.cover) (branch_to (suc n) b.cover),
    new_naming n q a.cover can.left_bound,
    new_naming (suc n) q b.cover can.right_bound,
    weigh-parts (λ (x : Branch K). one_if_equal x.child q) sides root.branches,
  )

  owes_same : (q : ℕ) → weigh (λ page. owing q page) t'.pages ≡ weigh (λ page. owing q page) t.pages
  owes_same q = omega (arith, total (λ page. owing q page))

  links_more : (q : ℕ) → weigh (λ page. linking q page) t'.pages ≡ weigh (λ page. linking q page) t.pages + one_if_equal (suc n) q
  links_more q = omega (arith, total (λ page. linking q page))

  weight_zero : (h : ℕ → ℕ) (x v : ℕ) → h n + h (suc n) ≡ v → h x + cond (eqb x 0) (h n + h (suc n)) 0 ≡ h x + cond (eqb x 0) v 0
  weight_zero h x v e = ap (λ y. h x + cond (eqb x 0) y 0) e

  cond_nothing : (c : Bool) (z : ℕ) → z ≡ 0 → cond c z 0 ≡ z
  cond_nothing true z e = refl
  cond_nothing false z e = sym e

  old_once : (q : ℕ) → q < n → weigh (λ x. one_if_equal x q) (pages_under t' 0 t.counter) ≡ 1
  old_once q k =
      grow_under union t sound.rank r sides can (λ x. one_if_equal x q) 0 t.counter sound.root_exists
      ∙ under_weigh t sound.rank r (grown union t sound.rank r sides can (λ x. one_if_equal x q)) (λ x. one_if_equal x q)
      (λ x l. weight_zero (λ x. one_if_equal x q) x 0 (omega (arith, one-different n q (λ e. absurd (omega arith)), one-different (suc n) q (λ e. absurd (omega arith)))) ∙ omega (arith, cond_nothing (eqb x 0) 0 refl)) 0 t.counter sound.root_exists
      ∙ (sound.reached q k).once

  new_once : (q : ℕ) → n ≤ q → one_if_equal n q + one_if_equal (suc n) q ≡ 1 → weigh (λ x. one_if_equal x q) (pages_under t' 0 t.counter) ≡ 1
  new_once q k e =
      grow_under union t sound.rank r sides can (λ x. one_if_equal x q) 0 t.counter sound.root_exists
      ∙ under_weigh t sound.rank r (grown union t sound.rank r sides can (λ x. one_if_equal x q)) (λ x. one_if_equal x 0)
      (λ x l. weight_zero (λ x. one_if_equal x q) x 1 e ∙ omega (arith, one-different x q (λ f. absurd (omega arith)))) 0 t.counter sound.root_exists
      ∙ (sound.reached 0 sound.root_exists).once

  old_reached : (q : ℕ) → q < n → (page' : Page K) → page'.hung ≡ (page_at t q).hung → (page'.hung ≡ false → page'.owed ≡ false) → IsReached t' q page'
  unfolding after_grow
  old_reached q k page' eh st = let w : IsReached t q (page_at t q) = sound.reached q k in
      let z : one_if_equal n q ≡ 0 = one-different n q (λ e. absurd (omega arith)) in
      let y : one_if_equal (suc n) q ≡ 0 = one-different (suc n) q (λ e. absurd (omega arith)) in record {
        named = omega (arith, names_more q, z, y) ∙ w.named ∙ ap (λ x. cond x 1 0) (sym eh);
        owed_by = owes_same q ∙ w.owed_by ∙ ap (λ x. cond x 0 1) (sym eh);
        settled = st;
        linked_by = λ u. omega (arith, links_more q, y) ∙ w.linked_by (sym eh ∙ u);
        once = old_once q k;
      }

  new_reached : (q : ℕ) → n ≤ q → one_if_equal n q + one_if_equal (suc n) q ≡ 1 → (page' : Page K) → page'.hung ≡ true → IsReached t' q page'
  unfolding after_grow
  new_reached q k e page' eh = record {
    named = (let p : 0 < n = sound.root_exists in omega (arith, names_more q, none_names t sound.rank r q k, e, one-different q 0 (λ f. absurd (omega arith)))) ∙ ap (λ x. let f : Bool → ℕ = λ y. cond y 1 0 in f x) (sym eh);
    owed_by = owes_same q ∙ none_owes t sound.rank r q k ∙ ap (λ x. let f : Bool → ℕ = λ y. cond y 0 1 in f x) (sym eh);
    settled = λ u. absurd (false_true page'.hung u eh);
    linked_by = λ u. absurd (false_true page'.hung u eh);
    once = new_once q k e;
  }

  -- no link of an old page leads to the root
  root_unnamed : (q : ℕ) → q < n → All (λ (x : Branch K). (x.child ≡ 0) → ⊥) (page_at t q).branches
  root_unnamed q k = not_named 0 (page_at t q).branches
      (let w : weigh (λ page. naming 0 page.branches) t.pages + one_if_equal 0 0 ≡ cond (page_at t 0).hung 1 0 = (sound.reached 0 sound.root_exists).named in
      let z : cond (page_at t 0).hung 1 0 ≡ 1 = ap (λ x. let f : Bool → ℕ = λ y. cond y 1 0 in f x) sound.root.hung in
      omega (arith, w, z, one-equal 0 0 refl, weigh-at (λ (page : Page K). naming 0 page.branches) t.pages q no_page k))

  root_unlinked : (q : ℕ) → q < n → All (λ x. (x ≡ 0) → ⊥) (option_to_list (page_at t q).right)
  root_unlinked q k = All-weaker (λ x. one_if_equal x 0 ≡ 0) (λ x. (x ≡ 0) → ⊥) (λ x e f. let g : one_if_equal x 0 ≡ 1 = one-equal x 0 f in absurd (omega arith)) _
      (weigh-zero (λ x. one_if_equal x 0) (option_to_list (page_at t q).right) (omega (arith, sound.no_link_to_root, weigh-at (λ (page : Page K). linking 0 page) t.pages q no_page k)))

  at_other : (q : ℕ) → q < n → ((q ≡ 0) → ⊥) → page_at t' q ≡ page_at t q
  at_other q k d = grow_pages union t sides (λ q x. (q < n) → ((q ≡ 0) → ⊥) → x ≡ page_at t q) (λ k d. absurd (d refl)) (λ k d. absurd (omega arith)) (λ k d. absurd (omega arith)) (λ q k d e f. refl) q (omega arith) k d

  at_root : page_at t' 0 ≡ root'
  at_root = grow_pages union t sides (λ q x. (q ≡ 0) → x ≡ root') (λ e. refl) (λ e. let k : 0 < n = sound.root_exists in absurd (omega arith)) (λ e. absurd (omega arith)) (λ q k d e. absurd (d e)) 0 (omega arith) refl

  at_a : page_at t' n ≡ a
  at_a = grow_pages union t sides (λ q x. (q ≡ n) → x ≡ a) (λ e. let k : 0 < n = sound.root_exists in absurd (omega arith)) (λ e. refl) (λ e. absurd (omega arith)) (λ q k d e. absurd (omega arith)) n (omega arith) refl

  at_b : page_at t' (suc n) ≡ b
  at_b = grow_pages union t sides (λ q x. (q ≡ suc n) → x ≡ b) (λ e. absurd (omega arith)) (λ e. absurd (omega arith)) (λ e. refl) (λ q k d e. absurd (omega arith)) (suc n) (omega arith) refl

  along_kept : (q : ℕ) → q < n → (m : ℕ) → All (λ x. (page_at t x).level ≡ m) (option_to_list (page_at t q).right) → All (λ x. (page_at t' x).level ≡ m) (option_to_list (page_at t q).right)
  along_kept q k m h = All-both (λ x. (x < n) × ((x ≡ 0) → ⊥)) (λ x. (page_at t x).level ≡ m) (λ x. (page_at t' x).level ≡ m) (λ x f e. ap (λ page. page.level) (at_other x f.0 f.1) ∙ e) _
      (All-both (λ x. Falls n sound.rank q x) (λ x. (x ≡ 0) → ⊥) (λ x. (x < n) × ((x ≡ 0) → ⊥)) (λ x f g. (f.0, g)) _ ((r.links q k).along) (root_unlinked q k)) h

  -- an old entry: its child is an old page other than the root
  abbrev OldChild : Branch K → Type 0
  OldChild x = (x.child < n) × ((x.child ≡ 0) → ⊥)

  old_children : (q : ℕ) → q < n → All (λ x. OldChild x) (page_at t q).branches
  old_children q k = All-both (λ (x : Branch K). Falls n sound.rank q x.child) (λ (x : Branch K). (x.child ≡ 0) → ⊥) (λ x. OldChild x) (λ x f g. (f.0, g)) _ ((r.links q k).down) (root_unnamed q k)

  down_kept : (q : ℕ) → q < n → (m : ℕ) → All (λ (x : Branch K). suc (page_at t x.child).level ≡ m) (page_at t q).branches → All (λ (x : Branch K). suc (page_at t' x.child).level ≡ m) (page_at t q).branches
  down_kept q k m h = All-both (λ x. OldChild x) (λ (x : Branch K). suc (page_at t x.child).level ≡ m) (λ (x : Branch K). suc (page_at t' x.child).level ≡ m)
      (λ x f e. ap (λ page. suc page.level) (at_other x.child f.0 f.1) ∙ e) _ (old_children q k) h

  branch_kept : (x : Branch K) → OldChild x → BoundsBelow is_cover t x → BoundsBelow is_cover t' x
  branch_kept x d w = let same : page_at t' x.child ≡ page_at t x.child = at_other x.child d.0 d.1 in record {
    child = subst (λ page. IsBelow is_cover x.key page.cover) (sym same) w.child;
    sibling = λ o. let o' : (page_at t x.child).owed ≡ true = subst (λ page. page.owed ≡ true) same o in
        subst (λ page. All (λ y. IsBelow is_cover x.key (page_at t' y).cover) (option_to_list page.right)) (sym same)
        (All-both (λ y. IsBelow is_cover x.key (page_at t y).cover) (λ y. (y < n) × ((y ≡ 0) → ⊥)) (λ y. IsBelow is_cover x.key (page_at t' y).cover)
        (λ y c f. subst (λ page. IsBelow is_cover x.key page.cover) (sym (at_other y f.0 f.1)) c) (option_to_list (page_at t x.child).right) (w.sibling o')
        (All-both (λ y. Falls n sound.rank x.child y) (λ y. (y ≡ 0) → ⊥) (λ y. (y < n) × ((y ≡ 0) → ⊥)) (λ y f g. (f.0, g)) _ ((r.links x.child d.0).along) (root_unlinked x.child d.0)));
  }

  branches_kept : (q : ℕ) → q < n → All (λ x. BoundsBelow is_cover t' x) (page_at t q).branches
  branches_kept q k = All-both (λ x. OldChild x) (λ x. BoundsBelow is_cover t x) (λ x. BoundsBelow is_cover t' x) (λ x d w. branch_kept x d w) _ (old_children q k) ((sound.bounded q k).below)

  -- the entries of the new root
  abbrev RootFacts : Branch K → Type 0
  RootFacts x = BoundsBelow is_cover t' x × (suc (page_at t' x.child).level ≡ suc root.level)

  new_facts : (q : ℕ) (page : Page K) → page_at t' q ≡ page → page.level ≡ root.level → page.owed ≡ false → (o : Option K) → page.cover ≡ o → All (λ x. RootFacts x) (branch_to q o)
  new_facts q page e el eo None ec = All-nil (λ x. RootFacts x)
  new_facts q page e el eo (Some k) ec = All-cons (λ x. RootFacts x) (record { key = k; child = q }) [] (
    record {
      child = subst (λ page. IsBelow is_cover k page.cover) (sym e) (subst (λ o. IsBelow is_cover k o) (sym ec) (laws.itself k));
      sibling = λ f. absurd (false_true (page_at t' q).owed (ap (λ page. page.owed) e ∙ eo) f);
    },
    ap (λ page. suc page.level) e ∙ ap suc el,
  )
      (All-nil (λ x. RootFacts x))

  root_facts : All (λ x. RootFacts x) root'.branches
  root_facts = All-append (λ x. RootFacts x) (branch_to n a.cover) (branch_to (suc n) b.cover) (new_facts n a at_a refl refl a.cover refl) (new_facts (suc n) b at_b refl refl b.cover refl)

  length_new : (q : ℕ) (o : Option K) → length (branch_to q o) ≤ 1
  length_new q None = omega arith
  length_new q (Some k) = omega arith

  length_bound : (q : ℕ) (o : Option K) → (k : K) × (o ≡ Some k) → length (branch_to q o) ≡ 1
  length_bound q None w = cc w.1
  length_bound q (Some k) w = refl

  abbrev old : IsShaped t fan root
  old = sound.shape 0 sound.root_exists

  root_shape : IsShaped t' fan root'
  unfolding after_grow
  root_shape = record {
    number = old.number;
    link = old.link;
    level_along = subst (λ o. All (λ x. (page_at t' x).level ≡ suc root.level) (option_to_list o)) (sym sound.root.no_right) (All-nil _);
    level_down = All-weaker (λ x. RootFacts x) (λ (x : Branch K). suc (page_at t' x.child).level ≡ suc root.level) (λ x w. w.1) root'.branches root_facts;
    leaf = λ e. absurd (omega arith);
    inner = λ l. refl;
    fits = omega (arith, wide, length-append (branch_to n a.cover) (branch_to (suc n) b.cover), length_new n a.cover, length_new (suc n) b.cover);
    low = omega (arith, old.low, grow-length union t sides);
    branched = λ l. omega (arith, length-append (branch_to n a.cover) (branch_to (suc n) b.cover), length_bound n a.cover can.left_bound);
  }

  a_shape : IsShaped t' fan a
  unfolding after_grow
  a_shape = record {
    number = omega arith;
    link = λ f. (suc n, refl);
    level_along = All-cons (λ x. (page_at t' x).level ≡ root.level) (suc n) [] (ap (λ page. page.level) at_b) (All-nil _);
    level_down = All-left_part (λ (x : Branch K). suc (page_at t' x.child).level ≡ root.level) sides root.branches (down_kept 0 sound.root_exists root.level old.level_down);
    leaf = λ e. ap (left_part sides) (old.leaf e) ∙ left_part-nil sides;
    inner = λ e. ap (left_part sides) (old.inner e) ∙ left_part-nil sides;
    fits = omega (arith, old.fits, length-parts sides root.rows, length-parts sides root.branches);
    low = omega (arith, old.low, grow-length union t sides);
    branched = λ e. some_branch (left_part sides root.rows) (left_part sides root.branches) (ap (left_part sides) (old.inner e) ∙ left_part-nil sides) part.some_left;
  }

  no_cause : (false ≡ true) ⊎ (0 < 0) → (x : ℕ) × (None ≡ Some x)
  no_cause (inl e) = absurd (false_true false refl e)
  no_cause (inr l) = absurd (omega arith)

  b_shape : IsShaped t' fan b
  unfolding after_grow
  b_shape = record {
    number = omega arith;
    link = no_cause;
    level_along = All-nil _;
    level_down = All-right_part (λ (x : Branch K). suc (page_at t' x.child).level ≡ root.level) sides root.branches (down_kept 0 sound.root_exists root.level old.level_down);
    leaf = λ e. ap (right_part sides) (old.leaf e) ∙ right_part-nil sides;
    inner = λ e. ap (right_part sides) (old.inner e) ∙ right_part-nil sides;
    fits = omega (arith, old.fits, length-parts sides root.rows, length-parts sides root.branches);
    low = omega (arith, old.low, grow-length union t sides);
    branched = λ e. some_branch (right_part sides root.rows) (right_part sides root.branches) (ap (right_part sides) (old.inner e) ∙ right_part-nil sides) part.some_right;
  }

  other_shape : (q : ℕ) → q < n → IsShaped t' fan (page_at t q)
  unfolding after_grow
  other_shape q k = let w : IsShaped t fan (page_at t q) = sound.shape q k in record {
    number = w.number;
    link = w.link;
    level_along = along_kept q k (page_at t q).level w.level_along;
    level_down = down_kept q k (page_at t q).level w.level_down;
    leaf = w.leaf;
    inner = w.inner;
    fits = w.fits;
    low = omega (arith, w.low, grow-length union t sides);
    branched = w.branched;
  }

  one_left : one_if_equal n n + one_if_equal (suc n) n ≡ 1
  one_left = omega (arith, one-equal n n refl, one-different (suc n) n (λ e. absurd (omega arith)))

  one_right : one_if_equal n (suc n) + one_if_equal (suc n) (suc n) ≡ 1
  one_right = omega (arith, one-equal (suc n) (suc n) refl, one-different n (suc n) (λ e. absurd (omega arith)))

  posted_kept : weigh (λ page. cond page.hung 0 1) t'.pages + t'.counter < length t'.pages
  unfolding after_grow
  posted_kept = omega (arith, total (λ page. cond page.hung 0 1), grow-length union t sides, sound.posted)

  pub grow_sound : IsSound is_cover fan t'
  grow_sound = record {
    rank = grow_rank sound.rank n;
    ranked = grow_ranked union t sound.rank sides r can;
    root_exists = subst (λ m. 0 < m) (sym (grow-length union t sides)) (omega arith);
    root = subst (λ x. IsRoot x) (sym at_root) (record { number = sound.root.number; no_right = sound.root.no_right; not_owed = sound.root.not_owed; hung = sound.root.hung; no_cover = sound.root.no_cover });
    no_link_to_root = omega (arith, links_more 0, sound.no_link_to_root, one-different (suc n) 0 (λ e. absurd (omega arith)));
    posted = posted_kept;
    shape = λ q h. grow_pages union t sides (λ q page. IsShaped t' fan page) root_shape a_shape b_shape (λ q k d. other_shape q k) q (subst (λ m. q < m) (grow-length union t sides) h);
    reached = λ q h. grow_pages union t sides (λ q page. IsReached t' q page)
        (old_reached 0 sound.root_exists root' refl ((sound.reached 0 sound.root_exists).settled))
        (new_reached n (omega arith) one_left a refl) (new_reached (suc n) (omega arith) one_right b refl)
        (λ q k d. old_reached q k (page_at t q) refl ((sound.reached q k).settled)) q (subst (λ m. q < m) (grow-length union t sides) h);
    bounded = λ q h. grow_pages union t sides (λ q page. IsBounded is_cover t' page)
        (record {
          rows = All-nil (λ (e : Entry K). IsWithin is_cover root.cover e.key);
          branches = All-weaker (λ x. RootFacts x) (λ (x : Branch K). IsWithin is_cover root.cover x.key) (λ x w. subst (λ o. IsWithin is_cover o x.key) (sym sound.root.no_cover) tt) root'.branches root_facts;
          below = All-weaker (λ x. RootFacts x) (λ (x : Branch K). BoundsBelow is_cover t' x) (λ x w. w.0) root'.branches root_facts;
        })
        (record {
          rows = rows_within is_cover union laws (left_part sides root.rows) (left_part sides root.branches);
          branches = branches_within is_cover union laws (left_part sides root.rows) (left_part sides root.branches);
          below = All-left_part (λ (x : Branch K). BoundsBelow is_cover t' x) sides root.branches (branches_kept 0 sound.root_exists);
        })
        (record {
          rows = rows_within is_cover union laws (right_part sides root.rows) (right_part sides root.branches);
          branches = branches_within is_cover union laws (right_part sides root.rows) (right_part sides root.branches);
          below = All-right_part (λ (x : Branch K). BoundsBelow is_cover t' x) sides root.branches (branches_kept 0 sound.root_exists);
        })
        (λ q k d. record { rows = (sound.bounded q k).rows; branches = (sound.bounded q k).branches; below = branches_kept q k })
        q (subst (λ m. q < m) (grow-length union t sides) h);
  }
