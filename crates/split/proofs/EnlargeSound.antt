-- An enlargement changes bounds only, and keeps the tree sound.
use Rattle.std.proofs.Common.{ℕ, suc, ◌+◌, ◌<◌, ◌≤◌, ◌≡◌, List, [], ◌∷◌, length, map, option_to_list, All, refl, ap, ap₂, arith, sym, ◌∙◌, subst, cond, Bool, true, false, eqb, inl, inr, Some, None, Option}
use Rattle.std.proofs.lemmas.List.{length-map, get_or-set_same, get_or-set_other}
use Rattle.std.proofs.lemmas.Bool.{eq-eqb, ne_eqb}
use Rattle.std.proofs.lemmas.List.Elements.{All-weaker, All-map}
use Rattle.node.specs.Changes.{enlarge_child, enlarge_parent, widened, wider}
use Rattle.node.specs.Pages.{Page}
use Rattle.node.specs.declared.branch.Branch.{Branch}
use Rattle.page_table.proofs.Counting.{false_true, named-All, not_named}
use Rattle.page_table.proofs.Facts.{Settled, hung_from, siblings_settled}
use Rattle.page_table.proofs.PageLists.{is_or_not, replaced-length, replaced_pages}
use Rattle.page_table.proofs.Pruning.{below_below}
use Rattle.page_table.proofs.SameLinks.{SameLinks, same_under}
use Rattle.page_table.proofs.Under.{All-both, under_exist}
use Rattle.page_table.proofs.Weights.{flat_map-each, weigh-at, weigh-at_two, weigh-each, weigh-map, weigh-set}
use Rattle.key_class.specs.Rules.{KeyLaws}
use Rattle.page_table.specs.Soundness.{BoundsBelow, IsBelow, IsBounded, IsReached, IsRoot, IsShaped, IsSound, IsWithin}
use Rattle.page_table.specs.Trees.{Falls, LinksFall, Tree, linking, naming, no_page, owing, page_at, pages_under, replaced, rows_of, rows_under}
use Rattle.page_table.specs.Weights.{one_if_equal, weigh}
use Rattle.row_version.specs.Entries.{Entry}
use Rattle.split.specs.Steps.{after_enlarge}

cond_child : {K : Type 0} (x : Bool) (key : K) (b : Branch K) → (cond x (record { key = key; child = b.child }) b).child ≡ b.child
cond_child true key b = refl
cond_child false key b = refl

pub widened-child : {K : Type 0} (union : K → K → K) (c : ℕ) (key : K) (b : Branch K) → (widened union c key b).child ≡ b.child
widened-child union c key b = cond_child (eqb b.child c) (union b.key key) b

children_same : {K : Type 0} (union : K → K → K) (c : ℕ) (key : K) (bs : List (Branch K)) → map (λ b. b.child) (map (widened union c key) bs) ≡ map (λ b. b.child) bs
children_same union c key [] = refl
children_same union c key (b ∷ bs) = ap₂ (λ x xs. x ∷ xs) (widened-child union c key b) (children_same union c key bs)

module _ {K : Type 0} (is_cover : K → K → Bool) (union : K → K → K) (laws : KeyLaws is_cover union) (t : Tree K) (fan : ℕ) (sound : IsSound is_cover fan t) (p c : ℕ) (key : K)
    (lp : p < length t.pages) (names : 0 < naming c (page_at t p).branches) (fits : IsWithin is_cover (page_at t p).cover key) where
  abbrev n : ℕ
  n = length t.pages

  abbrev t' : Tree K
  t' = after_enlarge union t p c key

  abbrev parent : Page K
  parent = enlarge_parent union c key (page_at t p)

  abbrev child : Page K
  child = enlarge_child union key (page_at t c)

  child_falls : Falls n sound.rank p c
  child_falls = named-All (λ x. Falls n sound.rank p x) c (page_at t p).branches names ((sound.ranked.links p lp).down)

  c_p : (c ≡ p) → ⊥
  c_p e = let l : sound.rank p < sound.rank p = subst (λ x. sound.rank x < sound.rank p) e child_falls.1 in omega arith

  hung : (page_at t c).hung ≡ true
  hung = hung_from (page_at t c).hung (omega (arith, (sound.reached c child_falls.0).named, weigh-at (λ (page : Page K). naming c page.branches) t.pages p no_page lp))

  one_at_most : (b : Bool) → cond b 1 0 ≤ 1
  one_at_most true = omega arith
  one_at_most false = omega arith

  nowhere_else : (q : ℕ) → q < n → ((q ≡ p) → ⊥) → All (λ (b : Branch K). (b.child ≡ c) → ⊥) (page_at t q).branches
  nowhere_else q l d = not_named c (page_at t q).branches
      (omega (arith, (sound.reached c child_falls.0).named, one_at_most (page_at t c).hung, names, weigh-at_two (λ (page : Page K). naming c page.branches) t.pages q p no_page l lp d))

  pub enlarge_length : length t'.pages ≡ n
  unfolding after_enlarge
  enlarge_length = replaced-length (replaced t c child) p parent ∙ replaced-length t c child

  each_page : (P : ℕ → Page K → Type 0) → P p parent → P c child → ((q : ℕ) → q < n → ((q ≡ p) → ⊥) → ((q ≡ c) → ⊥) → P q (page_at t q)) → (q : ℕ) → q < n → P q (page_at t' q)
  unfolding after_enlarge
  each_page P at_p at_c other q l =
      let e : length (replaced t c child).pages ≡ n = replaced-length t c child in
      replaced_pages (replaced t c child) p parent P (subst (λ m. p < m) (sym e) lp) at_p
      (λ q l d. replaced_pages t c child (λ x page. ((x ≡ p) → ⊥) → P x page) child_falls.0 (λ d. at_c) (λ q l f d. other q l d f) q (subst (λ m. q < m) e l) d)
      q (subst (λ m. q < m) (sym e) l)

  pub enlarge_total : (f : Page K → ℕ) → f parent ≡ f (page_at t p) → f child ≡ f (page_at t c) → weigh f t'.pages ≡ weigh f t.pages
  unfolding after_enlarge
  enlarge_total f ep ec =
      let t1 : Tree K = replaced t c child in
      let e1 : weigh f t1.pages + f (page_at t c) ≡ weigh f t.pages + f child = weigh-set f t.pages c child no_page child_falls.0 in
      let e2 : weigh f (replaced t1 p parent).pages + f (page_at t1 p) ≡ weigh f t1.pages + f parent = weigh-set f t1.pages p parent no_page (subst (λ m. p < m) (sym (replaced-length t c child)) lp) in
      let e3 : f (page_at t1 p) ≡ f (page_at t p) = ap f (get_or-set_other t.pages c p child no_page (λ e. c_p (sym e))) in
      omega (arith, e1, e2, e3, ep, ec)

  -- the same links everywhere, numbers past the table's end too
  links_same : (q : ℕ) → SameLinks (page_at t q) (page_at t' q)
  unfolding after_enlarge
  links_same q =
      let t1 : Tree K = replaced t c child in
      let l1 : p < length t1.pages = subst (λ m. p < m) (sym (replaced-length t c child)) lp in
      elim (is_or_not q p) [
        | inl e ↦ subst (λ x. SameLinks (page_at t x) (page_at (replaced t1 p parent) x)) (sym e)
            (subst (λ page. SameLinks (page_at t p) page) (sym (get_or-set_same t1.pages p parent no_page l1)) (record { children = children_same union c key (page_at t p).branches; right = refl; owed = refl; nsn = refl }))
        | inr d ↦ subst (λ page. SameLinks (page_at t q) page) (sym (get_or-set_other t1.pages p q parent no_page d))
            (elim (is_or_not q c) [
              | inl e ↦ subst (λ x. SameLinks (page_at t x) (page_at t1 x)) (sym e) (subst (λ page. SameLinks (page_at t c) page) (sym (get_or-set_same t.pages c child no_page child_falls.0)) (record { children = refl; right = refl; owed = refl; nsn = refl }))
              | inr f ↦ subst (λ page. SameLinks (page_at t q) page) (sym (get_or-set_other t.pages c q child no_page f)) (record { children = refl; right = refl; owed = refl; nsn = refl })
            ])
      ]

  pub enlarge_pages : (q m : ℕ) → pages_under t' q m ≡ pages_under t q m
  unfolding after_enlarge
  enlarge_pages q m = same_under t t' refl enlarge_length links_same q m

  pub rows_same : (q : ℕ) → q < n → (page_at t' q).rows ≡ (page_at t q).rows
  rows_same q l = each_page (λ x page. page.rows ≡ (page_at t x).rows) refl refl (λ x k a b. refl) q l

  -- THE ENLARGEMENT: the very lists of rows
  pub enlarge_rows : (q m : ℕ) → q < n → rows_under t' q m ≡ rows_under t q m
  enlarge_rows q m l =
      ap (λ xs. rows_of t' xs) (enlarge_pages q m)
      ∙ flat_map-each (λ x. (page_at t' x).rows) (λ x. (page_at t x).rows) (pages_under t q m)
      (All-weaker (λ x. x < n) (λ x. (page_at t' x).rows ≡ (page_at t x).rows) (λ x k. rows_same x k) _ (under_exist t sound.rank sound.ranked q m l))

  level_kept : (q : ℕ) → q < n → (page_at t' q).level ≡ (page_at t q).level
  level_kept q k = each_page (λ x page. page.level ≡ (page_at t x).level) refl refl (λ x k a b. refl) q k

  owed_kept : (q : ℕ) → q < n → (page_at t' q).owed ≡ (page_at t q).owed
  owed_kept q k = each_page (λ x page. page.owed ≡ (page_at t x).owed) refl refl (λ x k a b. refl) q k

  right_kept : (q : ℕ) → q < n → (page_at t' q).right ≡ (page_at t q).right
  right_kept q k = each_page (λ x page. page.right ≡ (page_at t x).right) refl refl (λ x k a b. refl) q k

  cover_kept : (q : ℕ) → q < n → ((q ≡ c) → ⊥) → (page_at t' q).cover ≡ (page_at t q).cover
  cover_kept q k d = each_page (λ x page. ((x ≡ c) → ⊥) → page.cover ≡ (page_at t x).cover) (λ d. refl) (λ d. absurd (d refl)) (λ x k a b d. refl) q k d

  cover_child : (page_at t' c).cover ≡ wider union (page_at t c).cover key
  cover_child = each_page (λ x page. (x ≡ c) → page.cover ≡ wider union (page_at t c).cover key) (λ e. absurd (c_p (sym e))) (λ e. refl) (λ x k a b e. absurd (b e)) c child_falls.0 refl

  All-widened : (P : ℕ → Type 0) (bs : List (Branch K)) → All (λ b. P b.child) bs → All (λ b. P b.child) (map (widened union c key) bs)
  All-widened P bs h = All-map (λ b. P b.child) (widened union c key) bs (All-weaker (λ (b : Branch K). P b.child) (λ (b : Branch K). P (widened union c key b).child) (λ b w. subst P (sym (widened-child union c key b)) w) bs h)

  along_kept : (q : ℕ) → q < n → (m : ℕ) → All (λ x. (page_at t x).level ≡ m) (option_to_list (page_at t q).right) → All (λ x. (page_at t' x).level ≡ m) (option_to_list (page_at t q).right)
  along_kept q k m h = All-both (λ x. Falls n sound.rank q x) (λ x. (page_at t x).level ≡ m) (λ x. (page_at t' x).level ≡ m) (λ x f e. level_kept x f.0 ∙ e) _ ((sound.ranked.links q k).along) h

  down_kept : (q : ℕ) → q < n → (m : ℕ) → All (λ (b : Branch K). suc (page_at t b.child).level ≡ m) (page_at t q).branches → All (λ (b : Branch K). suc (page_at t' b.child).level ≡ m) (page_at t q).branches
  down_kept q k m h = All-both (λ (b : Branch K). Falls n sound.rank q b.child) (λ (b : Branch K). suc (page_at t b.child).level ≡ m) (λ (b : Branch K). suc (page_at t' b.child).level ≡ m) (λ b f e. ap suc (level_kept b.child f.0) ∙ e) _ ((sound.ranked.links q k).down) h

  -- keys
  below_wider : (a : K) (o : Option K) → IsBelow is_cover a o → IsBelow is_cover (union a key) (wider union o key)
  below_wider a None b = b
  below_wider a (Some k) b = laws.least k key (union a key) (laws.through (union a key) a k (laws.left a key) b) (laws.right a key)

  within_wider : (o : Option K) (k : K) → IsWithin is_cover o k → IsWithin is_cover (wider union o key) k
  within_wider None k w = w
  within_wider (Some bound) k w = laws.through (union bound key) bound k (laws.left bound key) w

  within_union : (o : Option K) (a b : K) → IsWithin is_cover o a → IsWithin is_cover o b → IsWithin is_cover o (union a b)
  within_union None a b x y = tt
  within_union (Some bound) a b x y = laws.least a b bound x y

  -- the siblings of an owed page are not c
  siblings_kept : (k : K) (x : ℕ) → x < n → (page_at t x).owed ≡ true → All (λ y. IsBelow is_cover k (page_at t y).cover) (option_to_list (page_at t x).right) → All (λ y. IsBelow is_cover k (page_at t' y).cover) (option_to_list (page_at t' x).right)
  siblings_kept k x l o h = subst (λ r. All (λ y. IsBelow is_cover k (page_at t' y).cover) (option_to_list r)) (sym (right_kept x l))
      (All-both (λ y. IsBelow is_cover k (page_at t y).cover) (λ y. Settled is_cover t fan sound y) (λ y. IsBelow is_cover k (page_at t' y).cover)
      (λ y u d. subst (λ z. IsBelow is_cover k z) (sym (cover_kept y d.0 (λ e. false_true (page_at t y).hung d.1 (subst (λ z. (page_at t z).hung ≡ true) (sym e) hung)))) u)
      (option_to_list (page_at t x).right) h (siblings_settled is_cover t fan sound x l o))

  branch_kept : (b : Branch K) → b.child < n → ((b.child ≡ c) → ⊥) → BoundsBelow is_cover t b → BoundsBelow is_cover t' b
  branch_kept b l d w = record {
    child = subst (λ o. IsBelow is_cover b.key o) (sym (cover_kept b.child l d)) w.child;
    sibling = λ o. siblings_kept b.key b.child l (sym (owed_kept b.child l) ∙ o) (w.sibling (sym (owed_kept b.child l) ∙ o));
  }

  branch_wide : (b : Branch K) → b.child < n → b.child ≡ c → BoundsBelow is_cover t b → BoundsBelow is_cover t' (record { key = union b.key key; child = b.child })
  branch_wide b l e w = record {
    child = subst (λ x. IsBelow is_cover (union b.key key) (page_at t' x).cover) (sym e) (subst (λ o. IsBelow is_cover (union b.key key) o) (sym cover_child) (below_wider b.key (page_at t c).cover (subst (λ x. IsBelow is_cover b.key (page_at t x).cover) e w.child)));
    sibling = λ o. siblings_kept (union b.key key) b.child l (sym (owed_kept b.child l) ∙ o)
        (All-weaker (λ y. IsBelow is_cover b.key (page_at t y).cover) (λ y. IsBelow is_cover (union b.key key) (page_at t y).cover) (λ y v. below_below is_cover laws.through (union b.key key) b.key _ (laws.left b.key key) v) _ (w.sibling (sym (owed_kept b.child l) ∙ o)));
  }

  abbrev NewFacts : Branch K → Type 0
  NewFacts b = IsWithin is_cover (page_at t p).cover b.key × BoundsBelow is_cover t' b

  widened_facts : (b : Branch K) → b.child < n → IsWithin is_cover (page_at t p).cover b.key → BoundsBelow is_cover t b → NewFacts (widened union c key b)
  widened_facts b l w d = elim (is_or_not b.child c) [
    | inl e ↦ subst (λ x. NewFacts x) (sym (let f : Bool → Branch K = λ x. cond x (record { key = union b.key key; child = b.child }) b in ap f (eq-eqb b.child c e))) (within_union (page_at t p).cover b.key key w fits, branch_wide b l e d)
    | inr f ↦ subst (λ x. NewFacts x) (sym (let g : Bool → Branch K = λ x. cond x (record { key = union b.key key; child = b.child }) b in ap g (ne_eqb b.child c f))) (w, branch_kept b l f d)
  ]

  parent_facts : All (λ b. NewFacts b) parent.branches
  parent_facts = All-map (λ b. NewFacts b) (widened union c key) (page_at t p).branches
      (All-both (λ (b : Branch K). (b.child < n) × IsWithin is_cover (page_at t p).cover b.key) (λ (b : Branch K). BoundsBelow is_cover t b) (λ (b : Branch K). NewFacts (widened union c key b)) (λ b u d. widened_facts b u.0 u.1 d) (page_at t p).branches
      (All-both (λ (b : Branch K). Falls n sound.rank p b.child) (λ (b : Branch K). IsWithin is_cover (page_at t p).cover b.key) (λ (b : Branch K). (b.child < n) × IsWithin is_cover (page_at t p).cover b.key) (λ b f w. (f.0, w)) (page_at t p).branches ((sound.ranked.links p lp).down) ((sound.bounded p lp).branches))
      ((sound.bounded p lp).below))

  below_kept : (q : ℕ) → q < n → ((q ≡ p) → ⊥) → All (λ b. BoundsBelow is_cover t' b) (page_at t q).branches
  below_kept q k d = All-both (λ (b : Branch K). (b.child < n) × ((b.child ≡ c) → ⊥)) (λ (b : Branch K). BoundsBelow is_cover t b) (λ (b : Branch K). BoundsBelow is_cover t' b) (λ b f w. branch_kept b f.0 f.1 w) (page_at t q).branches
      (All-both (λ (b : Branch K). Falls n sound.rank q b.child) (λ (b : Branch K). (b.child ≡ c) → ⊥) (λ (b : Branch K). (b.child < n) × ((b.child ≡ c) → ⊥)) (λ b f g. (f.0, g)) (page_at t q).branches ((sound.ranked.links q k).down) (nowhere_else q k d))
      ((sound.bounded q k).below)

  naming_parent : (q : ℕ) → naming q parent.branches ≡ naming q (page_at t p).branches
  naming_parent q = weigh-map (λ (b : Branch K). one_if_equal b.child q) (widened union c key) (page_at t p).branches
      ∙ weigh-each (λ b. one_if_equal (widened union c key b).child q) (λ b. one_if_equal b.child q) (page_at t p).branches (λ i d l. ap (λ x. one_if_equal x q) (widened-child union c key _))

  reached_kept : (q : ℕ) → q < n → (page : Page K) → page.hung ≡ (page_at t q).hung → page.owed ≡ (page_at t q).owed → IsReached t' q page
  unfolding after_enlarge
  reached_kept q k page eh eo = let w : IsReached t q (page_at t q) = sound.reached q k in record {
    named = ap (λ x. x + one_if_equal q 0) (enlarge_total (λ page. naming q page.branches) (naming_parent q) refl) ∙ w.named ∙ ap (λ b. cond b 1 0) (sym eh);
    owed_by = enlarge_total (λ page. owing q page) refl refl ∙ w.owed_by ∙ ap (λ b. cond b 0 1) (sym eh);
    settled = λ e. eo ∙ w.settled (sym eh ∙ e);
    linked_by = λ e. enlarge_total (λ page. linking q page) refl refl ∙ w.linked_by (sym eh ∙ e);
    once = ap (weigh (λ x. one_if_equal x q)) (enlarge_pages 0 t.counter) ∙ w.once;
  }

  shape_kept : (q : ℕ) → q < n → IsShaped t' fan (page_at t q)
  unfolding after_enlarge
  shape_kept q k = let w : IsShaped t fan (page_at t q) = sound.shape q k in record {
    number = w.number;
    link = w.link;
    level_along = along_kept q k (page_at t q).level w.level_along;
    level_down = down_kept q k (page_at t q).level w.level_down;
    leaf = w.leaf;
    inner = w.inner;
    fits = w.fits;
    low = omega (arith, w.low, enlarge_length);
    branched = w.branched;
  }

  parent_shape : IsShaped t' fan parent
  parent_shape = let w : IsShaped t' fan (page_at t p) = shape_kept p lp in record {
    number = w.number;
    link = w.link;
    level_along = w.level_along;
    level_down = All-widened (λ x. suc (page_at t' x).level ≡ (page_at t p).level) (page_at t p).branches w.level_down;
    leaf = λ e. ap (map (widened union c key)) (w.leaf e);
    inner = w.inner;
    fits = omega (arith, w.fits, length-map (page_at t p).branches (widened union c key));
    low = omega (arith, w.low);
    branched = λ l. omega (arith, w.branched l, length-map (page_at t p).branches (widened union c key));
  }

  child_shape : IsShaped t' fan child
  child_shape = let w : IsShaped t' fan (page_at t c) = shape_kept c child_falls.0 in record {
    number = w.number;
    link = w.link;
    level_along = w.level_along;
    level_down = w.level_down;
    leaf = w.leaf;
    inner = w.inner;
    fits = w.fits;
    low = omega (arith, w.low, enlarge_length);
    branched = w.branched;
  }

  root_not_child : (c ≡ 0) → ⊥
  root_not_child e = none (sound.reached 0 sound.root_exists).named
    where
      none : weigh (λ page. naming 0 page.branches) t.pages + one_if_equal 0 0 ≡ cond (page_at t 0).hung 1 0 → ⊥
      none w = let k : 0 < naming 0 (page_at t p).branches = subst (λ x. 0 < naming x (page_at t p).branches) e names in
          let z : one_if_equal 0 0 ≡ 1 = refl in
          absurd (omega (arith, w, z, k, one_at_most (page_at t 0).hung, weigh-at (λ (page : Page K). naming 0 page.branches) t.pages p no_page lp))

  posted_kept : weigh (λ page. cond page.hung 0 1) t'.pages + t'.counter < length t'.pages
  unfolding after_enlarge
  posted_kept = omega (arith, enlarge_total (λ page. cond page.hung 0 1) refl refl, enlarge_length, sound.posted)

  pub enlarge_sound : IsSound is_cover fan t'
  enlarge_sound = record {
    rank = sound.rank;
    ranked = record {
      bounded = λ q h. subst (λ m. sound.rank q < m) (sym enlarge_length) (sound.ranked.bounded q (subst (λ m. q < m) enlarge_length h));
      links = λ q h. subst (λ m. LinksFall m sound.rank q (page_at t' q)) (sym enlarge_length)
          (each_page (λ x page. LinksFall n sound.rank x page)
          (record { down = All-widened (λ x. Falls n sound.rank p x) (page_at t p).branches ((sound.ranked.links p lp).down); along = (sound.ranked.links p lp).along })
          (record { down = (sound.ranked.links c child_falls.0).down; along = (sound.ranked.links c child_falls.0).along })
          (λ x k a b. sound.ranked.links x k) q (subst (λ m. q < m) enlarge_length h));
    };
    root_exists = subst (λ m. 0 < m) (sym enlarge_length) sound.root_exists;
    root = each_page (λ x page. (x ≡ 0) → IsRoot page)
        (λ e. let w : IsRoot (page_at t p) = subst (λ x. IsRoot (page_at t x)) (sym e) sound.root in record { number = w.number; no_right = w.no_right; not_owed = w.not_owed; hung = w.hung; no_cover = w.no_cover })
        (λ e. absurd (root_not_child e))
        (λ x k a b e. subst (λ x. IsRoot (page_at t x)) (sym e) sound.root) 0 sound.root_exists refl;
    no_link_to_root = enlarge_total (λ page. linking 0 page) refl refl ∙ sound.no_link_to_root;
    posted = posted_kept;
    shape = λ q h. each_page (λ q page. IsShaped t' fan page) parent_shape child_shape (λ q k a b. shape_kept q k) q (subst (λ m. q < m) enlarge_length h);
    reached = λ q h. each_page (λ q page. IsReached t' q page) (reached_kept p lp parent refl refl) (reached_kept c child_falls.0 child refl refl) (λ q k a b. reached_kept q k (page_at t q) refl refl) q (subst (λ m. q < m) enlarge_length h);
    bounded = λ q h. each_page (λ q page. IsBounded is_cover t' page)
        (record {
          rows = (sound.bounded p lp).rows;
          branches = All-weaker (λ b. NewFacts b) (λ (b : Branch K). IsWithin is_cover (page_at t p).cover b.key) (λ b w. w.0) parent.branches parent_facts;
          below = All-weaker (λ b. NewFacts b) (λ (b : Branch K). BoundsBelow is_cover t' b) (λ b w. w.1) parent.branches parent_facts;
        })
        (record {
          rows = All-weaker (λ (e : Entry K). IsWithin is_cover (page_at t c).cover e.key) (λ (e : Entry K). IsWithin is_cover child.cover e.key) (λ e w. within_wider (page_at t c).cover e.key w) (page_at t c).rows ((sound.bounded c child_falls.0).rows);
          branches = All-weaker (λ (b : Branch K). IsWithin is_cover (page_at t c).cover b.key) (λ (b : Branch K). IsWithin is_cover child.cover b.key) (λ b w. within_wider (page_at t c).cover b.key w) (page_at t c).branches ((sound.bounded c child_falls.0).branches);
          below = below_kept c child_falls.0 c_p;
        })
        (λ q k a b. record { rows = (sound.bounded q k).rows; branches = (sound.bounded q k).branches; below = below_kept q k a })
        q (subst (λ m. q < m) enlarge_length h);
  }
