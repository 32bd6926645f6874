-- A posting keeps the tree sound.
use Rattle.std.proofs.Common.{ℕ, suc, ◌+◌, ◌<◌, ◌≤◌, ◌≡◌, [], length, map, option_to_list, All, refl, ap, ap₂, arith, sym, ◌∙◌, subst, cond, Bool, true, false, ◌⊎◌, inl, inr, Some, None, Option, length-append}
use Rattle.std.proofs.lemmas.List.{length-map}
use Rattle.std.proofs.lemmas.Bool.{eq-eqb, ne_eqb}
use Rattle.std.proofs.lemmas.List.{get_or-set_other}
use Rattle.std.proofs.lemmas.List.Elements.{All-head, All-weaker, All-nil, All-cons, All-append, All-map}
use Rattle.node.specs.Changes.{branch_to, post_child, post_parent, post_sibling, rekeyed}
use Rattle.node.specs.Pages.{Page}
use Rattle.node.specs.declared.branch.Branch.{Branch}
use Rattle.page_table.proofs.Counting.{false_true, named_branch, one-different, one-equal}
use Rattle.page_table.proofs.Facts.{Settled, sibling_settled}
use Rattle.page_table.proofs.PageLists.{is_or_not, replaced-length}
use Rattle.page_table.proofs.Under.{All-both}
use Rattle.page_table.proofs.Weights.{weigh-append, weigh-set, weigh_one}
use Rattle.key_class.specs.Rules.{KeyLaws}
use Rattle.page_table.specs.Soundness.{BoundsBelow, IsBelow, IsBounded, IsReached, IsRoot, IsShaped, IsSound, IsWithin}
use Rattle.page_table.specs.Trees.{Falls, IsRanked, Tree, linking, naming, no_page, owing, page_at, pages_under, replaced}
use Rattle.page_table.specs.Weights.{one_if_equal, weigh}
use Rattle.split.proofs.CanPost.{below_some}
use Rattle.split.proofs.Post.{All-rekeyed, post-length, post_pages, weigh-rekeyed}
use Rattle.split.proofs.PostUnder.{child_not_parent, post_ranked, post_under_new, sibling_falls, sibling_not_child, sibling_not_parent}
use Rattle.split.specs.Steps.{CanPost, after_post}

pub replaced_total : {K : Type 0} (t : Tree K) (p : ℕ) (page : Page K) → p < length t.pages → (f : Page K → ℕ) → weigh f (replaced t p page).pages + f (page_at t p) ≡ weigh f t.pages + f page
replaced_total t p page l f = weigh-set f t.pages p page no_page l

module _ {K : Type 0} (is_cover : K → K → Bool) (union : K → K → K) (laws : KeyLaws is_cover union) (t : Tree K) (fan : ℕ) (sound : IsSound is_cover fan t) (p c s : ℕ) (can : CanPost t p c s)
    (room : length (page_at t p).rows + length (page_at t p).branches < fan) where
  abbrev n : ℕ
  n = length t.pages

  abbrev rank : ℕ → ℕ
  rank = sound.rank

  abbrev r : IsRanked t rank
  r = sound.ranked

  abbrev t' : Tree K
  t' = after_post t p c s

  abbrev parent : Page K
  parent = post_parent (page_at t p) c (page_at t c).cover s (page_at t s).cover

  abbrev child : Page K
  child = post_child (page_at t c) (suc t.counter)

  abbrev sibling : Page K
  sibling = post_sibling (page_at t s)

  lc : c < n
  lc = can.child_exists

  ls : s < n
  ls = (sibling_falls t rank r p c s can).0

  pub settled : Settled is_cover t fan sound s
  settled = sibling_settled is_cover t fan sound c s lc can.child_owed can.sibling

  c_p : (c ≡ p) → ⊥
  c_p = child_not_parent t rank r p c s can (λ x. x)

  s_p : (s ≡ p) → ⊥
  s_p = sibling_not_parent t rank r p c s can (λ x. x)

  s_c : (s ≡ c) → ⊥
  s_c = sibling_not_child t rank r p c s can (λ x. x)

  pub post_total : (f : Page K → ℕ) → weigh f t'.pages + (f (page_at t p) + (f (page_at t c) + f (page_at t s))) ≡ weigh f t.pages + (f parent + (f child + f sibling))
  unfolding after_post
  post_total f =
      let t1 : Tree K = replaced t s sibling in
      let t2 : Tree K = replaced t1 c child in
      let l1 : c < length t1.pages = subst (λ k. c < k) (sym (replaced-length t s sibling)) lc in
      let l2 : p < length t2.pages = subst (λ k. p < k) (sym (replaced-length t1 c child ∙ replaced-length t s sibling)) can.parent_exists in
      let e1 : weigh f t1.pages + f (page_at t s) ≡ weigh f t.pages + f sibling = replaced_total t s sibling ls f in
      let e2 : weigh f t2.pages + f (page_at t1 c) ≡ weigh f t1.pages + f child = replaced_total t1 c child l1 f in
      let e3 : weigh f (replaced t2 p parent).pages + f (page_at t2 p) ≡ weigh f t2.pages + f parent = replaced_total t2 p parent l2 f in
      let a1 : f (page_at t1 c) ≡ f (page_at t c) = ap f (get_or-set_other t.pages s c sibling no_page (λ e. s_c (sym e))) in
      let a2 : f (page_at t2 p) ≡ f (page_at t p) = ap f (get_or-set_other t1.pages c p child no_page (λ e. c_p (sym e)) ∙ get_or-set_other t.pages s p sibling no_page (λ e. s_p (sym e))) in
      omega (arith, e1, e2, e3, a1, a2)

  new_naming : (q : ℕ) (o : Option K) → (k : K) × (o ≡ Some k) → naming q (branch_to s o) ≡ one_if_equal s q
  new_naming q None w = cc w.1
  new_naming q (Some k) w = weigh_one (λ x. one_if_equal x q) s

  names_more : (q : ℕ) → weigh (λ page. naming q page.branches) t'.pages ≡ weigh (λ page. naming q page.branches) t.pages + one_if_equal s q
  names_more q =
      let e1 = post_total (λ page. naming q page.branches) in
      let e2 : naming q parent.branches ≡ naming q (map (rekeyed c (page_at t c).cover) (page_at t p).branches) + naming q (branch_to s (page_at t s).cover)
      = weigh-append (λ (b : Branch K). one_if_equal b.child q) (map (rekeyed c (page_at t c).cover) (page_at t p).branches) (branch_to s (page_at t s).cover) in
      let e3 : naming q (map (rekeyed c (page_at t c).cover) (page_at t p).branches) ≡ naming q (page_at t p).branches = weigh-rekeyed (λ x. one_if_equal x q) c (page_at t c).cover (page_at t p).branches in
      omega (arith, e1, e2, e3, new_naming q (page_at t s).cover can.sibling_bound)

  owing_child : (q : ℕ) → owing q (page_at t c) ≡ one_if_equal s q
  owing_child q = ap₂ (λ o x. cond o (weigh (λ y. one_if_equal y q) (option_to_list x)) 0) can.child_owed can.sibling ∙ weigh_one (λ y. one_if_equal y q) s

  owes_less : (q : ℕ) → weigh (λ page. owing q page) t'.pages + one_if_equal s q ≡ weigh (λ page. owing q page) t.pages
  owes_less q = omega (arith, post_total (λ page. owing q page), owing_child q)

  links_same : (q : ℕ) → weigh (λ page. linking q page) t'.pages ≡ weigh (λ page. linking q page) t.pages
  links_same q = omega (arith, post_total (λ page. linking q page))

  root_not_child : (0 ≡ c) → ⊥
  root_not_child e = false_true (page_at t 0).owed (sound.root.not_owed) (subst (λ x. (page_at t x).owed ≡ true) (sym e) can.child_owed)

  met_once : (q : ℕ) → q < n → weigh (λ x. one_if_equal x q) (pages_under t' 0 (suc t.counter)) ≡ 1
  met_once q k = post_under_new t rank r p c s can (λ x. one_if_equal x q) 0 sound.root_exists root_not_child ∙ (sound.reached q k).once

  reached_same : (q : ℕ) → q < n → ((q ≡ s) → ⊥) → (page' : Page K) → page'.hung ≡ (page_at t q).hung → (page'.hung ≡ false → page'.owed ≡ false) → IsReached t' q page'
  unfolding after_post
  reached_same q k d page' eh st = let w : IsReached t q (page_at t q) = sound.reached q k in
      let z : one_if_equal s q ≡ 0 = one-different s q (λ e. d (sym e)) in record {
        named = omega (arith, names_more q, z) ∙ w.named ∙ ap (λ b. cond b 1 0) (sym eh);
        owed_by = omega (arith, owes_less q, z) ∙ w.owed_by ∙ ap (λ b. cond b 0 1) (sym eh);
        settled = st;
        linked_by = λ u. links_same q ∙ w.linked_by (sym eh ∙ u);
        once = met_once q k;
      }

  reached_sibling : IsReached t' s sibling
  unfolding after_post
  reached_sibling = let w : IsReached t s (page_at t s) = sound.reached s ls in
      let z : one_if_equal s s ≡ 1 = one-equal s s refl in record {
        named = omega (arith, names_more s, z, w.named, ap (λ b. let f : Bool → ℕ = λ x. cond x 1 0 in f b) settled.1);
        owed_by = omega (arith, owes_less s, z, w.owed_by, ap (λ b. let f : Bool → ℕ = λ x. cond x 0 1 in f b) settled.1);
        settled = λ u. absurd (false_true true u refl);
        linked_by = λ u. absurd (false_true true u refl);
        once = met_once s ls;
      }

  -- levels and covers are those before
  level_kept : (q : ℕ) → q < n → (page_at t' q).level ≡ (page_at t q).level
  level_kept q k = post_pages t p c s (λ x page. page.level ≡ (page_at t x).level) can.parent_exists lc ls refl refl refl (λ x l a b d. refl) q k

  cover_kept : (q : ℕ) → q < n → (page_at t' q).cover ≡ (page_at t q).cover
  cover_kept q k = post_pages t p c s (λ x page. page.cover ≡ (page_at t x).cover) can.parent_exists lc ls refl refl refl (λ x l a b d. refl) q k

  along_kept : (q : ℕ) → q < n → (m : ℕ) → All (λ x. (page_at t x).level ≡ m) (option_to_list (page_at t q).right) → All (λ x. (page_at t' x).level ≡ m) (option_to_list (page_at t q).right)
  along_kept q k m h = All-both (λ x. Falls n rank q x) (λ x. (page_at t x).level ≡ m) (λ x. (page_at t' x).level ≡ m) (λ x f e. level_kept x f.0 ∙ e) _ ((r.links q k).along) h

  down_kept : (q : ℕ) → q < n → (m : ℕ) → All (λ (b : Branch K). suc (page_at t b.child).level ≡ m) (page_at t q).branches → All (λ (b : Branch K). suc (page_at t' b.child).level ≡ m) (page_at t q).branches
  down_kept q k m h = All-both (λ (b : Branch K). Falls n rank q b.child) (λ (b : Branch K). suc (page_at t b.child).level ≡ m) (λ (b : Branch K). suc (page_at t' b.child).level ≡ m) (λ b f e. ap suc (level_kept b.child f.0) ∙ e) _ ((r.links q k).down) h

  -- the entry for c: it and the two covers below it
  abbrev EntryFacts : Branch K → Type 0
  EntryFacts b = IsWithin is_cover (page_at t p).cover b.key × BoundsBelow is_cover t b × (suc (page_at t b.child).level ≡ (page_at t p).level)

  entry : (b : Branch K) × (b.child ≡ c) × EntryFacts b
  entry = named_branch (λ b. EntryFacts b) c (page_at t p).branches (omega (arith, can.once))
      (All-both (λ (b : Branch K). IsWithin is_cover (page_at t p).cover b.key × BoundsBelow is_cover t b) (λ (b : Branch K). suc (page_at t b.child).level ≡ (page_at t p).level) (λ b. EntryFacts b) (λ b u v. (u.0, u.1, v)) (page_at t p).branches
      (All-both (λ (b : Branch K). IsWithin is_cover (page_at t p).cover b.key) (λ (b : Branch K). BoundsBelow is_cover t b) (λ (b : Branch K). IsWithin is_cover (page_at t p).cover b.key × BoundsBelow is_cover t b) (λ b u v. (u, v)) (page_at t p).branches
      ((sound.bounded p can.parent_exists).branches) ((sound.bounded p can.parent_exists).below))
      ((sound.shape p can.parent_exists).level_down))

  parent_level : suc (page_at t s).level ≡ (page_at t p).level
  parent_level =
      let a : (page_at t s).level ≡ (page_at t c).level = All-head (λ x. (page_at t x).level ≡ (page_at t c).level) s [] (subst (λ o. All (λ x. (page_at t x).level ≡ (page_at t c).level) (option_to_list o)) can.sibling ((sound.shape c lc).level_along)) in
      ap suc a ∙ subst (λ x. suc (page_at t x).level ≡ (page_at t p).level) entry.1 entry.2.2

  -- what covers a key covers all that the key covers
  within_trans : (o : Option K) (k l : K) → IsWithin is_cover o k → is_cover k l ≡ true → IsWithin is_cover o l
  within_trans None k l w h = tt
  within_trans (Some bound) k l w h = laws.through bound k l w h

  length_new : (o : Option K) → length (branch_to s o) ≤ 1
  length_new None = omega arith
  length_new (Some k) = omega arith

  new_level : (o : Option K) → All (λ (b : Branch K). suc (page_at t' b.child).level ≡ (page_at t p).level) (branch_to s o)
  new_level None = All-nil _
  new_level (Some k) = All-cons (λ (b : Branch K). suc (page_at t' b.child).level ≡ (page_at t p).level) (record { key = k; child = s }) [] (ap suc (level_kept s ls) ∙ parent_level) (All-nil _)

  parent_shape : IsShaped t' fan parent
  unfolding after_post
  parent_shape = let w : IsShaped t fan (page_at t p) = sound.shape p can.parent_exists in record {
    number = omega (arith, w.number);
    link = w.link;
    level_along = along_kept p can.parent_exists (page_at t p).level w.level_along;
    level_down = All-append (λ (b : Branch K). suc (page_at t' b.child).level ≡ (page_at t p).level) (map (rekeyed c (page_at t c).cover) (page_at t p).branches) (branch_to s (page_at t s).cover)
        (All-rekeyed (λ x. suc (page_at t' x).level ≡ (page_at t p).level) c (page_at t c).cover (page_at t p).branches (down_kept p can.parent_exists (page_at t p).level w.level_down))
        (new_level (page_at t s).cover);
    leaf = λ e. absurd (omega (arith, parent_level, e));
    inner = w.inner;
    fits = omega (arith, room, length-append (map (rekeyed c (page_at t c).cover) (page_at t p).branches) (branch_to s (page_at t s).cover), length-map (page_at t p).branches (rekeyed c (page_at t c).cover), length_new (page_at t s).cover);
    low = omega (arith, w.low, post-length t p c s);
    branched = λ l. omega (arith, w.branched l, length-append (map (rekeyed c (page_at t c).cover) (page_at t p).branches) (branch_to s (page_at t s).cover), length-map (page_at t p).branches (rekeyed c (page_at t c).cover));
  }

  plain_shape : (q : ℕ) (k : q < n) (page' : Page K) → page'.nsn ≤ suc t.counter → page'.level ≡ (page_at t q).level → page'.right ≡ (page_at t q).right → page'.branches ≡ (page_at t q).branches → page'.rows ≡ (page_at t q).rows →
      ((page'.owed ≡ true) ⊎ (0 < page'.nsn) → (x : ℕ) × (page'.right ≡ Some x)) → IsShaped t' fan page'
  unfolding after_post
  plain_shape q k page' en el er eb ew link = let w : IsShaped t fan (page_at t q) = sound.shape q k in record {
    number = en;
    link = link;
    level_along = subst (λ o. All (λ x. (page_at t' x).level ≡ page'.level) (option_to_list o)) (sym er) (along_kept q k page'.level (subst (λ m. All (λ x. (page_at t x).level ≡ m) (option_to_list (page_at t q).right)) (sym el) w.level_along));
    level_down = subst (λ bs. All (λ (b : Branch K). suc (page_at t' b.child).level ≡ page'.level) bs) (sym eb) (down_kept q k page'.level (subst (λ m. All (λ (b : Branch K). suc (page_at t b.child).level ≡ m) (page_at t q).branches) (sym el) w.level_down));
    leaf = λ e. eb ∙ w.leaf (sym el ∙ e);
    inner = λ l. ew ∙ w.inner (subst (λ m. 0 < m) el l);
    fits = omega (arith, w.fits, ap length eb, ap length ew);
    low = omega (arith, w.low, el, post-length t p c s);
    branched = λ l. omega (arith, w.branched (subst (λ m. 0 < m) el l), ap length eb);
  }

  -- the marks of owing after the posting
  links_kept : (q : ℕ) → q < n → ((q ≡ c) → ⊥) → ((page_at t' q).owed ≡ (page_at t q).owed) × ((page_at t' q).right ≡ (page_at t q).right)
  links_kept q k d = post_pages t p c s (λ x page. ((x ≡ c) → ⊥) → (page.owed ≡ (page_at t x).owed) × (page.right ≡ (page_at t x).right)) can.parent_exists lc ls
      (λ d. (refl, refl)) (λ d. absurd (d refl)) (λ d. (refl, refl)) (λ x l a b e d. (refl, refl)) q k d

  child_settled : (page_at t' c).owed ≡ false
  child_settled = post_pages t p c s (λ x page. (x ≡ c) → page.owed ≡ false) can.parent_exists lc ls (λ e. absurd (c_p (sym e))) (λ e. refl) (λ e. absurd (s_c e)) (λ x l a b d e. absurd (b e)) c lc refl

  -- an entry of another child
  branch_kept : (b : Branch K) → b.child < n → ((b.child ≡ c) → ⊥) → BoundsBelow is_cover t b → BoundsBelow is_cover t' b
  branch_kept b k d w = let same = links_kept b.child k d in record {
    child = subst (λ o. IsBelow is_cover b.key o) (sym (cover_kept b.child k)) w.child;
    sibling = λ o. let o' : (page_at t b.child).owed ≡ true = sym same.0 ∙ o in
        subst (λ x. All (λ y. IsBelow is_cover b.key (page_at t' y).cover) (option_to_list x)) (sym same.1)
        (All-both (λ y. IsBelow is_cover b.key (page_at t y).cover) (λ y. Falls n rank b.child y) (λ y. IsBelow is_cover b.key (page_at t' y).cover)
        (λ y u f. subst (λ x. IsBelow is_cover b.key x) (sym (cover_kept y f.0)) u) (option_to_list (page_at t b.child).right) (w.sibling o') ((r.links b.child k).along));
  }

  -- an entry whose key is its child's cover, where the child is not owed
  branch_exact : (k : K) (q : ℕ) → q < n → (page_at t q).cover ≡ Some k → (page_at t' q).owed ≡ false → BoundsBelow is_cover t' (record { key = k; child = q })
  branch_exact k q l e o = record {
    child = subst (λ x. IsBelow is_cover k x) (sym (cover_kept q l ∙ e)) (laws.itself k);
    sibling = λ f. absurd (false_true (page_at t' q).owed o f);
  }

  abbrev NewFacts : Branch K → Type 0
  NewFacts b = IsWithin is_cover (page_at t p).cover b.key × BoundsBelow is_cover t' b

  cover_below : (key : K) (o : Option K) (k : K) → o ≡ Some k → IsBelow is_cover key o → is_cover key k ≡ true
  cover_below key o k e b = subst (λ x. IsBelow is_cover key x) e b

  rekeyed-at : (k : K) (b : Branch K) → b.child ≡ c → rekeyed c (Some k) b ≡ record { key = k; child = b.child }
  rekeyed-at k b e = let f : Bool → Branch K = λ x. cond x (record { key = k; child = b.child }) b in ap f (eq-eqb b.child c e)

  rekeyed-off : (o : Option K) (b : Branch K) → ((b.child ≡ c) → ⊥) → rekeyed c o b ≡ b
  rekeyed-off None b d = refl
  rekeyed-off (Some k) b d = let f : Bool → Branch K = λ x. cond x (record { key = k; child = b.child }) b in ap f (ne_eqb b.child c d)

  child_bound : (k : K) × ((page_at t c).cover ≡ Some k)
  child_bound = subst (λ x. (k : K) × ((page_at t x).cover ≡ Some k)) entry.1 (below_some is_cover entry.0.key (page_at t entry.0.child).cover (entry.2.1.child))

  rekeyed_facts : (b : Branch K) → b.child < n → EntryFacts b → NewFacts (rekeyed c (page_at t c).cover b)
  rekeyed_facts b l w = elim (is_or_not b.child c) [
    | inl e ↦ (let k : K = child_bound.0 in
        let eb : (page_at t b.child).cover ≡ Some k = subst (λ x. (page_at t x).cover ≡ Some k) (sym e) child_bound.1 in
        let made : NewFacts (record { key = k; child = b.child }) = (
          within_trans (page_at t p).cover b.key k w.0 (cover_below b.key (page_at t b.child).cover k eb (w.1.child)),
          branch_exact k b.child l eb (subst (λ x. (page_at t' x).owed ≡ false) (sym e) child_settled),
        ) in
        subst (λ x. NewFacts x) (sym (ap (λ o. rekeyed c o b) child_bound.1 ∙ rekeyed-at k b e)) made)
    | inr d ↦ subst (λ x. NewFacts x) (sym (rekeyed-off (page_at t c).cover b d)) (w.0, branch_kept b l d w.1)
  ]

  sibling_facts : (o : Option K) → (page_at t s).cover ≡ o → All (λ b. NewFacts b) (branch_to s o)
  sibling_facts None e = All-nil (λ b. NewFacts b)
  sibling_facts (Some k) e =
      let owed : (page_at t entry.0.child).owed ≡ true = subst (λ x. (page_at t x).owed ≡ true) (sym entry.1) can.child_owed in
      let right : (page_at t entry.0.child).right ≡ Some s = subst (λ x. (page_at t x).right ≡ Some s) (sym entry.1) can.sibling in
      let below : IsBelow is_cover entry.0.key (page_at t s).cover = All-head (λ x. IsBelow is_cover entry.0.key (page_at t x).cover) s []
      (subst (λ o. All (λ x. IsBelow is_cover entry.0.key (page_at t x).cover) (option_to_list o)) right (entry.2.1.sibling owed)) in
      All-cons (λ b. NewFacts b) (record { key = k; child = s }) [] (
        within_trans (page_at t p).cover entry.0.key k entry.2.0 (cover_below entry.0.key (page_at t s).cover k e below),
        branch_exact k s ls e ((links_kept s ls s_c).0 ∙ settled.2),
      )
      (All-nil (λ b. NewFacts b))

  parent_facts : All (λ b. NewFacts b) parent.branches
  parent_facts = All-append (λ b. NewFacts b) (map (rekeyed c (page_at t c).cover) (page_at t p).branches) (branch_to s (page_at t s).cover)
      (All-map (λ b. NewFacts b) (rekeyed c (page_at t c).cover) (page_at t p).branches
      (All-both (λ (b : Branch K). Falls n rank p b.child) (λ (b : Branch K). EntryFacts b) (λ (b : Branch K). NewFacts (rekeyed c (page_at t c).cover b)) (λ b f w. rekeyed_facts b f.0 w) (page_at t p).branches ((r.links p can.parent_exists).down)
      (All-both (λ (b : Branch K). IsWithin is_cover (page_at t p).cover b.key × BoundsBelow is_cover t b) (λ (b : Branch K). suc (page_at t b.child).level ≡ (page_at t p).level) (λ b. EntryFacts b) (λ b u v. (u.0, u.1, v)) (page_at t p).branches
      (All-both (λ (b : Branch K). IsWithin is_cover (page_at t p).cover b.key) (λ (b : Branch K). BoundsBelow is_cover t b) (λ (b : Branch K). IsWithin is_cover (page_at t p).cover b.key × BoundsBelow is_cover t b) (λ b u v. (u, v)) (page_at t p).branches
      ((sound.bounded p can.parent_exists).branches) ((sound.bounded p can.parent_exists).below))
      ((sound.shape p can.parent_exists).level_down))))
      (sibling_facts (page_at t s).cover refl)

  below_kept : (q : ℕ) → q < n → ((q ≡ p) → ⊥) → All (λ b. BoundsBelow is_cover t' b) (page_at t q).branches
  below_kept q k d = All-both (λ (b : Branch K). (b.child < n) × ((b.child ≡ c) → ⊥)) (λ (b : Branch K). BoundsBelow is_cover t b) (λ (b : Branch K). BoundsBelow is_cover t' b) (λ b f w. branch_kept b f.0 f.1 w) (page_at t q).branches
      (All-both (λ (b : Branch K). Falls n rank q b.child) (λ (b : Branch K). (b.child ≡ c) → ⊥) (λ (b : Branch K). (b.child < n) × ((b.child ≡ c) → ⊥)) (λ b f g. (f.0, g)) (page_at t q).branches ((r.links q k).down) (can.nowhere_else q k d))
      ((sound.bounded q k).below)

  posted_kept : weigh (λ page. cond page.hung 0 1) t'.pages + t'.counter < length t'.pages
  unfolding after_post
  posted_kept =
      let f : Bool → ℕ = λ h. cond h 0 1 in
      omega (arith, post_total (λ page. cond page.hung 0 1), ap f settled.1, post-length t p c s, sound.posted)

  pub post_sound : IsSound is_cover fan t'
  post_sound = record {
    rank = rank;
    ranked = post_ranked t rank r p c s can;
    root_exists = subst (λ m. 0 < m) (sym (post-length t p c s)) sound.root_exists;
    root = post_pages t p c s (λ x page. (x ≡ 0) → IsRoot page) can.parent_exists lc ls
        (λ e. let w : IsRoot (page_at t p) = subst (λ x. IsRoot (page_at t x)) (sym e) sound.root in record { number = w.number; no_right = w.no_right; not_owed = w.not_owed; hung = w.hung; no_cover = w.no_cover })
        (λ e. absurd (root_not_child (sym e)))
        (λ e. let w : IsRoot (page_at t s) = subst (λ x. IsRoot (page_at t x)) (sym e) sound.root in record { number = w.number; no_right = w.no_right; not_owed = w.not_owed; hung = refl; no_cover = w.no_cover })
        (λ x l a b d e. subst (λ x. IsRoot (page_at t x)) (sym e) sound.root)
        0 sound.root_exists refl;
    no_link_to_root = links_same 0 ∙ sound.no_link_to_root;
    posted = posted_kept;
    shape = λ q h. post_pages t p c s (λ q page. IsShaped t' fan page) can.parent_exists lc ls
        parent_shape
        (plain_shape c lc child (new_number child.nsn refl) refl refl refl refl (λ o. (s, can.sibling)))
        (plain_shape s ls sibling (old_number s ls) refl refl refl refl ((sound.shape s ls).link))
        (λ q k a b d. plain_shape q k (page_at t q) (old_number q k) refl refl refl refl ((sound.shape q k).link))
        q (subst (λ m. q < m) (post-length t p c s) h);
    reached = λ q h. post_pages t p c s (λ q page. IsReached t' q page) can.parent_exists lc ls
        (reached_same p can.parent_exists (λ e. s_p (sym e)) parent refl ((sound.reached p can.parent_exists).settled))
        (reached_same c lc (λ e. s_c (sym e)) child refl (λ u. refl))
        reached_sibling
        (λ q k a b d. reached_same q k d (page_at t q) refl ((sound.reached q k).settled))
        q (subst (λ m. q < m) (post-length t p c s) h);
    bounded = λ q h. post_pages t p c s (λ q page. IsBounded is_cover t' page) can.parent_exists lc ls
        (record {
          rows = (sound.bounded p can.parent_exists).rows;
          branches = All-weaker (λ b. NewFacts b) (λ (b : Branch K). IsWithin is_cover (page_at t p).cover b.key) (λ b w. w.0) parent.branches parent_facts;
          below = All-weaker (λ b. NewFacts b) (λ (b : Branch K). BoundsBelow is_cover t' b) (λ b w. w.1) parent.branches parent_facts;
        })
        (record { rows = (sound.bounded c lc).rows; branches = (sound.bounded c lc).branches; below = below_kept c lc c_p })
        (record { rows = (sound.bounded s ls).rows; branches = (sound.bounded s ls).branches; below = below_kept s ls s_p })
        (λ q k a b d. record { rows = (sound.bounded q k).rows; branches = (sound.bounded q k).branches; below = below_kept q k a })
        q (subst (λ m. q < m) (post-length t p c s) h);
  }
    where
      new_number : (x : ℕ) → x ≡ suc t.counter → x ≤ suc t.counter
      new_number x e = omega arith

      old_number : (q : ℕ) → q < n → (page_at t q).nsn ≤ suc t.counter
      old_number q k = omega (arith, (sound.shape q k).number)
