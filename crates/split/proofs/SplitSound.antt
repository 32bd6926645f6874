-- A split keeps the tree sound.
use Rattle.std.proofs.Common.{ℕ, suc, ◌+◌, ◌<◌, ◌≡◌, List, [], length, option_to_list, All, refl, ap, arith, sym, ◌∙◌, subst, cond, Bool, true, false, ◌⊎◌, inl, inr}
use Rattle.std.proofs.lemmas.List.Elements.{All-weaker, All-nil, All-cons}
use Rattle.key_class.specs.declared.sides.Side.{Side}
use Rattle.node.proofs.PartEnds.{left_part-nil, right_part-nil}
use Rattle.node.specs.Changes.{split_left, split_right}
use Rattle.node.specs.Pages.{Page, keys_of}
use Rattle.node.specs.Parts.{left_part, right_part}
use Rattle.node.specs.declared.branch.Branch.{Branch}
use Rattle.page_table.proofs.Counting.{false_true, one-different}
use Rattle.page_table.proofs.Facts.{Settled, siblings_settled}
use Rattle.page_table.proofs.PageLists.{is_or_not}
use Rattle.page_table.proofs.Pruning.{within_below}
use Rattle.page_table.proofs.Under.{All-both}
use Rattle.key_class.specs.Rules.{KeyLaws}
use Rattle.page_table.specs.Soundness.{BoundsBelow, IsBelow, IsBounded, IsRoot, IsShaped, IsSound, IsWithin}
use Rattle.page_table.specs.Trees.{Falls, IsRanked, Tree, page_at}
use Rattle.page_table.specs.Weights.{weigh}
use Rattle.row_version.specs.Entries.{Entry}
use Rattle.split.proofs.Bounds.{branches_within, keys_covered, rows_within, union_below}
use Rattle.split.proofs.Halves.{some_branch}
use Rattle.split.proofs.PartWeights.{All-left_part, All-right_part, length-parts}
use Rattle.split.proofs.Split.{split-length, split_pages, split_rank, split_ranked}
use Rattle.split.proofs.SplitReached.{links_more, split_reached, split_total}
use Rattle.split.specs.Steps.{CanSplit, after_split}

module _ {K : Type 0} (is_cover : K → K → Bool) (union : K → K → K) (laws : KeyLaws is_cover union) (t : Tree K) (fan : ℕ) (sound : IsSound is_cover fan t) (p : ℕ) (sides : List Side) (can : CanSplit t p sides) where
  abbrev s : ℕ
  s = length t.pages

  abbrev page : Page K
  page = page_at t p

  abbrev t' : Tree K
  t' = after_split union t p sides

  abbrev left : Page K
  left = split_left union page sides s

  abbrev right : Page K
  right = split_right union page sides

  at_left : page_at t' p ≡ left
  at_left = split_pages union t p sides (λ q x. (q ≡ p) → x ≡ left) can.exists (λ e. refl) (λ e. let k : p < length t.pages = can.exists in absurd (omega arith)) (λ q k n e. absurd (n e)) p (let k : p < length t.pages = can.exists in omega arith) refl

  at_right : page_at t' s ≡ right
  at_right = split_pages union t p sides (λ q x. (q ≡ s) → x ≡ right) can.exists (λ e. let k : p < length t.pages = can.exists in absurd (omega arith)) (λ e. refl) (λ q k n e. absurd (omega arith)) s (omega arith) refl

  at_other : (q : ℕ) → q < s → ((q ≡ p) → ⊥) → page_at t' q ≡ page_at t q
  at_other q k n = split_pages union t p sides (λ q x. (q < s) → ((q ≡ p) → ⊥) → x ≡ page_at t q) can.exists (λ k n. absurd (n refl)) (λ k n. absurd (omega arith)) (λ q k n e f. refl) q (omega arith) k n

  level_kept : (q : ℕ) → q < s → (page_at t' q).level ≡ (page_at t q).level
  level_kept q k = elim (is_or_not q p) [
    | inl e ↦ subst (λ x. (page_at t' x).level ≡ (page_at t x).level) (sym e) (ap (λ x. x.level) at_left)
    | inr n ↦ ap (λ x. x.level) (at_other q k n)
  ]

  abbrev r : IsRanked t sound.rank
  r = sound.ranked

  abbrev old : IsShaped t fan page
  old = sound.shape p can.exists

  -- levels of the targets of old links
  along_kept : (q : ℕ) → q < s → (n : ℕ) → All (λ x. (page_at t x).level ≡ n) (option_to_list (page_at t q).right) → All (λ x. (page_at t' x).level ≡ n) (option_to_list (page_at t q).right)
  along_kept q k n h = All-both (λ x. Falls s sound.rank q x) (λ x. (page_at t x).level ≡ n) (λ x. (page_at t' x).level ≡ n) (λ x f e. level_kept x f.0 ∙ e) _ ((r.links q k).along) h

  down_kept : (q : ℕ) → q < s → (n : ℕ) → All (λ (b : Branch K). suc (page_at t b.child).level ≡ n) (page_at t q).branches → All (λ (b : Branch K). suc (page_at t' b.child).level ≡ n) (page_at t q).branches
  down_kept q k n h = All-both (λ (b : Branch K). Falls s sound.rank q b.child) (λ (b : Branch K). suc (page_at t b.child).level ≡ n) (λ (b : Branch K). suc (page_at t' b.child).level ≡ n) (λ b f e. ap suc (level_kept b.child f.0) ∙ e) _ ((r.links q k).down) h

  left_shape : IsShaped t' fan left
  unfolding after_split
  left_shape = record {
    number = old.number;
    link = λ _. (s, refl);
    level_along = All-cons (λ x. (page_at t' x).level ≡ page.level) s [] (ap (λ x. x.level) at_right) (All-nil _);
    level_down = All-left_part (λ (b : Branch K). suc (page_at t' b.child).level ≡ page.level) sides page.branches (down_kept p can.exists page.level old.level_down);
    leaf = λ e. ap (left_part sides) (old.leaf e) ∙ left_part-nil sides;
    inner = λ e. ap (left_part sides) (old.inner e) ∙ left_part-nil sides;
    fits = omega (arith, old.fits, length-parts sides page.rows, length-parts sides page.branches);
    low = omega (arith, old.low, split-length union t p sides);
    branched = λ e. some_branch (left_part sides page.rows) (left_part sides page.branches) (ap (left_part sides) (old.inner e) ∙ left_part-nil sides) can.some_left;
  }

  right_shape : IsShaped t' fan right
  unfolding after_split
  right_shape = record {
    number = old.number;
    link = λ h. old.link (right_link h);
    level_along = along_kept p can.exists page.level old.level_along;
    level_down = All-right_part (λ (b : Branch K). suc (page_at t' b.child).level ≡ page.level) sides page.branches (down_kept p can.exists page.level old.level_down);
    leaf = λ e. ap (right_part sides) (old.leaf e) ∙ right_part-nil sides;
    inner = λ e. ap (right_part sides) (old.inner e) ∙ right_part-nil sides;
    fits = omega (arith, old.fits, length-parts sides page.rows, length-parts sides page.branches);
    low = omega (arith, old.low, split-length union t p sides);
    branched = λ e. some_branch (right_part sides page.rows) (right_part sides page.branches) (ap (right_part sides) (old.inner e) ∙ right_part-nil sides) can.some_right;
  }
    where
      right_link : (false ≡ true) ⊎ (0 < page.nsn) → (page.owed ≡ true) ⊎ (0 < page.nsn)
      right_link (inl e) = absurd (false_true false refl e)
      right_link (inr l) = inr l

  other_shape : (q : ℕ) → q < s → IsShaped t' fan (page_at t q)
  unfolding after_split
  other_shape q k = let w : IsShaped t fan (page_at t q) = sound.shape q k in record {
    number = w.number;
    link = w.link;
    level_along = along_kept q k (page_at t q).level w.level_along;
    level_down = down_kept q k (page_at t q).level w.level_down;
    leaf = w.leaf;
    inner = w.inner;
    fits = w.fits;
    low = omega (arith, w.low, split-length union t p sides);
    branched = w.branched;
  }

  -- the covers of both halves lie below a key that is above the old cover
  abbrev bounds : IsBounded is_cover t page
  bounds = sound.bounded p can.exists

  left_below : (key : K) → IsBelow is_cover key page.cover → IsBelow is_cover key left.cover
  left_below key h = union_below is_cover union laws key (keys_of (left_part sides page.rows) (left_part sides page.branches)) can.some_left
      (keys_covered is_cover union laws key (left_part sides page.rows) (left_part sides page.branches)
      (All-left_part (λ (e : Entry K). is_cover key e.key ≡ true) sides page.rows (All-weaker (λ (e : Entry K). IsWithin is_cover page.cover e.key) (λ (e : Entry K). is_cover key e.key ≡ true) (λ e w. within_below is_cover laws.through key page.cover e.key h w) page.rows bounds.rows))
      (All-left_part (λ (b : Branch K). is_cover key b.key ≡ true) sides page.branches (All-weaker (λ (b : Branch K). IsWithin is_cover page.cover b.key) (λ (b : Branch K). is_cover key b.key ≡ true) (λ b w. within_below is_cover laws.through key page.cover b.key h w) page.branches bounds.branches)))

  right_below : (key : K) → IsBelow is_cover key page.cover → IsBelow is_cover key right.cover
  right_below key h = union_below is_cover union laws key (keys_of (right_part sides page.rows) (right_part sides page.branches)) can.some_right
      (keys_covered is_cover union laws key (right_part sides page.rows) (right_part sides page.branches)
      (All-right_part (λ (e : Entry K). is_cover key e.key ≡ true) sides page.rows (All-weaker (λ (e : Entry K). IsWithin is_cover page.cover e.key) (λ (e : Entry K). is_cover key e.key ≡ true) (λ e w. within_below is_cover laws.through key page.cover e.key h w) page.rows bounds.rows))
      (All-right_part (λ (b : Branch K). is_cover key b.key ≡ true) sides page.branches (All-weaker (λ (b : Branch K). IsWithin is_cover page.cover b.key) (λ (b : Branch K). is_cover key b.key ≡ true) (λ b w. within_below is_cover laws.through key page.cover b.key h w) page.branches bounds.branches)))

  -- an entry's bounds stay true
  branch_kept : (b : Branch K) → b.child < s → BoundsBelow is_cover t b → BoundsBelow is_cover t' b
  branch_kept b k w = elim (is_or_not b.child p) [
    | inl e ↦ (let below : IsBelow is_cover b.key page.cover = subst (λ x. IsBelow is_cover b.key (page_at t x).cover) e w.child in record {
      child = subst (λ x. IsBelow is_cover b.key (page_at t' x).cover) (sym e) (subst (λ x. IsBelow is_cover b.key x.cover) (sym at_left) (left_below b.key below));
      sibling = λ o. subst (λ x. All (λ y. IsBelow is_cover b.key (page_at t' y).cover) (option_to_list (page_at t' x).right)) (sym e)
          (subst (λ x. All (λ y. IsBelow is_cover b.key (page_at t' y).cover) (option_to_list x.right)) (sym at_left)
          (All-cons (λ y. IsBelow is_cover b.key (page_at t' y).cover) s [] (subst (λ x. IsBelow is_cover b.key x.cover) (sym at_right) (right_below b.key below)) (All-nil _)));
    })
    | inr n ↦ (let same : page_at t' b.child ≡ page_at t b.child = at_other b.child k n in record {
      child = subst (λ x. IsBelow is_cover b.key x.cover) (sym same) w.child;
      sibling = λ o. let o' : (page_at t b.child).owed ≡ true = subst (λ x. x.owed ≡ true) same o in
          subst (λ x. All (λ y. IsBelow is_cover b.key (page_at t' y).cover) (option_to_list x.right)) (sym same)
          (All-both (λ y. IsBelow is_cover b.key (page_at t y).cover) (λ y. Settled is_cover t fan sound y) (λ y. IsBelow is_cover b.key (page_at t' y).cover)
          (λ y c d. subst (λ x. IsBelow is_cover b.key x.cover) (sym (at_other y d.0 (λ f. false_true (page_at t y).hung d.1 (subst (λ z. (page_at t z).hung ≡ true) (sym f) can.hung)))) c)
          (option_to_list (page_at t b.child).right) (w.sibling o') (siblings_settled is_cover t fan sound b.child k o'));
    })
  ]

  branches_kept : (q : ℕ) → q < s → All (λ b. BoundsBelow is_cover t' b) (page_at t q).branches
  branches_kept q k = All-both (λ (b : Branch K). Falls s sound.rank q b.child) (λ (b : Branch K). BoundsBelow is_cover t b) (λ (b : Branch K). BoundsBelow is_cover t' b) (λ b f w. branch_kept b f.0 w) (page_at t q).branches ((r.links q k).down) ((sound.bounded q k).below)

  posted_kept : weigh (λ page. cond page.hung 0 1) t'.pages + t'.counter < length t'.pages
  unfolding after_split
  posted_kept = omega (arith, split_total union t p sides can.exists (λ page. cond page.hung 0 1), split-length union t p sides, sound.posted)

  pub split_sound : IsSound is_cover fan t'
  split_sound = record {
    rank = split_rank sound.rank p s;
    ranked = split_ranked union t sound.rank p sides r can.exists;
    root_exists = subst (λ n. 0 < n) (sym (split-length union t p sides)) (omega arith);
    root = subst (λ x. IsRoot x) (sym (at_other 0 sound.root_exists root_other)) sound.root;
    no_link_to_root = links_more union t sound.rank r sound.root_exists p sides can.exists can.not_owed can.hung sound.reached 0 ∙ (let k : 0 < length t.pages = sound.root_exists in omega (arith, sound.no_link_to_root, one-different s 0 (λ e. absurd (omega arith))));
    posted = posted_kept;
    shape = λ q h. split_pages union t p sides (λ q page. IsShaped t' fan page) can.exists left_shape right_shape (λ q k n. other_shape q k) q (subst (λ n. q < n) (split-length union t p sides) h);
    reached = split_reached union t sound.rank r sound.root_exists p sides can.exists can.not_owed can.hung sound.reached;
    bounded = λ q h. split_pages union t p sides (λ q page. IsBounded is_cover t' page) can.exists
        (record {
          rows = rows_within is_cover union laws (left_part sides page.rows) (left_part sides page.branches);
          branches = branches_within is_cover union laws (left_part sides page.rows) (left_part sides page.branches);
          below = All-left_part (λ (b : Branch K). BoundsBelow is_cover t' b) sides page.branches (branches_kept p can.exists);
        })
        (record {
          rows = rows_within is_cover union laws (right_part sides page.rows) (right_part sides page.branches);
          branches = branches_within is_cover union laws (right_part sides page.rows) (right_part sides page.branches);
          below = All-right_part (λ (b : Branch K). BoundsBelow is_cover t' b) sides page.branches (branches_kept p can.exists);
        })
        (λ q k n. record { rows = (sound.bounded q k).rows; branches = (sound.bounded q k).branches; below = branches_kept q k })
        q (subst (λ n. q < n) (split-length union t p sides) h);
  }
    where
      root_other : (0 ≡ p) → ⊥
      root_other e = can.not_root (sym e)
