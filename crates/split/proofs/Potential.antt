-- No step that moves entries raises the potential of a tree, and a leaf's new rows raise it by as many as they are more.
use Rattle.std.proofs.Common.{◌≡◌, ℕ, suc, ◌+◌, ◌*◌, ◌<◌, ◌≤◌, Bool, cond, List, [], ◌∷◌, length, map, count_by, Option, Some, None, refl, ap, arith, length-append}
use Rattle.std.proofs.lemmas.List.{length-map}
use Rattle.key_class.specs.Splits.{is_left, is_right}
use Rattle.key_class.specs.declared.sides.Side.{Side}
use Rattle.row_version.specs.Entries.{Entry}
use Rattle.node.specs.Pages.{Page, entries_of}
use Rattle.node.specs.Changes.{branch_to, rekeyed, widened, enlarge_parent, with_rows, split_left, split_right, grown_left, grown_right}
use Rattle.key_class.specs.Rules.{KeyLaws}
use Rattle.page_table.specs.Soundness.{IsSound, IsShaped, IsWithin}
use Rattle.page_table.specs.Trees.{Tree, page_at, naming, new_tree, after_rows}
use Rattle.page_table.specs.Weights.{weigh}
use Rattle.split.specs.Potential.{page_potential, potential}
use Rattle.split.specs.Steps.{after_split, after_post, after_grow, after_enlarge, CanPost, SidesPart}
use Rattle.split.proofs.EnlargeSound.{enlarge_total}
use Rattle.split.proofs.GrowRows.{can_grow, grow_total}
use Rattle.split.proofs.Halves.{part_lengths}
use Rattle.split.proofs.PartWeights.{length-parts}
use Rattle.split.proofs.PostSound.{post_total, replaced_total, settled}
use Rattle.split.proofs.SplitReached.{split_total}

-- every page counts at least one
pages_within_potential : {K : Type 0} (fan : ℕ) (pages : List (Page K)) → length pages ≤ weigh (λ page. page_potential fan page) pages
pages_within_potential fan [] = omega arith
pages_within_potential fan (page ∷ pages) = omega (arith, pages_within_potential fan pages)

pub few_pages : {K : Type 0} (fan : ℕ) (t : Tree K) → length t.pages ≤ potential fan t
unfolding potential
few_pages fan t = pages_within_potential fan t.pages

pub new_potential : (K : Type 0) (fan : ℕ) → 2 ≤ fan → potential fan (new_tree {K = K}) ≤ 1
unfolding potential new_tree
new_potential K fan wide = omega (arith, wide)

-- at most as many rows more
pub rows_potential : {K : Type 0} (fan : ℕ) (t : Tree K) (p : ℕ) (rows : List (Entry K)) (more : ℕ) → p < length t.pages → length rows ≤ length (page_at t p).rows + more → potential fan (after_rows t p rows) ≤ potential fan t + more
unfolding potential after_rows
rows_potential fan t p rows more l few = omega (arith, few, replaced_total t p (with_rows (page_at t p) rows) l (λ page. page_potential fan page))

-- a bound gives one branch at most
one_branch : {K : Type 0} (child : ℕ) (bound : Option K) → length (branch_to child bound) ≤ 1
one_branch child None = omega arith
one_branch child (Some key) = omega arith

module _ {K : Type 0} (union : K → K → K) (t : Tree K) (fan least : ℕ) (two_least : 2 ≤ least) (sides : List Side) where
  -- each part of a full page has two entries fewer at least
  module _ (page : Page K) (sound_page : IsShaped t fan page) (full : fan ≤ entries_of page) (counted : length sides ≡ entries_of page) (enough_left : least ≤ count_by is_left sides) (enough_right : least ≤ count_by is_right sides) where
    parts : (entries_of (split_left union page sides (length t.pages)) + 2 ≤ fan) × (entries_of (split_right union page sides) + 2 ≤ fan)
    parts =
        let lengths = part_lengths t fan page sides sound_page counted in
        let rows = length-parts sides page.rows in
        let branches = length-parts sides page.branches in
        (omega (arith, sound_page.fits, two_least, enough_right, lengths.1, rows, branches), omega (arith, sound_page.fits, two_least, enough_left, lengths.0, rows, branches))

  pub split_potential : (p : ℕ) → p < length t.pages → IsShaped t fan (page_at t p) → fan ≤ entries_of (page_at t p) → length sides ≡ entries_of (page_at t p) → least ≤ count_by is_left sides → least ≤ count_by is_right sides
      → potential fan (after_split union t p sides) ≤ potential fan t
  unfolding potential
  split_potential p l shape full counted enough_left enough_right =
      let few = parts (page_at t p) shape full counted enough_left enough_right in
      omega (arith, full, few.0, few.1, split_total union t p sides l (λ page. page_potential fan page))

  pub grow_potential : (is_cover : K → K → Bool) (sound : IsSound is_cover fan t) (part : SidesPart (page_at t 0) sides) → 2 * least ≤ fan → fan ≤ entries_of (page_at t 0) → length sides ≡ entries_of (page_at t 0) → least ≤ count_by is_left sides → least ≤ count_by is_right sides
      → potential fan (after_grow union t sides) ≤ potential fan t
  unfolding potential
  grow_potential is_cover sound part wide full counted enough_left enough_right =
      let few = parts (page_at t 0) (sound.shape 0 sound.root_exists) full counted enough_left enough_right in
      let first : ℕ = length t.pages in
      let left : Page K = grown_left union (page_at t 0) sides (suc first) in
      let right : Page K = grown_right union (page_at t 0) sides in
      let branches = length-append (branch_to first left.cover) (branch_to (suc first) right.cover) in
      omega (
        arith,
        wide,
        two_least,
        full,
        few.0,
        few.1,
        branches,
        one_branch first left.cover,
        one_branch (suc first) right.cover,
        grow_total union t sound.rank sound.ranked sides (can_grow is_cover union t fan sides sound part) (λ page. page_potential fan page),
      )

module _ {K : Type 0} (is_cover : K → K → Bool) (union : K → K → K) (laws : KeyLaws is_cover union) (t : Tree K) (fan : ℕ) (sound : IsSound is_cover fan t) where
  pub post_potential : (p c s : ℕ) (can : CanPost t p c s) → entries_of (page_at t p) < fan → potential fan (after_post t p c s) ≤ potential fan t
  unfolding potential
  post_potential p c s can room =
      let f : Bool → ℕ = λ h. cond h 0 1 in
      let unhung = settled is_cover union laws t fan sound p c s can room in
      let named = map (rekeyed c (page_at t c).cover) (page_at t p).branches in
      omega (
        arith,
        ap f unhung.1,
        length-append named (branch_to s (page_at t s).cover),
        length-map (page_at t p).branches (rekeyed c (page_at t c).cover),
        one_branch s (page_at t s).cover,
        post_total is_cover union laws t fan sound p c s can room (λ page. page_potential fan page),
      )

  pub enlarge_potential : (p c : ℕ) (key : K) → p < length t.pages → 0 < naming c (page_at t p).branches → IsWithin is_cover (page_at t p).cover key → potential fan (after_enlarge union t p c key) ≤ potential fan t
  unfolding potential
  enlarge_potential p c key l named covered =
      let wider = enlarge_parent union c key (page_at t p) in
      let same : page_potential fan wider ≡ page_potential fan (page_at t p) = omega (arith, length-map (page_at t p).branches (widened union c key)) in
      omega (arith, enlarge_total is_cover union laws t fan sound p c key l named covered (λ page. page_potential fan page) same refl)
