-- A growth, a split and a posting each add to the pages and postings, of which there are few: so the passes of an
-- insertion end.
use Rattle.std.proofs.Common.{◌≡◌, ◌+◌, ◌<◌, ◌≤◌, ℕ, suc, Bool, List, length, refl, arith}
use Rattle.key_class.specs.declared.sides.Side.{Side}
use Rattle.page_table.specs.Soundness.{IsSound}
use Rattle.page_table.specs.Trees.{Tree}
use Rattle.split.proofs.Grow.{grow-length}
use Rattle.split.proofs.Post.{post-length}
use Rattle.split.proofs.Split.{split-length}
use Rattle.split.specs.Steps.{after_grow, after_post, after_split}

module _ {K : Type 0} where
  -- how many pages and postings there are
  abbrev pub made : Tree K → ℕ
  made t = length t.pages + t.counter

  split_counter : (union : K → K → K) (t : Tree K) (p : ℕ) (sides : List Side) → (after_split union t p sides).counter ≡ t.counter
  unfolding after_split
  split_counter union t p sides = refl

  post_counter : (t : Tree K) (p c s : ℕ) → (after_post t p c s).counter ≡ suc t.counter
  unfolding after_post
  post_counter t p c s = refl

  grow_counter : (union : K → K → K) (t : Tree K) (sides : List Side) → (after_grow union t sides).counter ≡ t.counter
  unfolding after_grow
  grow_counter union t sides = refl

  pub split_makes : (union : K → K → K) (t : Tree K) (p : ℕ) (sides : List Side) → made t < made (after_split union t p sides)
  split_makes union t p sides = omega (arith, split-length union t p sides, split_counter union t p sides)

  pub post_makes : (t : Tree K) (p c s : ℕ) → made t < made (after_post t p c s)
  post_makes t p c s = omega (arith, post-length t p c s, post_counter t p c s)

  pub grow_makes : (union : K → K → K) (t : Tree K) (sides : List Side) → made t < made (after_grow union t sides)
  grow_makes union t sides = omega (arith, grow-length union t sides, grow_counter union t sides)

  -- of a sound tree
  pub few_made : (is_cover : K → K → Bool) (fan : ℕ) (t : Tree K) → IsSound is_cover fan t → (limit : ℕ) → length t.pages ≤ limit → made t < limit + limit
  few_made is_cover fan t sound limit few = omega (arith, sound.posted, few)
