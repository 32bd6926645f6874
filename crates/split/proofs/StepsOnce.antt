-- A step keeps the rows below the root.
use Rattle.std.proofs.Common.{ℕ, ◌≡◌, List, sym, subst, Bool, true}
use Rattle.key_class.specs.declared.sides.Side.{Side}
use Rattle.page_table.proofs.Counting.{false_true}
use Rattle.page_table.specs.Soundness.{IsSound}
use Rattle.page_table.specs.Trees.{Tree, page_at, rows_of_tree}
use Rattle.page_table.specs.Weights.{weigh}
use Rattle.row_version.specs.Entries.{Entry}
use Rattle.split.proofs.GrowRows.{can_grow, grow_rows}
use Rattle.split.proofs.PostUnder.{post_rows_new}
use Rattle.split.proofs.SplitUnder.{split_rows}
use Rattle.split.specs.Steps.{CanPost, CanSplit, SidesPart, after_grow, after_post, after_split}

module _ {K : Type 0} (is_cover : K → K → Bool) (union : K → K → K) (t : Tree K) (fan : ℕ) (sound : IsSound is_cover fan t) (f : Entry K → ℕ) where
  pub split_all : (p : ℕ) (sides : List Side) → CanSplit t p sides → weigh f (rows_of_tree (after_split union t p sides)) ≡ weigh f (rows_of_tree t)
  unfolding after_split
  split_all p sides can = split_rows union t sound.rank sound.ranked p sides can.exists can.not_owed 0 t.counter sound.root_exists f

  pub post_all : (p c s : ℕ) → CanPost t p c s → weigh f (rows_of_tree (after_post t p c s)) ≡ weigh f (rows_of_tree t)
  unfolding after_post
  post_all p c s can = post_rows_new t sound.rank sound.ranked p c s can 0 sound.root_exists
      (λ e. false_true (page_at t 0).owed sound.root.not_owed (subst (λ x. (page_at t x).owed ≡ true) (sym e) can.child_owed)) f

  pub grow_all : (sides : List Side) → SidesPart (page_at t 0) sides → weigh f (rows_of_tree (after_grow union t sides)) ≡ weigh f (rows_of_tree t)
  unfolding after_grow
  grow_all sides part = grow_rows union t sound.rank sound.ranked sides (can_grow is_cover union t fan sides sound part) 0 t.counter sound.root_exists f
