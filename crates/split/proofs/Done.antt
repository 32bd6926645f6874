-- What a step that was made leaves.
use Rattle.std.proofs.Common.{◌≡◌, ℕ, ◌≤◌, Bool, sym, subst}
use Rattle.page_table.specs.Trees.{Tree}
use Rattle.page_table.specs.Keeping.{KeepsRows, EachEntry, StandsIn}
use Rattle.split.specs.Potential.{potential}
use Rattle.split.specs.SearchTrees.{SearchTree, IsSearchTree}

pub record IsDone {K : Type 0} (is_cover : K → K → Bool) (old new : Tree K) (fan least limit : ℕ) : Type 0 where
  pub inv : IsSearchTree is_cover new fan least limit
  pub kept : KeepsRows old new
  pub moved : EachEntry (λ e. StandsIn old e) new
  pub no_higher : potential fan new ≤ potential fan old

-- the same of the tables of the code
pub done_as : {K : Type 0} (is_cover : K → K → Bool) (table after table' : Tree K) (old : SearchTree K) (fan least limit : ℕ) → record { tree = table; fan = fan; least = least; limit = limit } ≡ old → table' ≡ after → IsDone is_cover table after fan least limit → IsDone is_cover old.tree table' fan least limit
done_as is_cover table after table' old fan least limit v e d =
    subst (λ s. IsDone is_cover s.tree table' fan least limit) v (subst (λ t. IsDone is_cover table t fan least limit) (sym e) d)
