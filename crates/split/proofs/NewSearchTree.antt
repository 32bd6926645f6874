-- The tree of a new world is sound.
use Rattle.std.proofs.Common.{◌≡◌, ℕ, ◌/◌, ◌≤◌, Bool, sym, subst, arith}
use Rattle.page_table.specs.Trees.{Tree, new_tree}
use Rattle.page_table.proofs.NewTree.{new_sound}
use Rattle.split.specs.SearchTrees.{IsSearchTree}

pub new_search_tree : {K : Type 0} (is_cover : K → K → Bool) (t : Tree K) (fan least limit : ℕ) → t ≡ new_tree → fan ≤ 64 → 2 ≤ least → least ≤ fan / 2 → 1 ≤ limit → limit ≤ 65536 → IsSearchTree is_cover t fan least limit
unfolding new_tree
new_search_tree is_cover t fan least limit e f l h p q = subst (λ u. IsSearchTree is_cover u fan least limit) (sym e)
    (record { sound = new_sound is_cover fan; two_least = l; two_parts = omega arith; fan_limit = f; page_limit = q; within = omega arith })
