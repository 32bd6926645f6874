-- What a search finds in a tree that agrees with some commits.
use Rattle.std.specs.Prelude.{◌≡◌, ℕ, ◌≤◌, Bool, List, length, min, IsPermutation}
use Rattle.key_class.specs.Limits.{most_commits}
use Rattle.change_list.specs.declared.item.Row.{Row}
use Rattle.change_list.specs.declared.write.Write.{Write}
use Rattle.change_list.specs.Changes.{snapshot}
use Rattle.page_table.specs.Trees.{Tree}
use Rattle.scan.specs.Agreement.{Agrees}
use Rattle.search.specs.Fills.{written_over}
use Rattle.search.specs.Sinks.{IsSomeOf}

module _ {K : Type 0} (all : List (Row K)) where
  -- some of these rows, and as many as there are, up to a limit
  pub record AreFirst (limit : ℕ) (rows : List (Row K)) : Type 0 where
    pub number : length rows ≡ min limit (length all)
    pub some : IsSomeOf rows all

  -- these rows, in some order, were written over the first places of a buffer, as many as fit, and all were counted
  pub record AreWritten (old new : List (Row K)) (count : ℕ) : Type 0 where
    pub given : List (Row K)
    pub arranged : IsPermutation given all
    pub is : new ≡ written_over given old
    pub counted : count ≡ length all

module _ {K : Type 0} where
  -- the rows that are live after all commits and whose keys are wanted, by rising number
  abbrev pub live_after : (K → Bool) → List (Write K) → List (Row K)
  live_after wanted commits = snapshot wanted (length commits) commits

  -- what holds of these rows, for any commits with which the tree agrees
  abbrev pub OfCommits : (K → Bool) → Tree K → (List (Row K) → Type 0) → Type 0
  OfCommits wanted t P = (commits : List (Write K)) → length commits ≤ most_commits → Agrees t commits → P (live_after wanted commits)
