-- A store with the rows that are live after the commits of another, numbered from 1 again.
use Rattle.std.specs.Prelude.{◌≡◌, ◌⊎◌, ℕ, ◌+◌, ◌<◌, ◌≤◌, List, [], ◌∷◌, length, map}
use Rattle.key_class.specs.declared.refusal.Refusal.{Refusal}
use Rattle.key_class.specs.declared.refusal.Refusal.TheVariants as refusal
use Rattle.change_list.specs.Changes.{rows}
use Rattle.change_list.specs.Configs.{IsWithinLimits}
use Rattle.change_list.specs.declared.config.Config.{Config}
use Rattle.change_list.specs.declared.item.Row.{Row}
use Rattle.change_list.specs.declared.write.Write.{Write}
use Rattle.change_list.specs.declared.write.Write.TheVariants.{Insert}
use Rattle.store.specs.States.{StoreState}

module _ {K : Type 0} where
  -- the commit that inserts a row's key and tag
  abbrev pub insert_of : Row K → Write K
  insert_of row = Insert row.key row.tag

  -- the inserts of the rows that are live after some commits, in the order of their numbers
  abbrev pub inserts_of_living : List (Write K) → List (Write K)
  inserts_of_living commits = map insert_of (rows commits)

  -- the numbers of those rows
  abbrev pub numbers_of_living : List (Write K) → List ℕ
  numbers_of_living commits = map (λ r. r.row) (rows commits)

  -- rows under the numbers from n on
  abbrev pub numbered : ℕ → List (Row K) → List (Row K)
  numbered n [] = []
  numbered n (r ∷ rs) = (record r { row = n }) ∷ numbered (n + 1) rs

  -- why no store is made of the rows that are live after some commits
  abbrev pub RefusesRenewal : Config → List (Write K) → Refusal → Type 0
  RefusesRenewal config commits why =
      ((why ≡ refusal.BadConfig) × (¬ IsWithinLimits config))
      ⊎ ((why ≡ refusal.CommitsFull) × (config.commits < length (rows commits)))
      ⊎ ((why ≡ refusal.PagesFull) × (config.pages ≤ length (rows commits) + 1))
      ⊎ (why ≡ refusal.OutOfMemory)

module _ {K A : Type 0} where
  -- a store that has made these commits and nothing else
  pub record HasMadeOnly (config : Config) (commits : List (Write K)) (store : StoreState K A) : Type 0 where
    pub commits_are : store.commits ≡ commits
    pub limit : store.limit ≡ config.commits
    pub page_limit : store.page_limit ≡ config.pages
    pub no_cursor : store.cursors ≡ []
    pub none_given : store.last ≡ 0
    pub none_dead : store.dead ≡ []
    pub no_finder : store.finders ≡ 0

  -- the store has made the inserts of the rows that are live after some commits, and nothing else
  abbrev pub IsRenewed : Config → List (Write K) → StoreState K A → Type 0
  IsRenewed config commits store = HasMadeOnly config (inserts_of_living commits) store
