-- What a snapshot is made of, and what is found in it.
use Rattle.std.specs.Prelude.{◌≡◌, ◌⊎◌, ℕ, ◌<◌, ◌≤◌, Bool, List, ◌++◌, length, map}
use Rattle.key_class.specs.Limits.{most_commits, most_depth, most_fan}
use Rattle.key_class.specs.Queries.{Query, query_of, depth_of}
use Rattle.key_class.specs.Rules.{Rules, satisfies}
use Rattle.key_class.specs.declared.pred.Pred.{Pred}
use Rattle.key_class.specs.declared.refusal.Refusal.{Refusal}
use Rattle.key_class.specs.declared.refusal.Refusal.TheVariants as refusal
use Rattle.change_list.specs.declared.item.Item.{Item}
use Rattle.change_list.specs.declared.item.Item.TheVariants as item
use Rattle.change_list.specs.declared.item.Row.{Row}
use Rattle.change_list.specs.declared.write.Write.{Write}
use Rattle.change_list.specs.Asked.{snapshot_for}
use Rattle.change_list.specs.Changes.{IsLegal, snapshot}
use Rattle.change_list.specs.Listings.{AreChanges, IsListing}
use Rattle.page_table.specs.Soundness.{IsSound}
use Rattle.page_table.specs.Trees.{Tree}
use Rattle.scan.specs.Agreement.{Agrees}

-- a sound tree, whose pages have no more entries than they may, and whose entries agree with a legal list of commits,
-- no more of them than a world may have
pub record IsSnapshot {K : Type 0} (is_cover : K → K → Bool) (tree : Tree K) (commits : List (Write K)) : Type 0 where
  pub fan : ℕ
  pub few_entries : fan ≤ most_fan
  pub sound : IsSound is_cover fan tree
  pub agrees : Agrees tree commits
  pub legal : IsLegal commits
  pub few : length commits ≤ most_commits

module _ {K A : Type 0} (rules : Rules K A) (query : Pred A) where
  -- the rows that are live after all commits and whose keys satisfy the query, by rising number
  abbrev pub found_in : List (Write K) → List (Row K)
  found_in commits = snapshot_for rules query (length commits) commits

  -- What was appended to a list: the items of the commits after `from` up to `upto`, at most `most`. Either `upto` is
  -- the last commit, or there are exactly `most`.
  pub record Appends (from most : ℕ) (commits : List (Write K)) (old new : List (Item K)) (upto : ℕ) : Type 0 where
    pub given : List (Item K)
    pub is : new ≡ old ++ given
    pub changes : AreChanges (satisfies rules (query_of query)) from upto commits given
    pub few : length given ≤ most
    pub ends : (upto ≡ length commits) ⊎ (length given ≡ most)

module _ {K A : Type 0} where
  -- the query is in range, but there are fewer commits than that
  abbrev pub IsAfterAll : Query A → List (Write K) → ℕ → Type 0
  IsAfterAll query commits from = (depth_of query ≤ most_depth) × (length commits < from)

-- why no changes are given
abbrev pub RefusesChanges : Refusal → Type 0
RefusesChanges why = (why ≡ refusal.BadConfig) ⊎ (why ≡ refusal.FromFuture) ⊎ (why ≡ refusal.OutOfMemory)

module _ (K : Type 0) where
  -- the rows of a snapshot, followed by the changes after it up to a later commit of a list that begins with it, are
  -- a listing up to that commit
  abbrev pub SnapshotsGoOn : Type 0
  SnapshotsGoOn = (wanted : K → Bool) (first further : List (Write K)) (later : ℕ) (items : List (Item K))
      → AreChanges wanted (length first) later (first ++ further) items
      → IsListing wanted (length first) later (first ++ further) (map item.Row (snapshot wanted (length first) first) ++ items)
