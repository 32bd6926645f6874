-- What a client may be given after the rows of its snapshot, or after the commit that it follows.
use Rattle.std.specs.Prelude.{◌≡◌, ℕ, ◌≤◌, Bool, List, [], ◌∷◌, ◌++◌, length, Some, None}
use Rattle.key_class.specs.declared.pred.Pred.{Pred}
use Rattle.key_class.specs.Queries.{query_of}
use Rattle.key_class.specs.Rules.{Rules, satisfies}
use Rattle.change_list.specs.declared.write.Write.{Write}
use Rattle.change_list.specs.declared.item.Item.{Item}
use Rattle.change_list.specs.declared.item.Item.TheVariants as item
use Rattle.change_list.specs.Changes.{item_at, changes}
use Rattle.change_list.specs.Listings.{AreChanges, without_marks}

module _ {K : Type 0} where
  -- without marks, the items are the first changes after s, and the items before each mark are all changes up to it
  pub record IsFollowed (wanted : K → Bool) (s : ℕ) (commits : List (Write K)) (items : List (Item K)) : Type 0 where
    pub rest : List (Item K)
    pub begins : changes wanted s (length commits) commits ≡ without_marks items ++ rest
    pub marks : (before after : List (Item K)) (n : ℕ) → items ≡ before ++ item.Mark n ∷ after
        → AreChanges wanted s n commits (without_marks before)

  -- the first place, from another on, whose commit has an item; the length of the list if there is none
  pub record IsNextPlace (wanted : K → Bool) (commits : List (Write K)) (from place : ℕ) : Type 0 where
    pub from_before : from ≤ place
    pub within : place ≤ length commits
    pub none_before : changes wanted from place commits ≡ []
    pub at_end : item_at wanted commits place ≡ None → place ≡ length commits

module _ {K A : Type 0} (rules : Rules K A) (query : Pred A) where
  -- the commit at that place has the item for the query
  abbrev pub IsItemFor : List (Write K) → ℕ → Item K → Type 0
  IsItemFor commits place item = item_at (satisfies rules (query_of query)) commits place ≡ Some item

  -- the items may be given after commit s
  abbrev pub IsFollowedFor : ℕ → List (Write K) → List (Item K) → Type 0
  IsFollowedFor s commits items = IsFollowed (satisfies rules (query_of query)) s commits items
