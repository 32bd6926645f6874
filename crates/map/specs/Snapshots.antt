-- What is found in a snapshot of a map, and what it has of the map's changes.
use Rattle.std.specs.Prelude.{◌≡◌, ◌⊎◌, ℕ, ◌<◌, ◌≤◌, Bool, List, ◌++◌, length, map, IsPermutation}
use Rattle.key_class.specs.Limits.{most_depth}
use Rattle.key_class.specs.Queries.{Query, depth_of, query_of}
use Rattle.key_class.specs.Rules.{Rules, satisfies}
use Rattle.key_class.specs.declared.pred.Pred.{Pred}
use Rattle.key_class.specs.declared.refusal.Refusal.{Refusal}
use Rattle.key_class.specs.declared.refusal.Refusal.TheVariants as refusal
use Rattle.search.specs.Fills.{written_over}
use Rattle.revisions.specs.declared.entry.MapEntry.{MapEntry}
use Rattle.revisions.specs.declared.item.MapItem.{MapItem}
use Rattle.revisions.specs.Items.{AreItems, matching}
use Rattle.revisions.specs.Maps.{MapState, entries_of, revision_of}

module _ {K A : Type 0} (rules : Rules K A) (query : Pred A) where
  -- the entries whose keys satisfy the query, in the order of their last put
  abbrev pub found_in_map : MapState K → List (MapEntry K)
  found_in_map map = matching (satisfies rules (query_of query)) (entries_of map)

-- the forms of these values, in some order, were written over the first places of a buffer, as many as fit, and all were
-- counted
pub record AreWrittenAs {X T : Type 0} (form_of : X → T) (all : List X) (old new : List T) (count : ℕ) : Type 0 where
  pub given : List X
  pub arranged : IsPermutation given all
  pub is : new ≡ written_over (map form_of given) old
  pub counted : count ≡ length all

module _ {K : Type 0} where
  -- What was appended to a list: the items of the revisions after `from` up to `upto`, at most `most`. Either `upto` is
  -- the last revision, or there are exactly `most`.
  pub record AppendsItems (wanted : K → Bool) (from most : ℕ) (map : MapState K) (old new : List (MapItem K)) (upto : ℕ) : Type 0 where
    pub given : List (MapItem K)
    pub is : new ≡ old ++ given
    pub items : AreItems wanted from upto map given
    pub few : length given ≤ most
    pub ends : (upto ≡ revision_of map) ⊎ (length given ≡ most)

module _ {K A : Type 0} (query : Query A) (map : MapState K) (from : ℕ) where
  -- the query is in range, but the changes after the revision are no longer known
  abbrev pub IsCompacted : Type 0
  IsCompacted = (depth_of query ≤ most_depth) × (from < map.oldest)

  -- the query is in range, but there is no such revision yet
  abbrev pub IsFromFuture : Type 0
  IsFromFuture = (depth_of query ≤ most_depth) × (revision_of map < from) × (map.oldest ≤ from)

-- why no changes are given
abbrev pub RefusesChanges : Refusal → Type 0
RefusesChanges why = (why ≡ refusal.BadConfig) ⊎ (why ≡ refusal.Compacted) ⊎ (why ≡ refusal.FromFuture) ⊎ (why ≡ refusal.OutOfMemory)
