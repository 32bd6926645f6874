-- What the changes of a map mean for a query.
use Rattle.std.specs.Prelude.{◌≡◌, ℕ, ◌+◌, ◌-◌, ◌≤◌, Bool, true, false, List, [], ◌∷◌, ◌++◌, take, filter, fold, Option, Some, None, option_to_list}
use Rattle.std.specs.Option.{option_map_or}
use Rattle.revisions.specs.declared.change.MapChange.{MapChange}
use Rattle.revisions.specs.declared.change.MapChange.TheVariants.{Put, Remove}
use Rattle.revisions.specs.declared.entry.MapEntry.{MapEntry}
use Rattle.revisions.specs.declared.item.MapItem.{MapItem}
use Rattle.revisions.specs.declared.item.MapItem.TheVariants.{Entered, Moved, Left}
use Rattle.revisions.specs.Maps.{MapState, changed, changes_since, entries_at, key_at, revision_of, with_key, without_id}

module _ {K : Type 0} (wanted : K → Bool) where
  -- the entries whose key is wanted
  abbrev pub matching : List (MapEntry K) → List (MapEntry K)
  matching entries = filter (λ e. wanted e.key) entries

  -- the id has a wanted key
  abbrev pub is_shown : ℕ → List (MapEntry K) → Bool
  is_shown id entries = option_map_or wanted (key_at id entries) false

  -- a put, by whether the key before and the key now are wanted
  abbrev pub put_item : ℕ → ℕ → K → Bool → Bool → Option (MapItem K)
  put_item revision id key true true = Some (Moved revision id key)
  put_item revision id key true false = Some (Left revision id)
  put_item revision id key false true = Some (Entered revision id key)
  put_item revision id key false false = None

  -- a removal, by whether the key before is wanted
  abbrev pub left_item : ℕ → ℕ → Bool → Option (MapItem K)
  left_item revision id true = Some (Left revision id)
  left_item revision id false = None

  -- what a revision's change means, given the entries before it
  abbrev pub item_of : ℕ → List (MapEntry K) → MapChange K → Option (MapItem K)
  item_of revision entries (Put id key) = put_item revision id key (is_shown id entries) (wanted key)
  item_of revision entries (Remove id) = left_item revision id (is_shown id entries)

  -- the items of some changes, of which the first is that of revision n + 1
  abbrev pub items_after : ℕ → List (MapEntry K) → List (MapChange K) → List (MapItem K)
  items_after n entries [] = []
  items_after n entries (c ∷ cs) = option_to_list (item_of (n + 1) entries c) ++ items_after (n + 1) (changed entries c) cs

  -- the items of the revisions after one up to another
  abbrev pub items_between : ℕ → ℕ → MapState K → List (MapItem K)
  items_between from upto map = items_after from (entries_at from map) (take (upto - from) (changes_since from map))

  -- the items are all that the map tells of the revisions after one up to another
  pub record AreItems (from upto : ℕ) (map : MapState K) (items : List (MapItem K)) : Type 0 where
    pub known : map.oldest ≤ from
    pub from_before : from ≤ upto
    pub within : upto ≤ revision_of map
    pub is : items ≡ items_between from upto map

module _ {K : Type 0} where
  -- what a client holds once it has taken an item
  abbrev pub with_item : List (MapEntry K) → MapItem K → List (MapEntry K)
  with_item held (Entered revision id key) = with_key id key held
  with_item held (Moved revision id key) = with_key id key held
  with_item held (Left revision id) = without_id id held

  abbrev pub with_items : List (MapEntry K) → List (MapItem K) → List (MapEntry K)
  with_items held items = fold with_item held items
