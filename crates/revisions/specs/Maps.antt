-- A map: its entries, and what its revisions changed.
use Rattle.std.specs.Prelude.{◌≡◌, ◌⊎◌, ℕ, ◌+◌, ◌-◌, ◌≤◌, Bool, true, false, not, nat_eq, List, [], ◌∷◌, ◌++◌, length, take, drop, filter, find, Option, Some, option_map, slice_get}
use Rattle.std.specs.List.{list_any}
use Rattle.revisions.specs.declared.change.MapChange.{MapChange}
use Rattle.revisions.specs.declared.change.MapChange.TheVariants.{Put, Remove}
use Rattle.revisions.specs.declared.entry.MapEntry.{MapEntry}

module _ {K : Type 0} where
  -- the entry is that of the id
  abbrev pub is_of : ℕ → MapEntry K → Bool
  is_of id entry = nat_eq entry.id id

  -- whether there is an entry of the id
  abbrev pub has_id : ℕ → List (MapEntry K) → Bool
  has_id id entries = list_any (is_of id) entries

  -- the key of an id, if it has one
  abbrev pub key_at : ℕ → List (MapEntry K) → Option K
  key_at id entries = option_map (λ e. e.key) (find (is_of id) entries)

  -- the entries without that of an id
  abbrev pub without_id : ℕ → List (MapEntry K) → List (MapEntry K)
  without_id id entries = filter (λ e. not (is_of id e)) entries

  -- no two entries have one id
  abbrev pub AreApart : List (MapEntry K) → Type 0
  AreApart [] = Unit {0}
  AreApart (e ∷ es) = (has_id e.id es ≡ false) × AreApart es

  -- the entries with a key of an id; what was put last comes last
  abbrev pub with_key : ℕ → K → List (MapEntry K) → List (MapEntry K)
  with_key id key entries = without_id id entries ++ (record { id = id; key = key }) ∷ []

  -- the entries once a change is made
  abbrev pub changed : List (MapEntry K) → MapChange K → List (MapEntry K)
  changed entries (Put id key) = with_key id key entries
  changed entries (Remove id) = without_id id entries

  -- the entries once some changes are made, one after the other
  abbrev pub entries_after : List (MapEntry K) → List (MapChange K) → List (MapEntry K)
  entries_after entries [] = entries
  entries_after entries (c ∷ cs) = entries_after (changed entries c) cs

  -- a removal takes away an id that has a key
  abbrev pub MayChange : List (MapEntry K) → MapChange K → Type 0
  MayChange entries (Put id key) = Unit {0}
  MayChange entries (Remove id) = has_id id entries ≡ true

pub record MapState (K : Type 0) : Type 0 where
  -- the revision from which on the changes are known
  pub oldest : ℕ
  -- the entries after that revision, in the order of their last put
  pub first : List (MapEntry K)
  -- what each later revision changed
  pub changes : List (MapChange K)

module _ {K : Type 0} where
  -- the last revision
  abbrev pub revision_of : MapState K → ℕ
  revision_of map = map.oldest + length map.changes

  -- the entries, in the order of their last put
  abbrev pub entries_of : MapState K → List (MapEntry K)
  entries_of map = entries_after map.first map.changes

  -- the entries after a revision, which isn't before the oldest
  abbrev pub entries_at : ℕ → MapState K → List (MapEntry K)
  entries_at revision map = entries_after map.first (take (revision - map.oldest) map.changes)

  -- the changes after a revision
  abbrev pub changes_since : ℕ → MapState K → List (MapChange K)
  changes_since revision map = drop (revision - map.oldest) map.changes

  -- each removal took away a key that was there
  abbrev pub AreReal : MapState K → Type 0
  AreReal map = (place : ℕ) (c : MapChange K) → slice_get map.changes place ≡ Some c → MayChange (entries_after map.first (take place map.changes)) c

  -- a map without entries, at a revision
  abbrev pub empty_map : ℕ → MapState K
  empty_map revision = record { oldest = revision; first = []; changes = [] }

  -- a map at a revision with these entries, of which no change is known
  abbrev pub restored : ℕ → List (MapEntry K) → MapState K
  restored revision entries = record { oldest = revision; first = entries; changes = [] }

  -- the map with one more revision, which makes a change
  abbrev pub with_change : MapChange K → MapState K → MapState K
  with_change c map = record map { changes = map.changes ++ c ∷ [] }

  -- the map with further revisions, each of which makes a change
  abbrev pub with_changes : List (MapChange K) → MapState K → MapState K
  with_changes [] map = map
  with_changes (c ∷ cs) map = with_changes cs (with_change c map)

  -- the map without what it knows of the changes up to a revision
  abbrev pub forgotten : ℕ → MapState K → MapState K
  forgotten revision map = record { oldest = revision; first = entries_at revision map; changes = changes_since revision map }

  -- a map forgets changes, or none, but not the last ones: as many as its history asks for
  pub record Forgets (history : ℕ) (old new : MapState K) : Type 0 where
    pub upto : ℕ
    pub later : old.oldest ≤ upto
    pub keeps : (upto ≡ old.oldest) ⊎ (upto + history ≤ revision_of old)
    pub is : new ≡ forgotten upto old
