-- The laws of maps: forgetting, and going on.
use Rattle.std.specs.Prelude.{◌≡◌, ℕ, ◌≤◌, Bool, List, ◌++◌}
use Rattle.revisions.specs.declared.item.MapItem.{MapItem}
use Rattle.revisions.specs.Items.{AreItems, items_between, matching, with_items}
use Rattle.revisions.specs.Maps.{AreApart, MapState, changes_since, entries_at, entries_of, forgotten, restored, revision_of, with_changes}

module _ (K : Type 0) where
  -- forgetting keeps the revision
  abbrev pub KeepsRevision : Type 0
  KeepsRevision = (map : MapState K) (n : ℕ) → map.oldest ≤ n → n ≤ revision_of map → revision_of (forgotten n map) ≡ revision_of map

  -- forgetting keeps the entries, also those of each later revision
  abbrev pub EntriesStay : Type 0
  EntriesStay = (map : MapState K) (n later : ℕ) → map.oldest ≤ n → n ≤ later → entries_at later (forgotten n map) ≡ entries_at later map

  -- forgetting keeps what is with_item of later revisions
  abbrev pub ItemsStay : Type 0
  ItemsStay = (wanted : K → Bool) (map : MapState K) (n from upto : ℕ) → map.oldest ≤ n → n ≤ from → items_between wanted from upto (forgotten n map) ≡ items_between wanted from upto map

  -- a map that is restored with the entries of a revision, and changed as the map was since then, has its entries, in
  -- the same order
  abbrev pub RestoresEntries : Type 0
  RestoresEntries = (map : MapState K) (n : ℕ) → map.oldest ≤ n → n ≤ revision_of map → entries_of (with_changes (changes_since n map) (restored n (entries_at n map))) ≡ entries_of map

  -- what a client holds after one revision, changed by the items up to a later one, is what matches then
  abbrev pub ItemsKeepUp : Type 0
  ItemsKeepUp = (wanted : K → Bool) (map : MapState K) (from upto : ℕ) (items : List (MapItem K)) → AreApart map.first → AreItems wanted from upto map items
      → with_items (matching wanted (entries_at from map)) items ≡ matching wanted (entries_at upto map)

  -- no two entries ever have one id, if none of the first have
  abbrev pub StayApart : Type 0
  StayApart = (map : MapState K) (n : ℕ) → AreApart map.first → AreApart (entries_at n map)

  -- the items up to a revision, followed by those after it, are the items
  abbrev pub ItemsGoOn : Type 0
  ItemsGoOn = (wanted : K → Bool) (map : MapState K) (from n upto : ℕ) (given further : List (MapItem K)) → AreItems wanted from n map given → AreItems wanted n upto map further
      → AreItems wanted from upto map (given ++ further)
