-- The items of a map, by those of its store.
use Rattle.std.specs.Prelude.{ℕ, ◌+◌, ◌-◌, ◌≤◌, List}
use Rattle.std.specs.List.{AllByRecursion}
use Rattle.change_list.specs.declared.item.Item.{Item}
use Rattle.change_list.specs.declared.item.Item.TheVariants as item
use Rattle.change_list.specs.declared.write.Write.{Write}
use Rattle.revisions.specs.declared.item.MapItem.{MapItem}
use Rattle.revisions.specs.declared.item.MapItem.TheVariants.{Entered, Moved, Left}
use Rattle.map.specs.Generations.{id_of}

module _ {K : Type 0} where
  -- an item of a store, as one of its map; the last two never come from changes
  abbrev pub map_item : ℕ → ℕ → List (Write K) → Item K → MapItem K
  map_item oldest begun commits (item.Inserted r) = Entered (oldest + (r.row - begun)) r.tag r.key
  map_item oldest begun commits (item.Moved r row) = Moved (oldest + (r.row - begun)) r.tag r.key
  map_item oldest begun commits (item.Deleted n row) = Left (oldest + (n - begun)) (id_of commits row)
  map_item oldest begun commits (item.Row r) = Entered (oldest + (r.row - begun)) r.tag r.key
  map_item oldest begun commits (item.Mark n) = Left (oldest + (n - begun)) 0

  -- the number of the commit of an item, or of its row
  abbrev pub number_of : Item K → ℕ
  number_of (item.Inserted r) = r.row
  number_of (item.Moved r row) = r.row
  number_of (item.Deleted n row) = n
  number_of (item.Row r) = r.row
  number_of (item.Mark n) = n

  -- the items are of commits up to one
  abbrev pub AreWithin : ℕ → List (Item K) → Type 0
  AreWithin n items = AllByRecursion (λ i. number_of i ≤ n) items
