-- The listeners of a query, each with the commit after which it asks for items.
use Rattle.std.specs.Prelude.{◌≡◌, ◌≢◌, ℕ, nat_lt, List, [], ◌∷◌, map, filter, Option, Some, None, if◌then◌else◌}
use Rattle.std.specs.BTreeMap.{is_at}
use Rattle.std.specs.List.Sorted.{IsStrictlySortedBy}
use Rattle.std.specs.Map.{keys_of, lookup}
use Rattle.std.specs.Ordering.{nat_cmp}
use Rattle.change_list.specs.declared.item.Item.{Item}

-- the commit after which the listener with a serial asks for items, if it is there
abbrev pub begin_of : List (ℕ × ℕ) → ℕ → Option ℕ
begin_of listeners serial = lookup (is_at (nat_cmp serial)) listeners

-- the listener with a serial comes, goes or begins elsewhere, and all others are unchanged
pub record ChangesBegin (old : List (ℕ × ℕ)) (serial : ℕ) (begin : Option ℕ) (new : List (ℕ × ℕ)) : Type 0 where
  pub changed : begin_of new serial ≡ begin
  pub others : (other : ℕ) → other ≢ serial → begin_of new other ≡ begin_of old other

-- the first listener isn't among the others, whose serials rise
pub record AreApart (first : ℕ) (others : List (ℕ × ℕ)) : Type 0 where
  pub rise : IsStrictlySortedBy nat_cmp (keys_of others)
  pub apart : begin_of others first ≡ None

module _ {K : Type 0} (number : ℕ) (item : Item K) where
  -- the item of a commit, for each listener that asks for items after an earlier one
  abbrev pub item_to : List (ℕ × ℕ) → List (ℕ × Item K)
  item_to listeners = map (λ l. (l.0, item)) (filter (λ l. nat_lt l.1 number) listeners)

  -- what a listener that asks for the items after a commit, or for none, is told of it
  abbrev pub told_after : Option ℕ → List (Item K)
  told_after (Some from) = if nat_lt from number then item ∷ [] else []
  told_after None = []
