-- Which subscriptions a commit concerns.
use Rattle.std.proofs.Common.{◌≡◌, ◌⊎◌, ℕ, Bool, true, false, List, Option, Some, None, refl, sym, ◌∙◌, inl, inr}
use Rattle.std.specs.Prelude.{if◌then◌else◌}
use Rattle.change_list.specs.declared.item.Item.{Item}
use Rattle.change_list.specs.declared.item.Row.{Row}
use Rattle.change_list.specs.declared.write.Write.{Write}
use Rattle.change_list.specs.Changes.{item_at}
use Rattle.feed.specs.declared.change.Change.{Change}
use Rattle.feed.specs.Changing.{IsChangeOf, asked_row}
use Rattle.feed.proofs.Changing.{item_seen}

module _ {K : Type 0} (wanted : K → Bool) where
  -- the key of a row that ends or begins satisfies the query
  pub record Concerns (ended made : Option (Row K)) : Type 0 where
    pub row : Row K
    pub touched : (ended ≡ Some row) ⊎ (made ≡ Some row)
    pub is_wanted : wanted row.key ≡ true

  is_asked : (o : Option (Row K)) → (asked_row wanted o ≡ None) ⊎ ((r : Row K) × (o ≡ Some r) × (wanted r.key ≡ true))
  is_asked None = inl refl
  is_asked (Some r) = by_test (wanted r.key) refl
    where
      by_test : (b : Bool) → wanted r.key ≡ b → ((if b then Some r else None) ≡ None) ⊎ ((s : Row K) × (Some r ≡ Some s) × (wanted s.key ≡ true))
      by_test true e = inr (r, refl, e)
      by_test false e = inl refl

  -- a commit that has an item for a query ends or makes a row whose key satisfies the query
  pub item_concerns : (commits : List (Write K)) (place : ℕ) (change : Change K) → IsChangeOf commits place change → (item : Item K) → item_at wanted commits place ≡ Some item → Concerns change.ended change.made
  item_concerns commits place change of item is = by_rows (is_asked change.ended) (is_asked change.made)
    where
      by_rows : (asked_row wanted change.ended ≡ None) ⊎ ((r : Row K) × (change.ended ≡ Some r) × (wanted r.key ≡ true)) → (asked_row wanted change.made ≡ None) ⊎ ((r : Row K) × (change.made ≡ Some r) × (wanted r.key ≡ true)) → Concerns change.ended change.made
      by_rows (inr old) made = record { row = old.0; touched = inl old.1; is_wanted = old.2 }
      by_rows (inl none) (inr new) = record { row = new.0; touched = inr new.1; is_wanted = new.2 }
      by_rows (inl none) (inl nor) =
          let told : None ≡ Some item = sym (rw (none, nor) at (item_seen wanted commits place change of)) ∙ is in
          absurd (cc)
