-- The items of single commits.
use Rattle.std.proofs.Common.{◌≡◌, ◌+◌, ◌-◌, ◌≤◌, ℕ, Bool, true, false, List, ◌++◌, take, Option, Some, None, refl, sym, ap, ◌∙◌, arith}
use Rattle.std.specs.Prelude.{slice_get, nat_eq, option_and_then, option_to_list, IfSome}
use Rattle.change_list.specs.declared.write.Write.{Write}
use Rattle.change_list.specs.declared.write.Write.TheVariants.{Insert, Delete, Move}
use Rattle.change_list.specs.declared.item.Row.{Row as Made}
use Rattle.change_list.specs.declared.item.Item.{Item}
use Rattle.change_list.specs.declared.item.Item.TheVariants.{Row, Inserted, Deleted, Moved, Mark}
use Rattle.change_list.specs.Changes.{commit_at, item_at, item_of, if_wanted, deleted_item, moved, moved_from, moved_item, row_at, IsLegal, changes}
use Rattle.change_list.proofs.Made.{row_taken}
use Rattle.change_list.proofs.Pushing.{changes_more, changes_none}
use Rattle.change_list.proofs.Tracking.{legal_taken, live_row}

module _ {K : Type 0} where
  -- the item of a commit, no row of a snapshot and no mark
  abbrev pub IsChange : Item K → Type 0
  IsChange (Row row) = ⊥
  IsChange (Inserted row) = Unit {0}
  IsChange (Deleted n row) = Unit {0}
  IsChange (Moved new row) = Unit {0}
  IsChange (Mark n) = ⊥

  at_next : (commits : List (Write K)) (place : ℕ) → commit_at commits (place + 1) ≡ slice_get commits place
  at_next commits place =
      let e : nat_eq (place + 1) 0 ≡ false = search arith in
      let f : place + 1 - 1 ≡ place = omega arith in
      rw (e, f) refl

  module _ (wanted : K → Bool) (commits : List (Write K)) (place : ℕ) where
    item_of_write : (write : Write K) → commit_at commits (place + 1) ≡ Some write → item_at wanted commits place ≡ item_of wanted (take place commits) (place + 1) write
    item_of_write write h = ap (option_and_then (item_of wanted (take place commits) (place + 1))) (sym (at_next commits place) ∙ h)

    -- the row that a commit ends is there as it was before the commit
    row_kept : (write : Write K) (row : ℕ) → IsLegal commits → commit_at commits (place + 1) ≡ Some write
        → ((IsLegal commits) → slice_get commits place ≡ Some write → (r : Made K) × (row_at (take place commits) row ≡ Some r))
        → row_at (take place commits) row ≡ row_at commits row
    row_kept write row legal h found =
        let f = found legal (sym (at_next commits place) ∙ h) in
        f.1 ∙ sym (row_taken commits place row f.0 f.1)

    pub item_of_delete : (row : ℕ) → IsLegal commits → commit_at commits (place + 1) ≡ Some (Delete row)
        → item_at wanted commits place ≡ option_and_then (deleted_item wanted (place + 1)) (row_at commits row)
    item_of_delete row legal h =
        item_of_write (Delete row) h
        ∙ ap (option_and_then (deleted_item wanted (place + 1)))
        (row_kept (Delete row) row legal h (λ l d. let r = live_row (take place commits) row (legal_taken commits place l) (l place (Delete row) d) in (r.found, r.is)))

    pub item_of_move : (row : ℕ) (key : K) → IsLegal commits → commit_at commits (place + 1) ≡ Some (Move row key)
        → item_at wanted commits place ≡ option_and_then (moved_item wanted (place + 1) key) (row_at commits row)
    item_of_move row key legal h =
        item_of_write (Move row key) h
        ∙ ap (option_and_then (moved_item wanted (place + 1) key))
        (row_kept (Move row key) row legal h (λ l d. let r = live_row (take place commits) row (legal_taken commits place l) (l place (Move row key) d) in (r.found, r.is)))

    pub item_is_change : IfSome (item_at wanted commits place) IsChange
    item_is_change = by_commit (slice_get commits place)
      where
        if_change : (b : Bool) (i : Item K) → IsChange i → IfSome (if_wanted b i) IsChange
        if_change true i h = h
        if_change false i h = tt

        by_row : (found : Option (Made K)) → IfSome (option_and_then (deleted_item wanted (place + 1)) found) IsChange
        by_row (Some r) = if_change (wanted r.key) (Deleted (place + 1) r.row) tt
        by_row None = tt

        by_keys : (was is : Bool) (new : Made K) (row : ℕ) → IfSome (moved_from was is new row) IsChange
        by_keys true true new row = tt
        by_keys true false new row = tt
        by_keys false true new row = tt
        by_keys false false new row = tt

        by_moved : (key : K) (found : Option (Made K)) → IfSome (option_and_then (moved_item wanted (place + 1) key) found) IsChange
        by_moved key (Some r) = by_keys (wanted r.key) (wanted key) (moved (place + 1) key r) r.row
        by_moved key None = tt

        by_commit : (found : Option (Write K)) → IfSome (option_and_then (item_of wanted (take place commits) (place + 1)) found) IsChange
        by_commit None = tt
        by_commit (Some (Insert key tag)) = if_change (wanted key) (Inserted (record { row = place + 1; key = key; tag = tag })) tt
        by_commit (Some (Delete row)) = by_row (row_at (take place commits) row)
        by_commit (Some (Move row key)) = by_moved key (row_at (take place commits) row)

    -- the changes of one commit
    pub one_change : changes wanted place (place + 1) commits ≡ option_to_list (item_at wanted commits place)
    one_change =
        let l : place ≤ place = omega arith in
        changes_more wanted place place commits l ∙ ap (λ c. c ++ option_to_list (item_at wanted commits place)) (changes_none wanted place commits)
