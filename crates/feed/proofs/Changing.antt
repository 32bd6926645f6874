-- What a change means for a query.
use Rattle.std.proofs.Common.{◌≡◌, ◌+◌, ◌-◌, ℕ, Bool, true, false, List, take, Option, Some, None, refl, sym, ap, ◌∙◌, arith}
use Rattle.std.specs.Prelude.{nat_eq, slice_get, option_and_then, option_map, if◌then◌else◌}
use Rattle.change_list.specs.declared.item.Item.{Item}
use Rattle.change_list.specs.declared.item.Item.TheVariants.{Inserted, Deleted, Moved}
use Rattle.change_list.specs.declared.item.Row.{Row}
use Rattle.change_list.specs.declared.write.Write.{Write}
use Rattle.change_list.specs.declared.write.Write.TheVariants.{Insert, Delete, Move}
use Rattle.change_list.specs.Changes.{IsLegal, commit_at, deleted_item, if_wanted, item_at, item_of, moved, moved_from, moved_item, row_at}
use Rattle.change_list.proofs.Items.{item_of_delete, item_of_move}
use Rattle.feed.specs.declared.change.Change.{Change}
use Rattle.feed.specs.Changing.{IsChangeOf, TellsItem, asked_row, ended_row, begun_row}

module _ {K : Type 0} where
  at_next : (commits : List (Write K)) (place : ℕ) → commit_at commits (place + 1) ≡ slice_get commits place
  at_next commits place =
      let e : nat_eq (place + 1) 0 ≡ false = search arith in
      let f : place + 1 - 1 ≡ place = omega arith in
      rw (e, f) refl

  -- the item of a commit, from the rows that a query sees: the one that it ends and the one that it makes
  abbrev pub item_between : ℕ → Option (Row K) → Option (Row K) → Option (Item K)
  item_between number (Some old) (Some new) = Some (Moved new old.row)
  item_between number (Some old) None = Some (Deleted number old.row)
  item_between number None (Some new) = Some (Inserted new)
  item_between number None None = None

  module _ (wanted : K → Bool) where
    inserted_seen : (number : ℕ) (r : Row K) → if_wanted (wanted r.key) (Inserted r) ≡ item_between number None (asked_row wanted (Some r))
    inserted_seen number r = by_test (wanted r.key)
      where
        by_test : (b : Bool) → if_wanted b (Inserted r) ≡ item_between number None (if b then Some r else None)
        by_test true = refl
        by_test false = refl

    deleted_seen : (number : ℕ) (o : Option (Row K)) → option_and_then (deleted_item wanted number) o ≡ item_between number (asked_row wanted o) None
    deleted_seen number None = refl
    deleted_seen number (Some r) = by_test (wanted r.key)
      where
        by_test : (b : Bool) → if_wanted b (Deleted number r.row) ≡ item_between number (if b then Some r else None) None
        by_test true = refl
        by_test false = refl

    moved_seen : (number : ℕ) (key : K) (o : Option (Row K)) → option_and_then (moved_item wanted number key) o ≡ item_between number (asked_row wanted o) (asked_row wanted (option_map (moved number key) o))
    moved_seen number key None = refl
    moved_seen number key (Some r) = by_tests (wanted r.key) (wanted key)
      where
        by_tests : (was is : Bool) → moved_from was is (moved number key r) r.row ≡ item_between number (if was then Some r else None) (if is then Some (moved number key r) else None)
        by_tests true true = refl
        by_tests true false = refl
        by_tests false true = refl
        by_tests false false = refl

    module _ (commits : List (Write K)) (place : ℕ) (legal : IsLegal commits) where
      by_rows : (o : Option (Write K)) → commit_at commits (place + 1) ≡ o
          → item_at wanted commits place ≡ item_between (place + 1) (asked_row wanted (ended_row commits o)) (asked_row wanted (begun_row commits (place + 1) o))
      by_rows None e = ap (option_and_then (item_of wanted (take place commits) (place + 1))) (sym (at_next commits place) ∙ e)
      by_rows (Some (Insert key tag)) e =
          ap (option_and_then (item_of wanted (take place commits) (place + 1))) (sym (at_next commits place) ∙ e)
          ∙ inserted_seen (place + 1) (record { row = place + 1; key = key; tag = tag })
      by_rows (Some (Delete row)) e = item_of_delete wanted commits place row legal e ∙ deleted_seen (place + 1) (row_at commits row)
      by_rows (Some (Move row key)) e = item_of_move wanted commits place row key legal e ∙ moved_seen (place + 1) key (row_at commits row)

    -- the item of a commit depends only on what it changes
    pub item_seen : (commits : List (Write K)) (place : ℕ) (change : Change K) → IsChangeOf commits place change
        → item_at wanted commits place ≡ item_between change.number (asked_row wanted change.ended) (asked_row wanted change.made)
    item_seen commits place change is =
        rw (is.number, is.ended, is.made) (by_rows commits place is.legal (commit_at commits (place + 1)) refl)

    pub tells_item : (change : Change K) (old new : Option (Row K)) (item : Option (Item K)) → old ≡ asked_row wanted change.ended → new ≡ asked_row wanted change.made → item ≡ item_between change.number old new → TellsItem wanted change item
    tells_item change old new item ended made told commits place is = rw (told, ended, made) (sym (item_seen commits place change is))
