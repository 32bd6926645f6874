-- What the task of a cursor tells of it.
use Rattle.std.proofs.Common.{◌≡◌, ◌+◌, ◌<◌, ◌≤◌, ℕ, Bool, true, false, List, [], ◌∷◌, ◌++◌, length, Option, Some, None, refl, arith, subst}
use Rattle.std.specs.Prelude.{slice_get, nat_lt, IfSome}
use Rattle.key_class.specs.Rules.{Rules}
use Rattle.mailbox.specs.Outlets.{Rule}
use Rattle.change_list.specs.declared.write.Write.{Write}
use Rattle.change_list.specs.declared.item.Row.{Row}
use Rattle.change_list.specs.declared.item.Item.{Item}
use Rattle.change_list.specs.declared.item.Item.TheVariants as item
use Rattle.change_list.specs.Changes.{item_at}
use Rattle.page_table.specs.Stacks.{StackItem}
use Rattle.cursor.specs.OpenCursors.{OpenCursor, offer, visit, pass, rest, is_scanning, task_of, sent, wants, next_change, task}
use Rattle.change_list.proofs.Items.{IsChange, item_is_change}

none_pending : {X : Type 0} (xs : List X) → slice_get xs 0 ≡ None → xs ≡ []
none_pending [] h = refl
none_pending (x ∷ xs) h = absurd (cc)

pub none_on_stack : (stack : List StackItem) → is_scanning stack ≡ false → stack ≡ []
none_on_stack [] h = refl
none_on_stack (i ∷ stack) h = absurd (cc)

module _ {K : Type 0} where
  -- why an item is to be offered
  data IsDue (front : Option (Row K)) (scanning : Bool) (change : Option (Option (Item K))) (asked : Bool) (position : ℕ) (x : Item K) : Type 0 where
    due_row : (row : Row K) → front ≡ Some row → x ≡ item.Row row → IsDue front scanning change asked position x
    due_change : front ≡ None → scanning ≡ false → change ≡ Some (Some x) → IsDue front scanning change asked position x
    due_mark : front ≡ None → scanning ≡ false → change ≡ None → asked ≡ true → x ≡ item.Mark position → IsDue front scanning change asked position x

  is_due : (front : Option (Row K)) (scanning : Bool) (change : Option (Option (Item K))) (asked : Bool) (position : ℕ) (x : Item K)
      → task_of front scanning change asked position ≡ offer x → IsDue front scanning change asked position x
  is_due (Some row) scanning change asked position x h = due_row row refl (cc)
  is_due None true change asked position x h = absurd (cc)
  is_due None false (Some (Some y)) asked position x h = due_change refl refl (cc)
  is_due None false (Some None) asked position x h = absurd (cc)
  is_due None false None true position x h = due_mark refl refl refl refl (cc)
  is_due None false None false position x h = absurd (cc)

  visit_due : (front : Option (Row K)) (scanning : Bool) (change : Option (Option (Item K))) (asked : Bool) (position : ℕ)
      → task_of front scanning change asked position ≡ visit → (front ≡ None) × (scanning ≡ true)
  visit_due (Some row) scanning change asked position h = absurd (cc)
  visit_due None true change asked position h = (refl, refl)
  visit_due None false (Some (Some y)) asked position h = absurd (cc)
  visit_due None false (Some None) asked position h = absurd (cc)
  visit_due None false None true position h = absurd (cc)
  visit_due None false None false position h = absurd (cc)

  pass_due : (front : Option (Row K)) (scanning : Bool) (change : Option (Option (Item K))) (asked : Bool) (position : ℕ)
      → task_of front scanning change asked position ≡ pass → (front ≡ None) × (scanning ≡ false) × (change ≡ Some None)
  pass_due (Some row) scanning change asked position h = absurd (cc)
  pass_due None true change asked position h = absurd (cc)
  pass_due None false (Some (Some y)) asked position h = absurd (cc)
  pass_due None false (Some None) asked position h = (refl, refl, refl)
  pass_due None false None true position h = absurd (cc)
  pass_due None false None false position h = absurd (cc)

  pub rest_due : (front : Option (Row K)) (scanning : Bool) (change : Option (Option (Item K))) (asked : Bool) (position : ℕ)
      → task_of front scanning change asked position ≡ rest → (front ≡ None) × (scanning ≡ false) × (change ≡ None) × (asked ≡ false)
  rest_due (Some row) scanning change asked position h = absurd (cc)
  rest_due None true change asked position h = absurd (cc)
  rest_due None false (Some (Some y)) asked position h = absurd (cc)
  rest_due None false (Some None) asked position h = absurd (cc)
  rest_due None false None true position h = absurd (cc)
  rest_due None false None false position h = (refl, refl, refl, refl)

module _ {K A : Type 0} (rules : Rules K A) (rule : Rule) (commits : List (Write K)) (k : OpenCursor K A) where
  -- neither a row is pending nor a page left to be visited
  pub record HasScanned : Type 0 where
    pub none_pending : k.pending ≡ []
    pub none_left : k.stack ≡ []

  -- the next commit, and its item where it is wanted
  pub record IsNext (change : Option (Item K)) : Type 0 where
    pub scanned : HasScanned
    pub within : k.position < length commits
    pub is : item_at (wants rules rule k) commits k.position ≡ change

  pub record IsAtEnd : Type 0 where
    pub scanned : HasScanned
    pub at_end : length commits ≤ k.position

  -- why an item is offered: it is the front of the pending rows, the item of the next commit, or a mark that was asked
  pub data Offers (x : Item K) : Type 0 where
    of_row : (r : Row K) → slice_get k.pending 0 ≡ Some r → x ≡ item.Row r → Offers x
    of_change : IsNext (Some x) → sent x k ≡ record k { position = k.position + 1; unread = k.unread ++ x ∷ [] } → IsChange x → Offers x
    of_mark : IsAtEnd → k.asked ≡ true → x ≡ item.Mark k.position → Offers x

  scanned : slice_get k.pending 0 ≡ None → is_scanning k.stack ≡ false → HasScanned
  scanned p s = record { none_pending = none_pending k.pending p; none_left = none_on_stack k.stack s }

  next_within : (change : Option (Item K)) → next_change rules rule commits k ≡ Some change → (k.position < length commits) × (item_at (wants rules rule k) commits k.position ≡ change)
  next_within change h = by_test (nat_lt k.position (length commits)) refl
    where
      by_test : (b : Bool) → nat_lt k.position (length commits) ≡ b → (k.position < length commits) × (item_at (wants rules rule k) commits k.position ≡ change)
      by_test true e =
          let f : Some (item_at (wants rules rule k) commits k.position) ≡ Some change = rw e at h in
          let l : k.position < length commits = search (arith, e) in
          (l, cc)
      by_test false e = let f : None ≡ Some change = rw e at h in absurd (cc)

  next_none : next_change rules rule commits k ≡ None → length commits ≤ k.position
  next_none h = by_test (nat_lt k.position (length commits)) refl
    where
      by_test : (b : Bool) → nat_lt k.position (length commits) ≡ b → length commits ≤ k.position
      by_test true e = let f : Some (item_at (wants rules rule k) commits k.position) ≡ None = rw e at h in absurd (cc)
      by_test false e = search (arith, e)

  sent_change : (x : Item K) → IsChange x → sent x k ≡ record k { position = k.position + 1; unread = k.unread ++ x ∷ [] }
  sent_change (item.Row row) h = absurd h
  sent_change (item.Inserted row) h = refl
  sent_change (item.Deleted n row) h = refl
  sent_change (item.Moved row other) h = refl
  sent_change (item.Mark n) h = absurd h

  pub offered : (x : Item K) → task rules rule commits k ≡ offer x → Offers x
  offered x h = by_due (is_due (slice_get k.pending 0) (is_scanning k.stack) (next_change rules rule commits k) k.asked k.position x h)
    where
      by_due : IsDue (slice_get k.pending 0) (is_scanning k.stack) (next_change rules rule commits k) k.asked k.position x → Offers x
      by_due (due_row r f e) = of_row r f e
      by_due (due_change f s c) =
          let n = next_within (Some x) c in
          let i : IsChange x = subst (λ o. IfSome o IsChange) n.1 (item_is_change (wants rules rule k) commits k.position) in
          of_change (record { scanned = scanned f s; within = n.0; is = n.1 }) (sent_change x i) i
      by_due (due_mark f s c a e) = of_mark (record { scanned = scanned f s; at_end = next_none c }) a e

  pub visited : task rules rule commits k ≡ visit → (k.pending ≡ []) × (is_scanning k.stack ≡ true)
  visited h = let d = visit_due (slice_get k.pending 0) (is_scanning k.stack) (next_change rules rule commits k) k.asked k.position h in (none_pending k.pending d.0, d.1)

  pub passed : task rules rule commits k ≡ pass → IsNext None
  passed h =
      let d = pass_due (slice_get k.pending 0) (is_scanning k.stack) (next_change rules rule commits k) k.asked k.position h in
      let n = next_within None d.2 in
      record { scanned = scanned d.0 d.1; within = n.0; is = n.1 }

  pub rested : task rules rule commits k ≡ rest → IsAtEnd × (k.asked ≡ false)
  rested h =
      let d = rest_due (slice_get k.pending 0) (is_scanning k.stack) (next_change rules rule commits k) k.asked k.position h in
      (record { scanned = scanned d.0 d.1; at_end = next_none d.2 }, d.3)

  -- nothing in front, and pages left: a page is visited
  pub visit_is_due : k.pending ≡ [] → is_scanning k.stack ≡ true → task rules rule commits k ≡ visit
  visit_is_due p s = rw (p, s) refl

  -- a row in front is offered
  pub row_is_due : (row : Row K) → slice_get k.pending 0 ≡ Some row → task rules rule commits k ≡ offer (item.Row row)
  row_is_due row h = rw h refl
