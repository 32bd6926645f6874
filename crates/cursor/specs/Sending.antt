-- What a turn sends, and what it leaves unchanged.
use Rattle.std.specs.Prelude.{◌≡◌, ◌≤◌, true, false, List, [], ◌∷◌, ◌++◌, length}
use Rattle.change_list.specs.declared.write.Write.{Write}
use Rattle.change_list.specs.declared.item.Item.{Item}
use Rattle.change_list.specs.declared.item.Item.TheVariants as item
use Rattle.cursor.specs.OpenCursors.{OpenCursor}

module _ {K A : Type 0} (commits : List (Write K)) where
  -- a mark is sent only if one was asked for, after the last commit, and then none is asked for any more
  abbrev pub SendsItem : OpenCursor K A → Item K → OpenCursor K A → Type 0
  SendsItem old (item.Mark n) new = (old.asked ≡ true) × (n ≡ old.position) × (length commits ≤ n) × (new.asked ≡ false)
  SendsItem old other new = new.asked ≡ old.asked

  -- one item is sent, or none
  abbrev pub SendsItems : OpenCursor K A → List (Item K) → OpenCursor K A → Type 0
  SendsItems old [] new = new.asked ≡ old.asked
  SendsItems old (x ∷ []) new = SendsItem old x new
  SendsItems old (x ∷ y ∷ items) new = ⊥

  -- a turn goes forward, sends at most one item, and leaves the rest of the cursor unchanged
  pub record TurnsTo (old new : OpenCursor K A) : Type 0 where
    pub serial : new.serial ≡ old.serial
    pub query : new.query ≡ old.query
    pub follows : new.follows ≡ old.follows
    pub opened : new.opened ≡ old.opened
    pub room : new.room ≡ old.room
    pub offered : List (Item K)
    pub unread : new.unread ≡ old.unread ++ offered
    pub one : SendsItems old offered new
    pub forward : old.position ≤ new.position
    pub within : old.position ≤ length commits → new.position ≤ length commits
