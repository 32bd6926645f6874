-- What contracts see of an outlet: the items still to be taken, and what an offer and a take do to them.
use Rattle.std.specs.Prelude.{◌≡◌, ℕ, nat_lt, nat_le, Bool, true, false, List, [], ◌∷◌, ◌++◌, length}
use Rattle.change_list.specs.declared.item.Item.{Item}
use Rattle.mailbox.specs.declared.outlet.Taken.{Taken}
use Rattle.mailbox.specs.declared.outlet.Taken.TheVariants as taken

-- what is known about offers to a kind of outlet
pub record Rule : Type 0 where
  -- whether an offer may be taken, with this room and this many unread items
  pub may_take : ℕ → ℕ → Bool
  -- whether an offer may be handed back, with this room and this many unread items
  pub may_refuse : ℕ → ℕ → Bool
  -- whether it is emptied elsewhere, by a consumer
  pub is_emptied_elsewhere : Bool

-- a tray takes an item if it has room, and hands it back if it has none
abbrev pub tray_rule : Rule
tray_rule = record { may_take = λ room count. nat_lt count room; may_refuse = λ room count. nat_le room count; is_emptied_elsewhere = false }

-- a bounded list of items
pub record Tray (K : Type 0) : Type 0 where
  -- how many items it has room for
  pub room : ℕ
  pub held : List (Item K)

module _ {K : Type 0} where
  -- with these unread items an offer may be taken; may be handed back
  abbrev pub MayTake : Rule → ℕ → List (Item K) → Type 0
  MayTake rule room items = rule.may_take room (length items) ≡ true

  abbrev pub MayRefuse : Rule → ℕ → List (Item K) → Type 0
  MayRefuse rule room items = rule.may_refuse room (length items) ≡ true

  -- one item more in a tray, at the end
  abbrev pub with_item : Tray K → Item K → Tray K
  with_item tray item = record tray { held = tray.held ++ item ∷ [] }

  -- A take gives the front item, and `Nothing` exactly if there is none. If the outlet is emptied elsewhere, it takes
  -- nothing.
  abbrev pub Takes : Bool → List (Item K) → Taken K → List (Item K) → Type 0
  Takes elsewhere before (taken.Item item) after = (elsewhere ≡ false) × (before ≡ item ∷ after)
  Takes elsewhere before taken.Nothing after = (elsewhere ≡ false) × (before ≡ []) × (after ≡ [])
  Takes elsewhere before taken.Elsewhere after = (elsewhere ≡ true) × (after ≡ before)
