-- How an item is offered in a turn.
use Rattle.std.specs.Prelude.{◌≡◌, true, length, Result, Ok, Err}
use Rattle.key_class.specs.Rules.{Rules}
use Rattle.mailbox.specs.Outlets.{Rule}
use Rattle.key_class.specs.declared.refusal.Refusal.{Refusal}
use Rattle.key_class.specs.declared.refusal.Refusal.TheVariants as refusal
use Rattle.change_list.specs.declared.item.Item.{Item}
use Rattle.cursor.specs.declared.cursor.Turned.{Turned}
use Rattle.cursor.specs.declared.cursor.Turned.TheVariants as turned
use Rattle.cursor.specs.OpenCursors.{OpenCursor, sent}

module _ {K A : Type 0} (rules : Rules K A) (rule : Rule) where
  -- the outlet takes the item, or hands it back and everything is unchanged
  abbrev pub IsOffered : Item K → OpenCursor K A → Result Turned Refusal → OpenCursor K A → Type 0
  IsOffered item old (Ok turned.Offered) new = (rule.may_take old.room (length old.unread) ≡ true) × (new ≡ sent item old)
  IsOffered item old (Err refusal.NoRoom) new = (rule.may_refuse old.room (length old.unread) ≡ true) × (new ≡ old)
  IsOffered item old result new = ⊥
