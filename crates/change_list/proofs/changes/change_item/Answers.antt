use Rattle.std.proofs.Common.{rules, sym, ◌∙◌}
use Rattle.change_list.proofs.Items.{item_of_delete, item_of_move}
use Rattle.change_list.proofs.changes.change_item.Goals as goal

pub returns-in-Some-Delete : goal.returns-in-Some-Delete
returns-in-Some-Delete g c = c.delete_item.ensures ∙ sym (item_of_delete _ _ c.args.place _ c.len.ensures.legal (search rules))

pub returns-in-Some-Move : goal.returns-in-Some-Move
returns-in-Some-Move g c = c.move_item.ensures ∙ sym (item_of_move _ _ c.args.place _ _ c.len.ensures.legal (search rules))
