use Rattle.std.proofs.Common.{sym, ◌∙◌, subst}
use Rattle.change_list.specs.Records.{IsKeptAt}
use Rattle.change_list.proofs.Keeping.{inserted_row, moved_row, no_row_of_delete}
use Rattle.change_list.proofs.Made.{row_of_none}
use Rattle.change_list.proofs.view.View.row.Goals as goal

pub returns-in_err-key : goal.returns-in_err-key
returns-in_err-key g c = c.from_residual.ensures ∙ sym (row_of_none c.args.self.now c.args.number c.in_err-key.ensures)

pub returns-in-Insert : goal.returns-in-Insert
returns-in-Insert g c = inserted_row c.args.self.now c.args.number c.in-Insert.key c.in-Insert.tag (subst (λ r. IsKeptAt c.args.self.now c.args.number r) c.in-Insert.is c.in_ok-key.ensures)

pub returns-in-Delete : goal.returns-in-Delete
returns-in-Delete g c = no_row_of_delete c.args.self.now c.args.number _ (subst (λ r. IsKeptAt c.args.self.now c.args.number r) c.in-Delete.is c.in_ok-key.ensures)

pub returns-in_ok-tag-in-Move : goal.returns-in_ok-tag-in-Move
returns-in_ok-tag-in-Move g c = moved_row c.args.self.now c.args.number c.in-Move.key c.in-Move.field-1 c.in-Move.origin c.in_ok-tag-in-Move.tag
    (subst (λ r. IsKeptAt c.args.self.now c.args.number r) c.in-Move.is c.in_ok-key.ensures) (sym c.in_ok-tag-in-Move.was ∙ c.inserted_tag.ensures)
