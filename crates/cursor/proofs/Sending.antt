-- Each turn sends one item or none.
use Rattle.std.proofs.Common.{◌≡◌, ◌+◌, ◌<◌, ◌≤◌, true, List, [], ◌∷◌, ◌++◌, length, Result, Ok, Err, refl, sym, ap, ◌∙◌, arith, subst}
use Rattle.std.proofs.lemmas.List.{append-nil}
use Rattle.key_class.specs.Rules.{Rules}
use Rattle.mailbox.specs.Outlets.{Rule}
use Rattle.key_class.specs.declared.refusal.Refusal.{Refusal}
use Rattle.key_class.specs.declared.refusal.Refusal.TheVariants as refusal
use Rattle.change_list.specs.declared.write.Write.{Write}
use Rattle.change_list.specs.declared.item.Row.{Row}
use Rattle.change_list.specs.declared.item.Item.{Item}
use Rattle.change_list.specs.declared.item.Item.TheVariants as item
use Rattle.page_table.specs.Stacks.{StackItem}
use Rattle.page_table.specs.Trees.{Tree}
use Rattle.cursor.specs.declared.cursor.Turned.{Turned}
use Rattle.cursor.specs.declared.cursor.Turned.TheVariants as turned
use Rattle.cursor.specs.OpenCursors.{OpenCursor, sent, Turns}
use Rattle.cursor.specs.Sending.{SendsItem, TurnsTo}
use Rattle.change_list.proofs.Items.{IsChange}
use Rattle.cursor.proofs.Tasks as tasks
use Rattle.cursor.proofs.Tasks.{IsNext, IsAtEnd, Offers, of_row, of_change, of_mark}

module _ {K A : Type 0} (rules : Rules K A) (rule : Rule) (commits : List (Write K)) where
  module _ (old : OpenCursor K A) where
    stays : TurnsTo commits old old
    stays = record {
      serial = refl;
      query = refl;
      follows = refl;
      opened = refl;
      room = refl;
      offered = [];
      unread = sym (append-nil old.unread);
      one = refl;
      forward = omega arith;
      within = λ h. h;
    }

    sends_row : (row : Row K) → TurnsTo commits old (sent (item.Row row) old)
    sends_row row = record {
      serial = refl;
      query = refl;
      follows = refl;
      opened = refl;
      room = refl;
      offered = item.Row row ∷ [];
      unread = refl;
      one = refl;
      forward = omega arith;
      within = λ h. h;
    }

    asked_still : (x : Item K) → IsChange x → SendsItem commits old x (record old { position = old.position + 1; unread = old.unread ++ x ∷ [] })
    asked_still (item.Row row) h = refl
    asked_still (item.Inserted row) h = refl
    asked_still (item.Deleted n row) h = refl
    asked_still (item.Moved row other) h = refl
    asked_still (item.Mark n) h = absurd h

    sends_change : (x : Item K) → old.position < length commits → IsChange x → TurnsTo commits old (record old { position = old.position + 1; unread = old.unread ++ x ∷ [] })
    sends_change x l i = record {
      serial = refl;
      query = refl;
      follows = refl;
      opened = refl;
      room = refl;
      offered = x ∷ [];
      unread = refl;
      one = asked_still x i;
      forward = omega arith;
      within = λ h. omega (arith, l);
    }

    passes : old.position < length commits → TurnsTo commits old (record old { position = old.position + 1 })
    passes l = record {
      serial = refl;
      query = refl;
      follows = refl;
      opened = refl;
      room = refl;
      offered = [];
      unread = sym (append-nil old.unread);
      one = refl;
      forward = omega arith;
      within = λ h. omega (arith, l);
    }

    sends_mark : old.asked ≡ true → length commits ≤ old.position → TurnsTo commits old (sent (item.Mark old.position) old)
    sends_mark a l = record {
      serial = refl;
      query = refl;
      follows = refl;
      opened = refl;
      room = refl;
      offered = item.Mark old.position ∷ [];
      unread = refl;
      one = (a, refl, l, refl);
      forward = omega arith;
      within = λ h. h;
    }

    visits : (stack : List StackItem) (noted : List (Row K)) → TurnsTo commits old (record old { stack = stack; pending = noted })
    visits stack noted = record {
      serial = refl;
      query = refl;
      follows = refl;
      opened = refl;
      room = refl;
      offered = [];
      unread = sym (append-nil old.unread);
      one = refl;
      forward = omega arith;
      within = λ h. h;
    }

  pub turn_sends : (t : Tree K) (old new : OpenCursor K A) (result : Result Turned Refusal) → Turns rules rule t commits old result new → TurnsTo commits old new
  turn_sends t old new (Ok turned.Offered) s = by_item (tasks.offered rules rule commits old s.item s.due)
    where
      by_item : Offers rules rule commits old s.item → TurnsTo commits old new
      by_item (of_row row f e) = subst (TurnsTo commits old) (sym (s.after ∙ ap (λ x. sent x old) e)) (sends_row old row)
      by_item (of_change n c i) = subst (TurnsTo commits old) (sym (s.after ∙ c)) (sends_change old s.item n.within i)
      by_item (of_mark a q e) = subst (TurnsTo commits old) (sym (s.after ∙ ap (λ x. sent x old) e)) (sends_mark old q a.at_end)
  turn_sends t old new (Ok (turned.Visited page)) h = subst (TurnsTo commits old) (sym h.1.after) (visits old h.1.stack h.1.noted)
  turn_sends t old new (Ok (turned.Passed n)) h =
      subst (TurnsTo commits old) (sym (h.2 ∙ ap (λ p. record old { position = p }) h.1)) (passes old (tasks.passed rules rule commits old h.0).within)
  turn_sends t old new (Err refusal.NoRoom) h = subst (TurnsTo commits old) (sym h.unchanged) (stays old)
  turn_sends t old new (Err refusal.Idle) h = subst (TurnsTo commits old) (sym h.1) (stays old)
  turn_sends t old new (Err refusal.OutOfMemory) h = subst (TurnsTo commits old) (sym h.1) (stays old)
  turn_sends t old new (Err why) h = absurd h
