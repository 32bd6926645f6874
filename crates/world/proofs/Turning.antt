-- What a turn leaves of a cursor.
use Rattle.std.proofs.Common.{Bool, ◌≡◌, ◌+◌, ◌≤◌, ℕ, List, length, refl, sym, ap, ◌∙◌, arith, subst, Ok, Err, Result}
use Rattle.mailbox.specs.Outlets.{Rule}
use Rattle.key_class.specs.Rules.{IsLawful, Rules}
use Rattle.key_class.specs.declared.refusal.Refusal.{Refusal}
use Rattle.key_class.specs.declared.refusal.Refusal.TheVariants as refusal
use Rattle.change_list.specs.declared.write.Write.{Write}
use Rattle.change_list.specs.declared.item.Item.{Item}
use Rattle.change_list.specs.declared.item.Item.TheVariants as item
use Rattle.page_table.specs.Trees.{Tree}
use Rattle.page_table.specs.Soundness.{IsSound}
use Rattle.cursor.specs.declared.cursor.Turned.{Turned}
use Rattle.cursor.specs.declared.cursor.Turned.TheVariants as turned
use Rattle.cursor.specs.OpenCursors.{OpenCursor, Turns, sent}
use Rattle.page_table.specs.Stacks.{IsStack}
use Rattle.cursor.proofs.Tasks.{Offers, of_row, of_change, of_mark, offered, passed}
use Rattle.cursor.proofs.Turning.{turn_stack}
use Rattle.world.specs.States.{IsAtWork}

sent_serial : {K A : Type 0} (x : Item K) (k : OpenCursor K A) → (sent x k).serial ≡ k.serial
sent_serial (item.Row row) k = refl
sent_serial (item.Inserted row) k = refl
sent_serial (item.Deleted n row) k = refl
sent_serial (item.Moved row other) k = refl
sent_serial (item.Mark n) k = refl

module _ {K A : Type 0} (rules : Rules K A) (rule : Rule) (t : Tree K) (commits : List (Write K)) (before later : OpenCursor K A) where
  pub turn_unchanged : (why : Refusal) → Turns rules rule t commits before (Err why) later → later ≡ before
  turn_unchanged refusal.NoRoom h = h.unchanged
  turn_unchanged refusal.Idle h = h.1
  turn_unchanged refusal.OutOfMemory h = h.1
  turn_unchanged why h = absurd h

  pub turn_serial : (result : Result Turned Refusal) → Turns rules rule t commits before result later → later.serial ≡ before.serial
  turn_serial (Ok turned.Offered) h = ap (λ (k : OpenCursor K A). k.serial) h.after ∙ sent_serial h.item before
  turn_serial (Ok (turned.Visited page)) h = ap (λ (k : OpenCursor K A). k.serial) h.1.after
  turn_serial (Ok (turned.Passed n)) h = ap (λ (k : OpenCursor K A). k.serial) h.2
  turn_serial (Err why) h = ap (λ (k : OpenCursor K A). k.serial) (turn_unchanged why h)

module _ {K A : Type 0} (rules : Rules K A) (rule : Rule) {same_key : K → K → Bool} {same_atom : A → A → Bool} (lawful : IsLawful rules same_key same_atom) (t : Tree K) (commits : List (Write K)) (fan : ℕ) (sound : IsSound rules.is_cover fan t) (before later : OpenCursor K A) where
  pub turn_work : (result : Result Turned Refusal) → IsAtWork t commits before → Turns rules rule t commits before result later → IsAtWork t commits later
  turn_work (Ok turned.Offered) h s =
      let stack = turn_stack rules rule lawful fan t sound commits before later h.stack (Ok turned.Offered) s in
      by_item (offered rules rule commits before s.item s.due) stack
    where
      by_item : Offers rules rule commits before s.item → IsStack t later.stack → IsAtWork t commits later
      by_item (of_row row f e) stack =
          let after = s.after ∙ ap (λ x. sent x before) e in
          record { stack = stack; from_opening = subst (λ k. k.opened ≤ k.position) (sym after) h.from_opening; within = subst (λ k. k.position ≤ length commits) (sym after) h.within }
      by_item (of_change n c i) stack =
          let after = s.after ∙ c in
          record { stack = stack; from_opening = subst (λ k. k.opened ≤ k.position) (sym after) (omega (arith, h.from_opening)); within = subst (λ k. k.position ≤ length commits) (sym after) (omega (arith, n.within)) }
      by_item (of_mark a q e) stack =
          let after = s.after ∙ ap (λ x. sent x before) e in
          record { stack = stack; from_opening = subst (λ k. k.opened ≤ k.position) (sym after) h.from_opening; within = subst (λ k. k.position ≤ length commits) (sym after) h.within }
  turn_work (Ok (turned.Visited page)) h v =
      record {
        stack = turn_stack rules rule lawful fan t sound commits before later h.stack (Ok (turned.Visited page)) v;
        from_opening = subst (λ k. k.opened ≤ k.position) (sym v.1.after) h.from_opening;
        within = subst (λ k. k.position ≤ length commits) (sym v.1.after) h.within;
      }
  turn_work (Ok (turned.Passed n)) h p =
      let d = passed rules rule commits before p.0 in
      let after : later ≡ record before { position = before.position + 1 } = p.2 ∙ ap (λ m. record before { position = m }) p.1 in
      record {
        stack = turn_stack rules rule lawful fan t sound commits before later h.stack (Ok (turned.Passed n)) p;
        from_opening = subst (λ k. k.opened ≤ k.position) (sym after) (omega (arith, h.from_opening));
        within = subst (λ k. k.position ≤ length commits) (sym after) (omega (arith, d.within));
      }
  turn_work (Err why) h r = subst (λ k. IsAtWork t commits k) (sym (turn_unchanged rules rule t commits before later why r)) h
