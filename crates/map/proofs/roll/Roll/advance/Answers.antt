use Rattle.std.proofs.Common.{◌≡◌, ◌+◌, ◌<◌, ◌≤◌, ◌++◌, ◌∷◌, [], false, length, sym, ap, ◌∙◌, subst, arith}
use Rattle.change_list.specs.Changes.{commit_at}
use Rattle.snapshot.proofs.Ending.{at_place}
use Rattle.map.specs.Rolls.{Advances, roll_state}
use Rattle.map.proofs.Rolling.{advances_passed, flags_length, flags_made, names_noted, noted_on}
use Rattle.map.proofs.roll.Roll.advance.Goals as goal

pub note_end-requires : goal.note_end-requires
note_end-requires g c =
    let roll = c.self.inside in
    let ended = roll.ended.items in
    let n : c.len-noted.result ≡ length ended = omega (arith, c.len-noted.ensures) in
    let at = at_place roll.list (length ended) c.in-Some.write (ap (λ k. commit_at roll.list (k + 1)) (sym n) ∙ sym c.get.ensures ∙ c.in-Some.is) in
    names_noted roll.list ended roll.next c.self.invariant c.len-commits.ensures.legal c.in-Some.write at.0 c.push_reserved.new.self.items (c.push_reserved.ensures.items ∙ ap (λ l. l ++ false ∷ []) c.in_ok-reserve.ensures.items)

pub invariant_of-self-in-Some : goal.invariant_of-self-in-Some
invariant_of-self-in-Some g c =
    let roll = c.self.inside in
    let ended = roll.ended.items in
    let write = c.in-Some.write in
    let n : c.len-noted.result ≡ length ended = omega (arith, c.len-noted.ensures) in
    let at = at_place roll.list (length ended) write (ap (λ k. commit_at roll.list (k + 1)) (sym n) ∙ sym c.get.ensures ∙ c.in-Some.is) in
    let made = c.note_end.ensures ∙ flags_made ended c.push_reserved.new.self.items write (c.push_reserved.ensures.items ∙ ap (λ l. l ++ false ∷ []) c.in_ok-reserve.ensures.items) in
    noted_on roll.list ended roll.next c.self.invariant c.len-commits.ensures.legal write at.0 at.1 c.note_end.new.ended.items made (ap length made ∙ flags_length ended write)

pub returns-then-self-commits-clause-ok : goal.returns-then-self-commits-clause-ok
returns-then-self-commits-clause-ok g c =
    let roll = c.self.inside in
    let ended = roll.ended.items in
    let noted : length roll.list ≤ length ended = omega (arith, c.if-noted-commits.false, c.len-commits.ensures.len, c.len-noted.ensures) in
    let within : roll.next < length roll.list = omega (arith, c.if-self-commits.true, c.len-commits.ensures.len) in
    subst (λ old. Advances old (roll_state roll.list (length ended) (roll.next + 1))) c.self.view_is (advances_passed roll.list ended roll.next c.self.invariant noted within)
