use Rattle.std.proofs.Common.{◌≡◌, ◌+◌, ◌<◌, ◌≤◌, false, length, sym, ap, ◌∙◌, subst, arith}
use Rattle.change_list.specs.Changes.{is_ended, row_at}
use Rattle.map.specs.Rolls.{Offers, RollState, offer_from}
use Rattle.map.proofs.Rolling.{flag_is, offer_giving, roll_offers}
use Rattle.map.proofs.roll.Roll.offer.Goals as goal

pub returns-then-len-commits-clause-ahead : goal.returns-then-len-commits-clause-ahead
returns-then-len-commits-clause-ahead g c = subst (λ r. Offers r) c.self.view_is (roll_offers c.self.inside.list c.self.inside.ended.items c.self.inside.next c.self.invariant)

pub returns-in_default-clause-ahead : goal.returns-in_default-clause-ahead
returns-in_default-clause-ahead g c = subst (λ r. Offers r) c.self.view_is (roll_offers c.self.inside.list c.self.inside.ended.items c.self.inside.next c.self.invariant)

pub returns-in-Some-clause-is : goal.returns-in-Some-clause-is
returns-in-Some-clause-is g c =
    let commits = c.self.inside.list in
    let next = c.self.inside.next in
    let ended = c.self.inside.ended.items in
    let noted : length commits ≤ length ended = omega (arith, c.if-len-commits.false, c.len-commits.ensures.len, c.len.ensures) in
    let within : next < length commits = omega (arith, c.if-self-commits.false, c.len-commits.ensures.len) in
    let flag : is_ended commits (next + 1) ≡ false = flag_is commits ended next c.self.invariant noted within c.in-Some-false.field-0 (sym c.get.ensures ∙ c.in-Some-false.is) ∙ c.in-Some-false.field-0-test in
    sym (ap (λ (r : RollState _). r.offer) (sym c.self.view_is) ∙ offer_giving commits (length ended) next noted within ∙ ap (λ b. offer_from b (row_at commits (next + 1))) flag
    ∙ ap (offer_from false) (sym c.row.ensures ∙ c.in-Some.is))

pub returns-in-Some-clause-ahead : goal.returns-in-Some-clause-ahead
returns-in-Some-clause-ahead g c = subst (λ r. Offers r) c.self.view_is (roll_offers c.self.inside.list c.self.inside.ended.items c.self.inside.next c.self.invariant)

pub returns-in-None-clause-ahead : goal.returns-in-None-clause-ahead
returns-in-None-clause-ahead g c = subst (λ r. Offers r) c.self.view_is (roll_offers c.self.inside.list c.self.inside.ended.items c.self.inside.next c.self.invariant)
