use Rattle.std.proofs.Common.{◌∙◌, length, sym, ap, subst}
use Rattle.desk.specs.Weaving.{NamesEachOnce}
use Rattle.desk.proofs.Answering.{woven_of, told_of}
use Rattle.desk.proofs.finish.DeskOver+World+C+Ring+C+Key+L.finish.Goals as goal

pub returns-then-each_once-clause-legal : goal.returns-then-each_once-clause-legal
returns-then-each_once-clause-legal g c = rw c.new.ensures c.len-sum.ensures.legal

pub returns-then-each_once-clause-told : goal.returns-then-each_once-clause-told
returns-then-each_once-clause-told g c =
    let one = c.open_up-world.ensures.history ∙ sym (c.into_commits-commits.ensures ∙ ap (λ s. s.commits) c.open_up-world.ensures.world) in
    rw c.new.ensures (told_of _ _ _ _ one (c.as_slice.ensures.value ∙ c.audit_seats.ensures.seats) c.audit_told.ensures.told)

pub returns-then-each_once-clause-woven : goal.returns-then-each_once-clause-woven
returns-then-each_once-clause-woven g c =
    let one = c.open_up-world.ensures.history ∙ sym (c.into_commits-commits.ensures ∙ ap (λ s. s.commits) c.open_up-world.ensures.world) in
    rw c.new.ensures
    (woven_of _ _ _ _ _ one c.as_slice.ensures.value c.len-sum.ensures.len c.audit_told.ensures.told c.audit_told.ensures.answers
    (subst (λ l. NamesEachOnce c.len-sum.result l) (c.as_slice-2.ensures.value ∙ sym c.as_slice.ensures.value) (c.each_once.ensures.0 c.if-each_once.true)))

pub returns-clause-torn : goal.returns-clause-torn
returns-clause-torn g c = (
  c.audit_seats.ensures.seats,
  ap length c.into_commits-commits.ensures ∙ ap (λ s. length s.commits) c.open_up-world.ensures.world ∙ c.open_up-world.ensures.total ∙ sym c.audit_seats.ensures.total,
  λ w.
      let yes = c.each_once.ensures.1 (subst (λ l. NamesEachOnce c.len-sum.result l) (sym c.as_slice-2.ensures.value) (subst (λ m. NamesEachOnce m c.audit_seats.new.seats.items) (sym c.len-sum.ensures.len) w.once)) in
      absurd (cc (yes, c.if-each_once.false)),
)
