use Rattle.desk.proofs.Closings.{visit_less, of_view, no_fewer, kept_stand}
use Rattle.desk.proofs.taker.Taker.close.Goals as goal

pub returns-in-None-clause-closes : goal.returns-in-None-clause-closes
returns-in-None-clause-closes g c =
    rw (← c.self.view_is) (visit_less g.C.KeyClass.rules _ _ (λ old new did. (did.0, tt, did.2)) c.close_with_view.ensures.visit)

pub returns-clause-closes : goal.returns-clause-closes
returns-clause-closes g c =
    rw (← c.self.view_is)
    (visit_less g.C.KeyClass.rules _ _ (λ old new did. (did.0, of_view c.checked.result c.in-Some.commits old.commits c.checked.ensures.list (rw c.in-Some.is at did.1), did.2)) c.close_with_view.ensures.visit)

pub returns-clause-taken : goal.returns-clause-taken
returns-clause-taken g c = rw (← c.self.view_is) c.checked.ensures.taken

pub returns-clause-follows : goal.returns-clause-follows
returns-clause-follows g c = rw (← c.self.view_is) c.checked.ensures.follows

pub returns-clause-opened : goal.returns-clause-opened
returns-clause-opened g c = rw (← c.self.view_is) c.checked.ensures.opened

pub returns-clause-share : goal.returns-clause-share
returns-clause-share g c =
    no_fewer c.checked.result c.in-Some.commits _ c.checked.ensures.list (rw c.in-Some.is at c.close_with_view.ensures.share)

pub returns-clause-stamps : goal.returns-clause-stamps
returns-clause-stamps g c = kept_stand c.checked.result c.in-Some.commits _ c.checked.ensures.list (rw c.in-Some.is at c.close_with_view.ensures.stamps)

pub returns-clause-commits : goal.returns-clause-commits
returns-clause-commits g c =
    of_view c.checked.result c.in-Some.commits _ c.checked.ensures.list (rw c.in-Some.is at c.close_with_view.ensures.view)
