use Rattle.std.proofs.Common.{subst, ap, refl}
use mathlib.Core.List.{IsPrefix}
use lib.Dec.{leb}
use Rattle.history.proofs.Pasts.{prefix_test, prefix_either}
use Rattle.history.proofs.past.Past.begins.Goals as goal

pub returns-clause-tells : goal.returns-clause-tells
returns-clause-tells g c =
    let both = c.learn.new.self.log in
    let this : IsPrefix c.self.inside.seen.log both = subst (λ l. IsPrefix l both) (ap (λ s. s.log) c.again-both.ensures) c.learn.ensures.2 in
    rw (← c.self.view_is, ← c.other.view_is) (prefix_test c.self.inside.seen.log c.other.inside.seen.log both this c.learn.ensures.3 c.self.inside.count c.other.inside.count c.self.invariant.0 c.other.invariant.0 (leb c.self.inside.count c.other.inside.count) refl)

pub returns-clause-either : goal.returns-clause-either
returns-clause-either g c =
    let both = c.learn.new.self.log in
    let this : IsPrefix c.self.inside.seen.log both = subst (λ l. IsPrefix l both) (ap (λ s. s.log) c.again-both.ensures) c.learn.ensures.2 in
    rw (← c.self.view_is, ← c.other.view_is) (prefix_either c.self.inside.seen.log c.other.inside.seen.log both this c.learn.ensures.3 c.self.inside.count c.other.inside.count c.self.invariant.0 c.other.invariant.0 (leb c.self.inside.count c.other.inside.count) refl)
