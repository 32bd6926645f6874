use Rattle.std.proofs.Common.{sym, subst, inl}
use Rattle.std.specs.Prelude.{Contains}
use Rattle.feed.proofs.Members.{inserted_here, inserted_stays}
use Rattle.feed.proofs.enrolling.enrol.Goals as goal

pub returns-in_ok-insert-clause-ok : goal.returns-in_ok-insert-clause-ok
returns-in_ok-insert-clause-ok g c =
    let number = c.args.number in
    let before = c.args.always.now.keys in
    record {
      asked = inl (subst (λ l. Contains l number) (sym c.in_ok-insert.ensures.keys) (inserted_here number before));
      stay = λ other has. subst (λ l. Contains l other) (sym c.in_ok-insert.ensures.keys) (inserted_stays number other before has);
    }
