use Rattle.std.proofs.Common.{refl, subst}
use Rattle.writes.specs.InsertVisits.{IsNextOnWay}
use Rattle.writes.specs.declared.approach.NextAction.TheVariants.{Make, Split}
use Rattle.writes.proofs.Nearing.{leads_there}
use Rattle.writes.proofs.approach.approach_leaf.Goals as goal

pub returns-in-Split-clause-nears : goal.returns-in-Split-clause-nears
returns-in-Split-clause-nears g c =
    let next = subst (λ s. IsNextOnWay g.C.KeyClass.rules s c.resumed-here.result c.args.key (Split c.in-Split.child)) c.search.ensures (rw c.in-Split.is at c.in_ok-child.ensures.next) in
    record { here = c.resumed-here.result; resumes = c.resumed-here.ensures.resumes; there = next.there; down = next.down; tells = (next.is.0, next.is.1, refl) }

pub returns-in_ok-move_pages-in-Make-clause-nears : goal.returns-in_ok-move_pages-in-Make-clause-nears
returns-in_ok-move_pages-in-Make-clause-nears g c =
    let next = subst (λ s. IsNextOnWay g.C.KeyClass.rules s c.resumed-here.result c.args.key (Make c.in-Make.event c.in-Make.then)) c.search.ensures (rw c.in-Make.is at c.in_ok-child.ensures.next) in
    let moved = c.in_ok-move_pages-in-Make.ensures.moved in
    let exists = leads_there g.C.KeyClass.rules c.args.world.now c.move_pages.new.world next.there c.args.key c.in-Make.event c.in-Make.then next.is moved c.move_pages.ensures.sound in
    record {
      here = c.resumed-here.result;
      resumes = c.resumed-here.ensures.resumes;
      there = next.there;
      down = next.down;
      tells = record { event = c.in-Make.event; leads = next.is; moved = moved; exists = exists };
    }
