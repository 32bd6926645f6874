use Rattle.std.proofs.Common.{◌∙◌, refl, subst}
use Rattle.descent.proofs.Rising.{grow_makes, post_makes, split_makes}
use Rattle.descent.specs.NextSteps.{IsNextStep, IsOpenBelow}
use Rattle.descent.specs.declared.step.WayStep.TheVariants as step
use Rattle.world.specs.Steps.{Posts}
use Rattle.world.specs.declared.event.Event.TheVariants as event
use Rattle.writes.specs.PageSteps.{Moves}
use Rattle.writes.proofs.Coming.{come_by}
use Rattle.writes.proofs.MovingPages.{moves_more, moves_none}
use Rattle.writes.proofs.OnWay.{made_left, enlarged_left, on_child, on_enlarged, on_resumed, on_root, on_root_again}
use Rattle.writes.specs.Ways.{begun}
use Rattle.writes.proofs.way_down.make_way.Given as given
use Rattle.writes.proofs.way_down.make_way.Goals as goal

pub returns-in_err-move_pages-in-Grow-clause-moved : goal.returns-in_err-move_pages-in-Grow-clause-moved
returns-in_err-move_pages-in-Grow-clause-moved g c = moves_more g.C.KeyClass.rules g.O.Outlet.rule c.args.world.now c.descending.world c.move_pages.new.world c.descending.invariant.on.moved c.move_pages.ensures.kept

pub descending-smaller-in-Grow : goal.descending-smaller-in-Grow
descending-smaller-in-Grow g c =
    made_left c.descending.world c.move_pages.new.world g.C.KeyClass.rules.is_cover _ c.descending.page 0 c.move_pages.ensures.sound c.move_pages.ensures.sound.tree.sound.root_exists c.in_ok-move_pages-in-Grow.ensures.moved (grow_makes g.C.KeyClass.rules.union_of c.descending.world.search.tree c.in-Grow.sides)

pub descending-preserved-in-Grow : goal.descending-preserved-in-Grow
descending-preserved-in-Grow g c = record {
  on = on_root_again g.C.KeyClass.rules g.O.Outlet.rule c.args.key c.args.world.now c.descending.world c.move_pages.new.world c.descending.page c.descending.invariant.on c.move_pages.ensures.sound c.move_pages.ensures.kept;
  come = come_by g.C.KeyClass.rules c.args.key c.args.world.now c.descending.world c.move_pages.new.world c.descending.page 0 (step.Grow c.in-Grow.sides) c.descending.invariant.come c.search.result.now c.search.ensures (rw c.in-Grow.is at c.in_ok-sides.ensures.step)
      (refl, c.in_ok-move_pages-in-Grow.ensures.moved);
}

pub returns-in_err-move_pages-in-Post-clause-moved : goal.returns-in_err-move_pages-in-Post-clause-moved
returns-in_err-move_pages-in-Post-clause-moved g c = moves_more g.C.KeyClass.rules g.O.Outlet.rule c.args.world.now c.descending.world c.move_pages-in-Post.new.world c.descending.invariant.on.moved c.move_pages-in-Post.ensures.kept

pub descending-smaller-in-Post : goal.descending-smaller-in-Post
descending-smaller-in-Post g c =
    made_left c.descending.world c.move_pages-in-Post.new.world g.C.KeyClass.rules.is_cover _ c.descending.page c.resumed-page.result c.move_pages-in-Post.ensures.sound c.resumed-page.ensures.exists c.in_ok-move_pages-in-Post.ensures.moved.after (post_makes c.descending.world.search.tree _ _ c.in_ok-move_pages-in-Post.ensures.moved.sibling)

pub descending-preserved-in-Post : goal.descending-preserved-in-Post
descending-preserved-in-Post g c = record {
  on = on_resumed g.C.KeyClass.rules g.O.Outlet.rule c.args.key c.args.world.now c.descending.world c.move_pages-in-Post.new.world c.descending.page c.resumed-page.result c.descending.invariant.on c.move_pages-in-Post.ensures.kept
      c.resumed-page.ensures.exists c.resumed-page.ensures.covers c.resumed-page.ensures.room;
  come = come_by g.C.KeyClass.rules c.args.key c.args.world.now c.descending.world c.move_pages-in-Post.new.world c.descending.page c.resumed-page.result (step.Post c.in-Post.parent c.in-Post.child) c.descending.invariant.come c.search.result.now c.search.ensures (rw c.in-Post.is at c.in_ok-sides.ensures.step) (
    c.resumed-page.ensures.resumes,
    subst (λ child. Posts c.descending.world c.in-Post.parent child c.move_pages-in-Post.new.world) c.from-in-Post.ensures
        (subst (λ parent. Posts c.descending.world parent c.from-in-Post.result c.move_pages-in-Post.new.world) c.from.ensures c.in_ok-move_pages-in-Post.ensures.moved),
  );
}

pub returns-in_err-move_pages-in-Split-clause-moved : goal.returns-in_err-move_pages-in-Split-clause-moved
returns-in_err-move_pages-in-Split-clause-moved g c = moves_more g.C.KeyClass.rules g.O.Outlet.rule c.args.world.now c.descending.world c.move_pages-in-Split.new.world c.descending.invariant.on.moved c.move_pages-in-Split.ensures.kept

pub descending-smaller-in-Split : goal.descending-smaller-in-Split
descending-smaller-in-Split g c =
    made_left c.descending.world c.move_pages-in-Split.new.world g.C.KeyClass.rules.is_cover _ c.descending.page c.resumed-page-in-Split.result c.move_pages-in-Split.ensures.sound c.resumed-page-in-Split.ensures.exists c.in_ok-move_pages-in-Split.ensures.moved (split_makes g.C.KeyClass.rules.union_of c.descending.world.search.tree _ c.in-Split.sides)

pub descending-preserved-in-Split : goal.descending-preserved-in-Split
descending-preserved-in-Split g c = record {
  on = on_resumed g.C.KeyClass.rules g.O.Outlet.rule c.args.key c.args.world.now c.descending.world c.move_pages-in-Split.new.world c.descending.page c.resumed-page-in-Split.result c.descending.invariant.on c.move_pages-in-Split.ensures.kept
      c.resumed-page-in-Split.ensures.exists c.resumed-page-in-Split.ensures.covers c.resumed-page-in-Split.ensures.room;
  come = come_by g.C.KeyClass.rules c.args.key c.args.world.now c.descending.world c.move_pages-in-Split.new.world c.descending.page c.resumed-page-in-Split.result (step.Split c.in-Split.child c.in-Split.sides) c.descending.invariant.come c.search.result.now c.search.ensures (rw c.in-Split.is at c.in_ok-sides.ensures.step)
      (c.resumed-page-in-Split.ensures.resumes, subst (λ child. Moves g.C.KeyClass.rules.union_of c.descending.world (event.Split child c.in-Split.sides) c.move_pages-in-Split.new.world) c.from-in-Split.ensures c.in_ok-move_pages-in-Split.ensures.moved);
}

pub returns-in_err-move_pages-in-Enlarge-clause-moved : goal.returns-in_err-move_pages-in-Enlarge-clause-moved
returns-in_err-move_pages-in-Enlarge-clause-moved g c = moves_more g.C.KeyClass.rules g.O.Outlet.rule c.args.world.now c.descending.world c.move_pages-in-Enlarge.new.world c.descending.invariant.on.moved c.move_pages-in-Enlarge.ensures.kept

open_child : (g : given.Over) (c : goal.In_ok-move_pages-in-Enlarge g) → IsOpenBelow c.descending.world.search c.descending.page c.in-Enlarge.child
open_child g c = subst (λ s. IsOpenBelow s c.descending.page c.in-Enlarge.child) c.search.ensures (rw c.in-Enlarge.is at c.in_ok-sides.ensures.step).2

enlarged_to : (g : given.Over) (c : goal.In_ok-move_pages-in-Enlarge g) → Moves g.C.KeyClass.rules.union_of c.descending.world (event.Enlarge c.descending.page c.in-Enlarge.child c.args.key) c.move_pages-in-Enlarge.new.world
enlarged_to g c =
    let next = rw c.in-Enlarge.is at c.in_ok-sides.ensures.step in
    subst (λ child. Moves g.C.KeyClass.rules.union_of c.descending.world (event.Enlarge c.descending.page child c.args.key) c.move_pages-in-Enlarge.new.world) c.from-in-Enlarge-2.ensures
    (subst (λ parent. Moves g.C.KeyClass.rules.union_of c.descending.world (event.Enlarge parent c.from-in-Enlarge-2.result c.args.key) c.move_pages-in-Enlarge.new.world) (c.from-in-Enlarge.ensures ∙ next.0) c.in_ok-move_pages-in-Enlarge.ensures.moved)

pub descending-smaller-in-Enlarge : goal.descending-smaller-in-Enlarge
descending-smaller-in-Enlarge g c =
    enlarged_left c.descending.world c.move_pages-in-Enlarge.new.world g.C.KeyClass.rules.union_of c.descending.page c.in-Enlarge.child c.args.key (open_child g c) (enlarged_to g c)

pub descending-preserved-in-Enlarge : goal.descending-preserved-in-Enlarge
descending-preserved-in-Enlarge g c = record {
  on = on_enlarged g.C.KeyClass.rules g.O.Outlet.rule c.args.key g.met.C.KeyClass.lawful.bounds.right c.args.world.now c.descending.world c.move_pages-in-Enlarge.new.world c.descending.page c.in-Enlarge.child
      c.descending.invariant.on (open_child g c) c.move_pages-in-Enlarge.ensures.kept (enlarged_to g c);
  come = come_by g.C.KeyClass.rules c.args.key c.args.world.now c.descending.world c.move_pages-in-Enlarge.new.world c.descending.page c.in-Enlarge.child (step.Enlarge c.in-Enlarge.parent c.in-Enlarge.child) c.descending.invariant.come c.search.result.now c.search.ensures (rw c.in-Enlarge.is at c.in_ok-sides.ensures.step) (
    refl,
    subst (λ child. Moves g.C.KeyClass.rules.union_of c.descending.world (event.Enlarge c.in-Enlarge.parent child c.args.key) c.move_pages-in-Enlarge.new.world) c.from-in-Enlarge-2.ensures
        (subst (λ parent. Moves g.C.KeyClass.rules.union_of c.descending.world (event.Enlarge parent c.from-in-Enlarge-2.result c.args.key) c.move_pages-in-Enlarge.new.world) c.from-in-Enlarge.ensures c.in_ok-move_pages-in-Enlarge.ensures.moved),
  );
}

pub descending-init : goal.descending-init
descending-init g c = record {
  on = on_root g.C.KeyClass.rules g.O.Outlet.rule c.args.key c.args.world.now c.args.world.now c.recall_soundness.ensures (moves_none g.C.KeyClass.rules g.O.Outlet.rule c.args.world.now);
  come = begun;
}

pub descending-preserved : goal.descending-preserved
descending-preserved g c =
    let next : IsNextStep g.C.KeyClass.rules c.descending.world.search c.descending.page c.args.key (step.Down c.in-Down.child)
    = subst (λ s. IsNextStep g.C.KeyClass.rules s c.descending.page c.args.key (step.Down c.in-Down.child)) c.search.ensures (rw c.in-Down.is at c.in_ok-sides.ensures.step) in record {
      on = on_child g.C.KeyClass.rules g.O.Outlet.rule c.args.key c.args.world.now c.descending.world c.descending.page c.in-Down.child c.descending.invariant.on next.1 next.2;
      come = come_by g.C.KeyClass.rules c.args.key c.args.world.now c.descending.world c.descending.world c.descending.page c.in-Down.child (step.Down c.in-Down.child) c.descending.invariant.come c.descending.world.search refl next (refl, refl);
    }
