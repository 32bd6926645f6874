use Rattle.std.proofs.Common.{◌≡◌, sym, ap, subst, ◌∙◌, arith}
use Rattle.page_table.specs.Stacks.{IsStack, root_stack}
use Rattle.page_table.specs.Trees.{page_at}
use Rattle.scan.proofs.Opening.{open_stack}
use Rattle.scan.proofs.Finders.{further_stack}
use Rattle.snapshot.proofs.Living.{SeeksLiving, seeking_begun, seeking_kept, told_here, told_nowhere}
use Rattle.snapshot.specs.Life.{TellsLife, holds_live}
use Rattle.snapshot.proofs.life.lives.Goals as goal

pub visits-init : goal.visits-init
visits-init g c =
    let table = c.args.table.now in
    let covers = g.C.KeyClass.rules.is_cover in
    let begun : c.at_root-stack.result ≡ root_stack table.counter = c.at_root-stack.ensures ∙ ap root_stack c.counter.ensures in
    record {
      exists = subst (λ s. IsStack table s) (sym begun) (open_stack covers table c.requires.0 c.requires.1);
      seeks = subst (λ s. SeeksLiving table c.args.row c.args.key s) (sym begun) (seeking_begun table c.args.row c.args.key covers c.requires.0 c.requires.1);
    }

pub seek-requires : goal.seek-requires
seek-requires g c = c.visits.invariant.exists

pub returns-in-Here : goal.returns-in-Here
returns-in-Here g c =
    let table = c.args.table.now in
    let met = rw c.in-Some.is at c.in_ok-sought.ensures.sought in
    let here = rw c.in-Here.is at met in
    let rows : c.rows.result.now ≡ (page_at table c.in-Here.page).rows = c.rows.ensures ∙ ap (λ page. page.rows) c.page.ensures in
    subst (λ lives. TellsLife table c.args.row c.args.key lives) (sym (c.holds_live.ensures ∙ ap (holds_live c.args.row) rows))
    (told_here table c.args.row c.args.key c.visits.stack c.seek.new.self c.in-Here.page c.visits.invariant.exists here)

pub visits-smaller : goal.visits-smaller
visits-smaller g c =
    let less = rw c.in-Some.is at c.in_ok-sought.ensures.less_work in
    let fewer = rw c.in_default-sought.is at less in
    omega (arith, fewer c.requires.0 c.requires.1)

pub visits-preserved : goal.visits-preserved
visits-preserved g c =
    let table = c.args.table.now in
    let covers = g.C.KeyClass.rules.is_cover in
    let met = rw c.in-Some.is at c.in_ok-sought.ensures.sought in
    let further = rw c.in_default-sought.is at met in
    let keeps = rw c.in-Some.is at c.in_ok-sought.ensures.lost_nothing in
    record {
      exists = further_stack covers table c.requires.0 c.requires.1 c.args.key c.args.row c.visits.stack c.seek.new.self c.in_default-sought.field-0 c.visits.invariant.exists further;
      seeks = seeking_kept table c.args.row c.args.key covers c.requires.0 c.visits.stack c.seek.new.self c.requires.1 keeps c.visits.invariant.seeks;
    }

pub returns : goal.returns
returns g c =
    let none = rw c.in_default.is at c.in_ok-sought.ensures.sought in
    told_nowhere c.args.table.now c.args.row c.args.key c.visits.stack none.0 c.visits.invariant.seeks
