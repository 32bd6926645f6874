use Rattle.std.proofs.Common.{◌≡◌, ◌+◌, length, sym, ap, subst, ◌∙◌, arith}
use Rattle.std.proofs.lemmas.List.{length-map}
use Rattle.cursor.specs.OpenCursors.{shown}
use Rattle.mailbox.specs.Outlets.{tray_rule}
use Rattle.collector.specs.Horizons.{IsHorizon}
use Rattle.store.proofs.Stands.{horizon_is}
use Rattle.store.proofs.store.Store.stats.Goals as goal

pub returns : goal.returns
returns g c =
    let world = c.self.inside.world in
    let pages = c.pages-pages.ensures in
    let left : c.pages_left.result + length world.search.tree.pages ≡ world.search.limit = subst (λ t. c.pages_left.result + length t.tree.pages ≡ t.limit) c.search.ensures c.pages_left.ensures in
    let number = c.commits-commits.ensures.number in
    let horizon : IsHorizon (length world.commits) world.cursors c.horizon.result =
    subst (λ n. IsHorizon n world.cursors c.horizon.result) number (subst (λ ks. IsHorizon c.commits-commits.result ks c.horizon.result) c.open_cursors-cursors.ensures c.horizon.ensures) in
    rw (← c.self.view_is) (record {
      commits = number;
      commit_limit = c.limit.ensures;
      pages = omega (arith, pages.number, left);
      page_limit = omega (arith, pages.number, left);
      cursors = ap length c.open_cursors-cursors.ensures ∙ sym (length-map world.cursors (shown g.C.KeyClass.rules tray_rule world.search.tree));
      horizon = c.from.ensures ∙ horizon_is g.C.KeyClass.rules tray_rule world c.horizon.result horizon;
    })
