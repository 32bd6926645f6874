use Rattle.std.proofs.Common.{rules, ◌≡◌, ◌+◌, ◌≤◌, length, subst, arith}
use Rattle.world.proofs.Sounding.{grown_pages}
use Rattle.world.proofs.world.World.pages.Goals as goal

pub returns-clause-few : goal.returns-clause-few
returns-clause-few g c =
    let number : c.len.result ≡ length c.args.self.now.search.tree.pages = search rules in
    let few : length c.args.self.now.search.tree.pages ≤ length c.args.self.now.commits + 1 = subst (λ s. length s.search.tree.pages ≤ length s.commits + 1) c.self.view_is (grown_pages g.C.KeyClass.rules.is_cover _ c.self.invariant) in
    omega (arith, number, few)
