use Rattle.std.proofs.Common.{◌≡◌, sym, subst, ◌∙◌, arith}
use Rattle.snapshot.specs.Snapshots.{IsSnapshot}
use Rattle.world.proofs.world.World.snapshot.Goals as goal

pub new-requires : goal.new-requires
new-requires g c =
    let covers = g.C.KeyClass.rules.is_cover in
    let inside = c.self.inside in
    let world = c.self.invariant in
    let tree : inside.search.tree ≡ c.in_ok-pages.pages = sym (c.in_ok-pages.ensures ∙ c.pages.ensures.table) in
    let list : inside.changes ≡ c.in_ok-list.list = sym c.in_ok-list.ensures.list in
    subst (λ l. IsSnapshot covers c.in_ok-pages.pages l) list
    (subst (λ t. IsSnapshot covers t inside.changes) tree
    (record { fan = inside.search.fan; few_entries = world.tree.fan_limit; sound = c.pages.ensures.sound; agrees = world.agrees; legal = world.legal; few = omega (arith, world.few_commits, world.commit_limit) }))
