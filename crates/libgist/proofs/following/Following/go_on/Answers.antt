use Rattle.std.proofs.Common.{ap}
use Rattle.libgist.specs.Following.{FollowingState}
use Rattle.libgist.proofs.Waiting.{waits_after}
use Rattle.libgist.proofs.following.Following.go_on.Goals as goal

pub returns-clause-ok : goal.returns-clause-ok
returns-clause-ok g c =
    let feed = ap (λ (f : FollowingState _ _). f.feed) c.self.view_is in
    let waits = ap (λ (f : FollowingState _ _). f.waiting) c.self.view_is in
    let into = waits_after g.C.KeyClass.rules c.self.inside.feed c.advance.new.self c.args.snapshot.now c.allowed-allowed.result c.self.inside.taken c.self.inside.items.items c.advance.new.into.items c.self.invariant c.in_ok-advance.ensures.ok in
    rw (← c.allowed-allowed.ensures) (rw (← waits) (rw (← feed) into))
