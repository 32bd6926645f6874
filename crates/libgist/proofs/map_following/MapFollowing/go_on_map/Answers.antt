use Rattle.std.proofs.Common.{ap}
use Rattle.libgist.specs.MapFollowing.{MapFollowingState}
use Rattle.libgist.proofs.Waiting.{map_waits_after}
use Rattle.libgist.proofs.map_following.MapFollowing.go_on_map.Goals as goal

pub returns-clause-ok : goal.returns-clause-ok
returns-clause-ok g c =
    let feed = ap (λ (f : MapFollowingState _ _). f.feed) c.self.view_is in
    let waits = ap (λ (f : MapFollowingState _ _). f.waiting) c.self.view_is in
    let into = map_waits_after g.C.KeyClass.rules c.self.inside.feed c.advance.new.self c.args.snapshot.now.map c.allowed-allowed.result c.self.inside.taken _ c.self.inside.items.items c.advance.new.into.items c.self.invariant c.in_ok-advance.ensures.ok in
    rw (← c.allowed-allowed.ensures) (rw (← waits) (rw (← feed) into))
