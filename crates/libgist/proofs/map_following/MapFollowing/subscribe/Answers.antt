use Rattle.std.proofs.Common.{rules, ap}
use Rattle.libgist.specs.MapFollowing.{MapFollowingState}
use Rattle.libgist.proofs.map_following.MapFollowing.subscribe.Goals as goal

pub returns : goal.returns
returns g c =
    let feed = ap (λ (f : MapFollowingState _ _). f.feed) c.self.view_is in
    record {
      serial = search rules;
      ok = search rules;
      err = search rules;
      depth = λ remembered. rw (← c.in_ok-copy.ensures) c.subscribe.ensures.depth;
      full = λ remembered. rw (← c.in_ok-copy.ensures) (rw (← feed) c.subscribe.ensures.full);
      refusals = search rules;
    }
