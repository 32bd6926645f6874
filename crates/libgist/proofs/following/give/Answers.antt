use Rattle.std.proofs.Common.{◌∙◌, ap, map, length, min}
use Rattle.search.specs.Fills.{written_over}
use Rattle.libgist.specs.Following.{FollowingState, told_item}
use Rattle.libgist.proofs.following.give.Goals as goal

pub returns : goal.returns
returns g c =
    let show = told_item g.C.Crossing.words_of c.args.snapshot.now in
    let given = c.write_told-given.ensures in
    record {
      counted = given.counted ∙ ap (λ items. min (length items) (length c.args.items.now)) c.waiting.ensures;
      written = given.written ∙ ap (λ items. written_over (map show items) c.args.items.now) c.waiting.ensures;
      rest = c.take.ensures.rest;
      feed_stays = c.take.ensures.feed_stays;
      upto = c.upto.ensures ∙ ap (λ (f : FollowingState _ _). f.feed.upto) c.following.view_is;
    }
