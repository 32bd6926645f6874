use Rattle.std.proofs.Common.{refl, ◌<◌, arith, ◌∙◌}
use Rattle.std.proofs.lemmas.List.{set_comm}
use Rattle.page_table.proofs.Chunks.{at_back, both_parts, in_front}
use Rattle.page_table.proofs.places.two_of.Goals as goal

pub returns-then-first-second : goal.returns-then-first-second
returns-then-first-second g c =
    let s = c.split_at_mut-front.ensures in (
      ((refl, refl), λ x y. both_parts c.args.places.now _ _ c.args.first c.args.second x y s.value s.front_len c.if-first-second.true c.requires.second),
      record {
        lends = tt;
        first = in_front c.args.places.now _ _ c.args.first c.args.second _ s.value s.front_len c.if-first-second.true c.index-front-first.is;
        second = at_back c.args.places.now _ _ c.args.second _ s.value s.front_len c.index-back-0.is;
      },
    )

pub returns-else-first-second : goal.returns-else-first-second
returns-else-first-second g c =
    let s = c.split_at_mut-front-else-first-second.ensures in
    let l : c.args.second < c.args.first = omega (arith, c.if-first-second.false, c.requires.apart) in (
      (
        (refl, refl),
        λ x y. both_parts c.args.places.now _ _ c.args.second c.args.first y x s.value s.front_len l c.requires.first
            ∙ set_comm c.args.places.now c.args.first c.args.second x y c.requires.apart,
      ),
      record {
        lends = tt;
        first = at_back c.args.places.now _ _ c.args.first _ s.value s.front_len c.index-back-0-else-first-second.is;
        second = in_front c.args.places.now _ _ c.args.second c.args.first _ s.value s.front_len l c.index-front-second.is;
      },
    )
