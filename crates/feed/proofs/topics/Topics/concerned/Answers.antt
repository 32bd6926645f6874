use Rattle.std.proofs.Common.{◌≡◌, subst, sym}
use Rattle.std.specs.Prelude.{Contains}
use Rattle.std.specs.List.{dedup}
use Rattle.std.specs.List.Sorted.{IsStrictlyIncreasing}
use Rattle.std.proofs.Math.Dec.{eqb}
use Rattle.std.proofs.lemmas.List.Filters.{dedup_is}
use Rattle.std.proofs.lemmas.List.Kept.{Contains-dedup_nat}
use Rattle.std.proofs.lemmas.List.Sorted.{Contains-permutation}
use Rattle.std.proofs.lemmas.Map.Keys.{IsStrictlyIncreasing-dedup}
use Rattle.feed.proofs.Asked.{concerned_among}
use Rattle.feed.proofs.topics.Topics.concerned.Goals as goal

pub returns-clause-all : goal.returns-clause-all
returns-clause-all g c commits place of =
    let found = c.in_ok-numbers.numbers.items in
    let sorted = c.sort_unstable.new.self.items in
    let numbers = c.dedup.new.self.items in
    let is : numbers ≡ dedup eqb sorted = dedup_is eqb sorted numbers c.dedup.ensures.filtered in
    concerned_among g.C.KeyClass.rules commits c.args.self.now place found numbers
    (λ number among. subst (λ l. Contains l number) (sym is) (Contains-dedup_nat sorted number (Contains-permutation found sorted number c.sort_unstable.ensures.permutation among)))
    (c.in_ok-numbers.ensures.all commits place of)

pub returns-clause-rising : goal.returns-clause-rising
returns-clause-rising g c =
    let sorted = c.sort_unstable.new.self.items in
    let numbers = c.dedup.new.self.items in
    let is : numbers ≡ dedup eqb sorted = dedup_is eqb sorted numbers c.dedup.ensures.filtered in
    subst IsStrictlyIncreasing (sym is) (IsStrictlyIncreasing-dedup sorted c.sort_unstable.ensures.sorted)
