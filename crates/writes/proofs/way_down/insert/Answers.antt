use Rattle.std.proofs.lemmas.List.Sorted.{IsPermutation-trans}
use Rattle.world.proofs.Resting.{rests_trans}
use Rattle.world.specs.Resting.{deaths}
use Rattle.writes.proofs.way_down.insert.Goals as goal

pub returns-clause-rests : goal.returns-clause-rests
returns-clause-rests g c = rests_trans g.C.KeyClass.rules g.O.Outlet.rule c.args.world.now c.make_way.new.world c.place.new.world c.make_way.ensures.moved.rests c.place.ensures.rests

pub returns-clause-dead : goal.returns-clause-dead
returns-clause-dead g c =
    IsPermutation-trans (deaths c.args.world.now.search.tree) (deaths c.make_way.new.world.search.tree) (deaths c.place.new.world.search.tree) c.make_way.ensures.moved.dead c.place.ensures.dead
