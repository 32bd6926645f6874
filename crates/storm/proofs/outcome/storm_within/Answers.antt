use Rattle.std.proofs.Common.{◌≡◌, ◌++◌, ℕ, List, length, take, drop, arith, length-append, length-drop, length-take}
use Rattle.std.proofs.lemmas.Result.{IfOk-weaker}
use Rattle.storm.proofs.outcome.storm_within.Goals as goal

-- a vector whose elements were all lent out has as many when they are back
back : {X : Type 0} (len : ℕ) (lent kept : List X) → length lent ≡ len → length kept ≡ len → length (take len (lent ++ drop (length lent) kept)) ≡ len
back len lent kept lent_all kept_all =
    omega (arith, length-take len (lent ++ drop (length lent) kept), length-append lent (drop (length lent) kept), length-drop (length lent) kept)

pub outcome_of-requires : goal.outcome_of-requires
outcome_of-requires g c =
    let grown = c.in-Ok-take_back.ensures in
    let first = c.in-Ok.ensures in
    let second = c.in-Ok-split_off.ensures in
    let third = c.in-Ok-split_off-2.ensures in
    let desk = c.in_ok-desk.ensures in
    let writers = back c.split_off.new.self.len c.run_all.new.writers c.split_off.new.self.items (omega (arith, c.run_all.auto.writers, c.as_mut_slice.ensures.len)) (omega arith) in
    let readers = back c.in-Ok-readers_of.readers.len c.run_all.new.readers c.in-Ok-readers_of.readers.items (omega (arith, c.run_all.auto.readers, c.as_mut_slice-2.ensures.len)) (omega arith) in
    let lookers = back c.in-Ok-lookers_of.lookers.len c.run_all.new.lookers c.in-Ok-lookers_of.lookers.items (omega (arith, c.run_all.auto.lookers, c.as_mut_slice-3.ensures.len)) (omega arith) in
    let publishers = back c.in-Ok-publishers_of.publishers.len c.run_all.new.publishers c.in-Ok-publishers_of.publishers.items (omega (arith, c.run_all.auto.publishers, c.as_mut_slice-4.ensures.len)) (omega arith) in
    omega (arith, grown, writers, readers, lookers, publishers, first.len, first.tail_len, second.len, second.tail_len, third.len, third.tail_len, c.in-Ok-readers_of.ensures, c.in-Ok-lookers_of.ensures, c.in-Ok-publishers_of.ensures, desk.desk, desk.seats, c.seats.ensures)

pub returns-clause-seats : goal.returns-clause-seats
returns-clause-seats g c =
    let desk = c.in_ok-desk.ensures in
    IfOk-weaker c.outcome_of.result _ _ (λ o count. omega (arith, count, desk.desk, desk.seats, c.seats.ensures)) c.outcome_of.ensures.seats
