-- Changes of leaves, and their commits.
use Rattle.std.proofs.Common.{◌≡◌, ◌+◌, ℕ, List, length, arith}
use Rattle.change_list.specs.declared.write.Write.{Write}
use Rattle.change_list.specs.Changes.{MayFollow}
use Rattle.change_list.proofs.Tracking.{live_within}
use Rattle.world.specs.declared.commit.LeafChange.{LeafChange}
use Rattle.world.specs.declared.commit.LeafChange.TheVariants as change
use Rattle.world.specs.Writing.{IsOfEarlier, write_of_change}

-- the row that dies by the next commit has a lower number
pub of_earlier : {K : Type 0} (commits : List (Write K)) (n : ℕ) (c : LeafChange K) → MayFollow commits (write_of_change c) → n ≡ length commits + 1 → IsOfEarlier n c
of_earlier commits n (change.Place leaf key tag) follows number = tt
of_earlier commits n (change.Bury leaf row) follows number = tt
of_earlier commits n (change.Move leaf row other key tag) follows number = λ e. let w = live_within commits row follows in omega (arith, e, number, w.1)
