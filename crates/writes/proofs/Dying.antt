-- The dead of a tree where a row was moved.
use Rattle.std.proofs.Common.{◌≡◌, ℕ, ◌+◌, ◌∷◌, length, Result, Ok, Err, ap, subst}
use Rattle.std.specs.Prelude.{IsPermutation, IfOk, OnOk}
use Rattle.std.proofs.lemmas.List.Sorted.{IsPermutation-cons, IsPermutation-trans}
use Rattle.key_class.specs.Rules.{Rules}
use Rattle.mailbox.specs.Outlets.{Rule}
use Rattle.writes.specs.Ending.{AddsDeath, Ends}
use Rattle.writes.specs.declared.ending.Ending.{Ending}
use Rattle.world.specs.Resting.{deaths}
use Rattle.world.specs.States.{State}

-- one row more is dead, where pages alone changed before the row's end
pub dies : {K A Y : Type 0} (rules : Rules K A) (rule : Rule) (old mid new : State K A) (row : ℕ) (how : Ending K) (result : Result ℕ Y) → mid.commits ≡ old.commits → IsPermutation (deaths old.search.tree) (deaths mid.search.tree)
    → IfOk result (λ number. Ends rules rule mid row how number new) → OnOk result (AddsDeath old row new)
dies rules rule old mid new row how (Ok number) same dead ended =
    IsPermutation-trans _ _ _
    (IsPermutation-cons (row, length old.commits + 1) (deaths old.search.tree) (deaths mid.search.tree) dead)
    (subst (λ n. IsPermutation ((row, n) ∷ deaths mid.search.tree) (deaths new.search.tree)) (ap (λ commits. length commits + 1) same) ended.dead)
dies rules rule old mid new row how (Err why) same dead ended = tt
