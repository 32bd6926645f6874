-- A visit of a move that has come to a leaf.
use Rattle.std.proofs.Common.{ℕ, inr, refl, subst, Result, Ok, Err}
use Rattle.std.specs.Prelude.{IfOk}
use Rattle.key_class.specs.Rules.{Rules}
use Rattle.mailbox.specs.Outlets.{Rule}
use Rattle.writes.specs.InsertVisits.{Nears}
use Rattle.writes.specs.declared.approach.Approach.TheVariants as approach
use Rattle.writes.specs.Moves.{Relocates, SeeksAtLeaf, SeeksFrom}
use Rattle.writes.specs.declared.move_visit.Moving.{Moving}
use Rattle.writes.specs.declared.move_visit.Moving.TheVariants as moving
use Rattle.world.specs.States.{State}

module _ {K A : Type 0} (rules : Rules K A) (rule : Rule) (old mid new : State K A) (seat page leaf f row : ℕ) (key : K) (near : Nears rules old page key (approach.At leaf) mid) where
  -- the world is as it was when the way came to the leaf
  at_leaf : (made : Moving K) → SeeksFrom rules rule mid seat leaf f row key made new → SeeksAtLeaf rules rule old seat page f row key made new
  at_leaf made seeks =
      (leaf, record { here = near.here; resumes = near.resumes; there = near.there; down = near.down; tells = (near.tells.0, near.tells.1, refl) }, subst (λ s. SeeksFrom rules rule s seat leaf f row key made new) near.tells.2 seeks)

  -- what its finder does is what the move does
  pub relocates : {Y : Type 0} (result : Result (Moving K) Y) → IfOk result (λ made. SeeksFrom rules rule mid seat leaf f row key made new) → IfOk result (λ made. Relocates rules rule old seat page f row key made new)
  relocates (Ok (moving.On next)) seeks = inr (at_leaf (moving.On next) seeks)
  relocates (Ok (moving.Split full)) seeks = absurd seeks
  relocates (Ok moving.Lost) seeks = at_leaf moving.Lost seeks
  relocates (Ok (moving.Moved stamp)) seeks = at_leaf (moving.Moved stamp) seeks
  relocates (Err why) seeks = tt
