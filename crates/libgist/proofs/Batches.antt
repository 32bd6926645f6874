-- Calls that were made, and one more.
use Rattle.std.proofs.Common.{ℕ, List, [], ◌∷◌, ◌++◌, refl, subst}
use Rattle.std.specs.Prelude.{Ok, Result}
use Rattle.libgist.specs.declared.denied.Denied.{Denied}
use Rattle.libgist.specs.Batches.{DoesAll}

module _ {E S : Type 0} (one : E → S → Result ℕ Denied → S → Type 0) where
  pub does_push : (its : List E) (it : E) (old mid new : S) (n : ℕ) → DoesAll one its old mid → one it mid (Ok n) new → DoesAll one (its ++ it ∷ []) old new
  does_push [] it old mid new n same done = (new, (n, subst (λ (s : S). one it s (Ok n) new) same done), refl)
  does_push (first ∷ its) it old mid new n all done = (all.0, all.1, does_push its it all.0 mid new n all.2 done)
