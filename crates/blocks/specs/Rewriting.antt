-- Values that pass a test are changed, and no others.
use Rattle.std.specs.Prelude.{◌≡◌, Bool, true, false, refl, List, [], ◌∷◌, map}
use Rattle.std.specs.List.{AllZip}
use Rattle.std.proofs.Common.{ap₂, sym, ◌∙◌}

module _ {X : Type 0} (test : X → Bool) (change : X → X → Type 0) where
  -- one that passes becomes what its change gives, any other stays
  pub record Becomes (x y : X) : Type 0 where
    pub changed : test x ≡ true → change x y
    pub same : test x ≡ false → y ≡ x

  -- the change as a function that leaves alone what doesn't pass
  module _ (f : X → X) (gives : (x y : X) → change x y → y ≡ f x) (idle : (x : X) → test x ≡ false → f x ≡ x) where
    by_function : (x y : X) → Becomes x y → y ≡ f x
    by_function x y b = by (test x) refl
      where
        by : (answer : Bool) → test x ≡ answer → y ≡ f x
        by true passes = gives x y (b.changed passes)
        by false fails = b.same fails ∙ sym (idle x fails)

    pub rewritten_is_map : (old new : List X) → AllZip Becomes old new → new ≡ map f old
    rewritten_is_map [] [] z = refl
    rewritten_is_map [] (y ∷ ys) z = absurd z
    rewritten_is_map (x ∷ xs) [] z = absurd z
    rewritten_is_map (x ∷ xs) (y ∷ ys) z = ap₂ (λ v vs. v ∷ vs) (by_function x y z.0) (rewritten_is_map xs ys z.1)
