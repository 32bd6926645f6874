-- The entries of a page on one side of a split, in their order, and the union of their keys.
use Rattle.std.specs.Prelude.{List, [], ◌∷◌, Option, Some, None}
use Rattle.key_class.specs.declared.sides.Side.{Side}
use Rattle.key_class.specs.declared.sides.Side.TheVariants.{Left, Right}

-- those whose side is left; places past the last side stay left
abbrev pub left_part : {A : Type 0} → List Side → List A → List A
left_part [] xs = xs
left_part (side ∷ sides) [] = []
left_part (Left ∷ sides) (x ∷ xs) = x ∷ left_part sides xs
left_part (Right ∷ sides) (x ∷ xs) = left_part sides xs

abbrev pub right_part : {A : Type 0} → List Side → List A → List A
right_part [] xs = []
right_part (side ∷ sides) [] = []
right_part (Left ∷ sides) (x ∷ xs) = right_part sides xs
right_part (Right ∷ sides) (x ∷ xs) = x ∷ right_part sides xs

-- the union of a bound, if there is one, and some keys
abbrev pub joined_bound : {K : Type 0} → (K → K → K) → Option K → List K → Option K
joined_bound union bound [] = bound
joined_bound union None (k ∷ ks) = joined_bound union (Some k) ks
joined_bound union (Some bound) (k ∷ ks) = joined_bound union (Some (union bound k)) ks

-- the union of some keys: the least key that covers each
abbrev pub cover_of : {K : Type 0} → (K → K → K) → List K → Option K
cover_of union keys = joined_bound union None keys
