-- What both parts of a page hold is what the page held.
use Rattle.std.proofs.Common.{ℕ, ◌+◌, ◌≡◌, List, [], ◌∷◌, length, All, arith}
use Rattle.std.proofs.lemmas.List.Elements.{All-head, All-tail, All-cons, All-nil}
use Rattle.key_class.specs.declared.sides.Side.{Side}
use Rattle.key_class.specs.declared.sides.Side.TheVariants.{Left, Right}
use Rattle.node.specs.Parts.{left_part, right_part}
use Rattle.page_table.specs.Weights.{weigh}

pub weigh-parts : {A : Type 0} (f : A → ℕ) (sides : List Side) (xs : List A) → weigh f (left_part sides xs) + weigh f (right_part sides xs) ≡ weigh f xs
weigh-parts f [] xs = omega arith
weigh-parts f (s ∷ ss) [] = omega arith
weigh-parts f (Right ∷ ss) (x ∷ xs) = omega (arith, weigh-parts f ss xs)
weigh-parts f (Left ∷ ss) (x ∷ xs) = omega (arith, weigh-parts f ss xs)

pub All-left_part : {A : Type 0} (P : A → Type 0) (sides : List Side) (xs : List A) → All P xs → All P (left_part sides xs)
All-left_part P [] xs h = h
All-left_part P (s ∷ ss) [] h = h
All-left_part P (Right ∷ ss) (x ∷ xs) h = All-left_part P ss xs (All-tail P x xs h)
All-left_part P (Left ∷ ss) (x ∷ xs) h = All-cons P x (left_part ss xs) (All-head P x xs h) (All-left_part P ss xs (All-tail P x xs h))

pub All-right_part : {A : Type 0} (P : A → Type 0) (sides : List Side) (xs : List A) → All P xs → All P (right_part sides xs)
All-right_part P [] xs h = All-nil P
All-right_part P (s ∷ ss) [] h = h
All-right_part P (Right ∷ ss) (x ∷ xs) h = All-cons P x (right_part ss xs) (All-head P x xs h) (All-right_part P ss xs (All-tail P x xs h))
All-right_part P (Left ∷ ss) (x ∷ xs) h = All-right_part P ss xs (All-tail P x xs h)

pub length-parts : {A : Type 0} (sides : List Side) (xs : List A) → length (left_part sides xs) + length (right_part sides xs) ≡ length xs
length-parts [] xs = omega arith
length-parts (s ∷ ss) [] = omega arith
length-parts (Right ∷ ss) (x ∷ xs) = omega (arith, length-parts ss xs)
length-parts (Left ∷ ss) (x ∷ xs) = omega (arith, length-parts ss xs)
