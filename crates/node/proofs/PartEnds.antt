-- Past the last entry nothing is left to part.
use Rattle.std.proofs.Common.{◌≡◌, ℕ, ◌≤◌, List, [], ◌∷◌, ◌++◌, length, drop, refl, ap, sym, ◌∙◌, Option, Some, None}
use Rattle.std.proofs.lemmas.List.{append-nil}
use Rattle.std.proofs.Math.ListN.{drop_of_length-le}
use Rattle.key_class.specs.declared.sides.Side.{Side}
use Rattle.node.specs.Parts.{left_part, right_part, joined_bound}

pub left_part-nil : {A : Type 0} (sides : List Side) → left_part {A = A} sides [] ≡ []
left_part-nil [] = refl
left_part-nil (s ∷ ss) = refl

pub right_part-nil : {A : Type 0} (sides : List Side) → right_part {A = A} sides [] ≡ []
right_part-nil [] = refl
right_part-nil (s ∷ ss) = refl

pub left_part_ends : {A : Type 0} (sides : List Side) (xs : List A) (n : ℕ) → length xs ≤ n → left_part (drop n sides) (drop n xs) ≡ []
left_part_ends sides xs n l = ap (left_part (drop n sides)) (drop_of_length-le xs l) ∙ left_part-nil (drop n sides)

pub right_part_ends : {A : Type 0} (sides : List Side) (xs : List A) (n : ℕ) → length xs ≤ n → right_part (drop n sides) (drop n xs) ≡ []
right_part_ends sides xs n l = ap (right_part (drop n sides)) (drop_of_length-le xs l) ∙ right_part-nil (drop n sides)

-- what was taken by the end is the whole part
pub left_part_whole : {A : Type 0} (sides : List Side) (xs : List A) (n : ℕ) (got all : List A) → length xs ≤ n → got ++ left_part (drop n sides) (drop n xs) ≡ all → got ≡ all
left_part_whole sides xs n got all l e = sym (append-nil got) ∙ ap (λ r. got ++ r) (sym (left_part_ends sides xs n l)) ∙ e

pub right_part_whole : {A : Type 0} (sides : List Side) (xs : List A) (n : ℕ) (got all : List A) → length xs ≤ n → got ++ right_part (drop n sides) (drop n xs) ≡ all → got ≡ all
right_part_whole sides xs n got all l e = sym (append-nil got) ∙ ap (λ r. got ++ r) (sym (right_part_ends sides xs n l)) ∙ e

-- the union of some keys and then of others
pub joined-append : {K : Type 0} (union : K → K → K) (bound : Option K) (ks ls : List K) → joined_bound union bound (ks ++ ls) ≡ joined_bound union (joined_bound union bound ks) ls
joined-append union bound [] ls = refl
joined-append union None (k ∷ ks) ls = joined-append union (Some k) ks ls
joined-append union (Some b) (k ∷ ks) ls = joined-append union (Some (union b k)) ks ls
