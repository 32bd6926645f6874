-- How many members collections have.
use Rattle.std.proofs.Common.{◌≡◌, ◌≤◌, Bool, true, false, cond, List, [], ◌∷◌, length, filter, refl, sym, ◌∙◌, arith}
use Rattle.page_table.specs.Weights.{Same, weigh}
use Rattle.search.specs.Sinks.{IsSomeOf}

pub ones : {X : Type 0} (xs : List X) → weigh (λ x. 1) xs ≡ length xs
ones [] = refl
ones (x ∷ xs) = omega (arith, ones xs)

-- the same collection has as many members
pub same_length : {X : Type 0} (xs ys : List X) → Same xs ys → length xs ≡ length ys
same_length xs ys same = sym (ones xs) ∙ same (λ x. 1) ∙ ones ys

-- some of a collection are no more than all
pub some_fewer : {X : Type 0} (xs ys : List X) → IsSomeOf xs ys → length xs ≤ length ys
some_fewer xs ys some = omega (arith, ones xs, ones ys, some (λ x. 1))

pub filter_shorter : {X : Type 0} (p : X → Bool) (xs : List X) → length (filter p xs) ≤ length xs
filter_shorter p [] = omega arith
filter_shorter p (x ∷ xs) = go (p x) (filter_shorter p xs)
  where
    go : (b : Bool) → length (filter p xs) ≤ length xs → length (cond b (x ∷ filter p xs) (filter p xs)) ≤ length (x ∷ xs)
    go true h = omega (arith, h)
    go false h = omega (arith, h)
