-- Collections, which count repeats and have no order, by the weights of their members.
use Rattle.std.specs.Prelude.{◌≡◌, ℕ, ◌+◌, cond, nat_eq, List, [], ◌∷◌}

-- the sum of the weights of a list's members
abbrev pub weigh : {A : Type 0} → (A → ℕ) → List A → ℕ
weigh f [] = 0
weigh f (x ∷ xs) = f x + weigh f xs

-- the same collection: whatever weights the members have, both lists weigh the same
abbrev pub Same : {A : Type 0} → List A → List A → Type 0
Same {A} xs ys = (f : A → ℕ) → weigh f xs ≡ weigh f ys

-- 1 if the numbers are equal, for counting
abbrev pub one_if_equal : ℕ → ℕ → ℕ
one_if_equal x y = cond (nat_eq x y) 1 0
