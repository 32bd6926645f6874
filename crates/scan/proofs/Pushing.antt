-- How the children of wanted branches are pushed.
use Rattle.std.proofs.Common.{◌≡◌, ℕ, Bool, List, [], ◌∷◌, ◌++◌, map, filter, reverse, refl, sym, ap, ◌∙◌}
use Rattle.std.proofs.lemmas.List.{map-append, reverse-append}
use Rattle.node.specs.declared.branch.Branch.{Branch}
use Rattle.scan.specs.Scanning.{child_items, item_of_child}

-- what is made of each of a list reversed
made_reversed : {X Y : Type 0} (f : X → Y) (xs : List X) → map f (reverse xs) ≡ reverse (map f xs)
made_reversed f [] = refl
made_reversed f (x ∷ xs) = ap (map f) (reverse-append (x ∷ []) xs) ∙ map-append f (reverse xs) (x ∷ []) ∙ ap (λ l. l ++ f x ∷ []) (made_reversed f xs) ∙ sym (reverse-append (f x ∷ []) (map f xs))

-- the items of the wanted branches, the last first
pub wanted_items : {K : Type 0} (wanted : K → Bool) (memo : ℕ) (branches : List (Branch K)) → map (item_of_child memo) (reverse (filter (λ b. wanted b.key) branches)) ≡ child_items wanted memo branches
wanted_items wanted memo branches = made_reversed (item_of_child memo) (filter (λ b. wanted b.key) branches)
