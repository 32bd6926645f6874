-- Sums of weights.
use Rattle.std.proofs.Common.{ℕ, zero, suc, ◌+◌, ◌<◌, ◌≤◌, ◌≡◌, List, [], ◌∷◌, ◌++◌, length, map, flat_map, All, refl, ap, ap₂, arith, ◌∙◌, get_or, set}
use Rattle.std.proofs.lemmas.List.Elements.{All-head, All-tail, All-cons, All-nil, All-append}
use Rattle.page_table.specs.Weights.{weigh}

pub weigh-append : {A : Type 0} (f : A → ℕ) (xs ys : List A) → weigh f (xs ++ ys) ≡ weigh f xs + weigh f ys
weigh-append f [] ys = omega arith
weigh-append f (x ∷ xs) ys = omega (arith, weigh-append f xs ys)

pub weigh-flat_map : {A B : Type 0} (f : B → ℕ) (g : A → List B) (xs : List A) → weigh f (flat_map g xs) ≡ weigh (λ x. weigh f (g x)) xs
weigh-flat_map f g [] = refl
weigh-flat_map f g (x ∷ xs) = weigh-append f (g x) (flat_map g xs) ∙ ap (λ n. weigh f (g x) + n) (weigh-flat_map f g xs)

pub weigh-each : {A : Type 0} (f g : A → ℕ) (xs : List A) → All (λ x. f x ≡ g x) xs → weigh f xs ≡ weigh g xs
weigh-each f g [] h = refl
weigh-each f g (x ∷ xs) h = ap₂ (λ m n. m + n) (All-head (λ x. f x ≡ g x) x xs h) (weigh-each f g xs (All-tail (λ x. f x ≡ g x) x xs h))

pub weigh-add : {A : Type 0} (f g : A → ℕ) (xs : List A) → weigh (λ x. f x + g x) xs ≡ weigh f xs + weigh g xs
weigh-add f g [] = omega arith
weigh-add f g (x ∷ xs) = omega (arith, weigh-add f g xs)

pub flat_map-each : {A B : Type 0} (f g : A → List B) (xs : List A) → All (λ x. f x ≡ g x) xs → flat_map f xs ≡ flat_map g xs
flat_map-each f g [] h = refl
flat_map-each f g (x ∷ xs) h = ap₂ (λ m n. m ++ n) (All-head (λ x. f x ≡ g x) x xs h) (flat_map-each f g xs (All-tail (λ x. f x ≡ g x) x xs h))

pub weigh-where : {A : Type 0} (P : A → Type 0) (f g : A → ℕ) → ((x : A) → P x → f x ≡ g x) → (xs : List A) → All P xs → weigh f xs ≡ weigh g xs
weigh-where P f g e xs h = weigh-each f g xs (λ i d l. e _ (h i d l))

pub All-flat_map : {A B : Type 0} (P : B → Type 0) (g : A → List B) (xs : List A) → All (λ x. All P (g x)) xs → All P (flat_map g xs)
All-flat_map P g [] h = All-nil P
All-flat_map P g (x ∷ xs) h = All-append P (g x) (flat_map g xs) (All-head (λ x. All P (g x)) x xs h) (All-flat_map P g xs (All-tail (λ x. All P (g x)) x xs h))

pub weigh-map : {A B : Type 0} (f : B → ℕ) (g : A → B) (xs : List A) → weigh f (map g xs) ≡ weigh (λ x. f (g x)) xs
weigh-map f g [] = refl
weigh-map f g (x ∷ xs) = ap (λ n. f (g x) + n) (weigh-map f g xs)

pub weigh-at : {A : Type 0} (f : A → ℕ) (xs : List A) (i : ℕ) (d : A) → i < length xs → f (get_or xs i d) ≤ weigh f xs
weigh-at f [] i d l = absurd (omega arith)
weigh-at f (x ∷ xs) zero d l = omega arith
weigh-at f (x ∷ xs) (suc i) d l = omega (arith, weigh-at f xs i d (omega arith))

pub weigh-at_two : {A : Type 0} (f : A → ℕ) (xs : List A) (i j : ℕ) (d : A) → i < length xs → j < length xs → ((i ≡ j) → ⊥) → f (get_or xs i d) + f (get_or xs j d) ≤ weigh f xs
weigh-at_two f [] i j d l k n = absurd (omega arith)
weigh-at_two f (x ∷ xs) zero zero d l k n = absurd (n refl)
weigh-at_two f (x ∷ xs) zero (suc j) d l k n = omega (arith, weigh-at f xs j d (omega arith))
weigh-at_two f (x ∷ xs) (suc i) zero d l k n = omega (arith, weigh-at f xs i d (omega arith))
weigh-at_two f (x ∷ xs) (suc i) (suc j) d l k n = omega (arith, weigh-at_two f xs i j d (omega arith) (omega arith) (λ e. n (ap suc e)))

pub weigh-set : {A : Type 0} (f : A → ℕ) (xs : List A) (i : ℕ) (y d : A) → i < length xs → weigh f (set xs i y) + f (get_or xs i d) ≡ weigh f xs + f y
weigh-set f [] i y d l = absurd (omega arith)
weigh-set f (x ∷ xs) zero y d l = omega arith
weigh-set f (x ∷ xs) (suc i) y d l = omega (arith, weigh-set f xs i y d (omega arith))

pub weigh-zero : {A : Type 0} (f : A → ℕ) (xs : List A) → weigh f xs ≡ 0 → All (λ x. f x ≡ 0) xs
weigh-zero f [] e = All-nil (λ x. f x ≡ 0)
weigh-zero f (x ∷ xs) e = All-cons (λ x. f x ≡ 0) x xs (omega arith) (weigh-zero f xs (omega arith))

pub weigh-none : {A : Type 0} (f : A → ℕ) (xs : List A) → All (λ x. f x ≡ 0) xs → weigh f xs ≡ 0
weigh-none f [] h = refl
weigh-none f (x ∷ xs) h = omega (arith, All-head (λ x. f x ≡ 0) x xs h, weigh-none f xs (All-tail (λ x. f x ≡ 0) x xs h))

pub weigh_one : (f : ℕ → ℕ) (x : ℕ) → weigh f (x ∷ []) ≡ f x
weigh_one f x = omega arith

pub weigh-less : {A : Type 0} (P : A → Type 0) (f g : A → ℕ) → ((x : A) → P x → f x ≤ g x) → (xs : List A) → All P xs → weigh f xs ≤ weigh g xs
weigh-less P f g e [] h = omega arith
weigh-less P f g e (x ∷ xs) h = omega (arith, e x (All-head P x xs h), weigh-less P f g e xs (All-tail P x xs h))
