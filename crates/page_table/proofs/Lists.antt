-- What holds of every member of a list.
use Rattle.std.proofs.Common.{List, [], ◌∷◌, ◌++◌, map, All, sym, subst}
use Rattle.std.proofs.lemmas.List.Elements.{All-head, All-tail, All-nil, All-cons, All-append}
use Rattle.std.proofs.Common.{reverse}
use mathlib.Core.List.{reverse-cons}

pub All-front : {X : Type 0} (P : X → Type 0) (xs ys : List X) → All P (xs ++ ys) → All P xs
All-front P [] ys h = All-nil P
All-front P (x ∷ xs) ys h = All-cons P x xs (All-head P x (xs ++ ys) h) (All-front P xs ys (All-tail P x (xs ++ ys) h))

pub All-back : {X : Type 0} (P : X → Type 0) (xs ys : List X) → All P (xs ++ ys) → All P ys
All-back P [] ys h = h
All-back P (x ∷ xs) ys h = All-back P xs ys (All-tail P x (xs ++ ys) h)

pub All-unmap : {X Y : Type 0} (P : Y → Type 0) (f : X → Y) (xs : List X) → All P (map f xs) → All (λ x. P (f x)) xs
All-unmap P f [] h = All-nil (λ x. P (f x))
All-unmap P f (x ∷ xs) h = All-cons (λ x. P (f x)) x xs (All-head P (f x) (map f xs) h) (All-unmap P f xs (All-tail P (f x) (map f xs) h))

pub All-every : {X : Type 0} (P : X → Type 0) → ((x : X) → P x) → (xs : List X) → All P xs
All-every P h xs = λ i d l. h _

pub All-reverse : {X : Type 0} (P : X → Type 0) (xs : List X) → All P xs → All P (reverse xs)
All-reverse P [] h = h
All-reverse P (x ∷ xs) h = subst (λ ys. All P ys) (sym (reverse-cons x xs))
    (All-append P (reverse xs) (x ∷ []) (All-reverse P xs (All-tail P x xs h)) (All-cons P x [] (All-head P x xs h) (All-nil P)))
