-- A map that is filled with entries.
use Rattle.std.proofs.Common.{◌≡◌, ◌+◌, ◌<◌, ℕ, zero, suc, Bool, true, false, List, [], ◌∷◌, ◌++◌, length, take, get_or, Option, Some, None, refl, sym, ap, ◌∙◌, arith, subst}
use Rattle.std.specs.Prelude.{find, is_some, nat_eq, option_map}
use Rattle.std.proofs.lemmas.List.{take_more}
use Rattle.revisions.specs.declared.entry.MapEntry.{MapEntry}
use Rattle.revisions.specs.Maps.{AreApart, MapState, entries_of, has_id, is_of, key_at, restored}
use Rattle.revisions.proofs.Applying.{apart_push}
use Rattle.map.proofs.Found.{each_at}
use Rattle.map.proofs.Ids.{each_fails, none_found}
use Rattle.map.proofs.Reading.{none_of_any}

is_none_of : {X : Type 0} (o : Option X) → is_some o ≡ false → o ≡ None
is_none_of None h = refl
is_none_of (Some x) h = absurd (cc)

unmapped : {X Y : Type 0} (f : X → Y) (o : Option X) → option_map f o ≡ None → o ≡ None
unmapped f None h = refl
unmapped f (Some x) h = absurd (cc)

module _ {K : Type 0} (revision : ℕ) (all : List (MapEntry K)) (i : ℕ) (map : MapState K) (is : map ≡ restored revision (take i all)) (e : MapEntry K) where
  -- an id without a key is new
  pub is_new : (o : Option K) → o ≡ key_at e.id (entries_of map) → is_some o ≡ false → has_id e.id map.first ≡ false
  is_new o told none =
      let there : key_at e.id (take i all) ≡ None = sym (ap (λ m. key_at e.id (entries_of m)) is) ∙ sym told ∙ is_none_of o none in
      ap (λ (m : MapState K). has_id e.id m.first) is ∙ none_found (is_of e.id) (take i all) (unmapped (λ (x : MapEntry K). x.key) (find (is_of e.id) (take i all)) there)

  -- and comes as the last
  pub one_more : i < length all → e ≡ get_or all i e → has_id e.id map.first ≡ false → AreApart (take i all) → (new : MapState K) → new ≡ restored map.oldest (map.first ++ e ∷ []) → (new ≡ restored revision (take (i + 1) all)) × AreApart (take (i + 1) all)
  one_more l at fresh apart new made =
      let longer : take (i + 1) all ≡ take i all ++ e ∷ [] = take_more all i e l ∙ ap (λ x. take i all ++ x ∷ []) (sym at) in
      let new' : has_id e.id (take i all) ≡ false = sym (ap (λ (m : MapState K). has_id e.id m.first) is) ∙ fresh in (
        made ∙ ap (λ (m : MapState K). restored m.oldest (m.first ++ e ∷ [])) is ∙ ap (restored revision) (sym longer),
        subst (λ es. AreApart es) (sym longer) (apart_push (take i all) e apart new'),
      )

-- an id that has a key already comes twice
module _ {K : Type 0} where
  apart_before : (all : List (MapEntry K)) (i : ℕ) (e : MapEntry K) → i < length all → e ≡ get_or all i e → AreApart all → has_id e.id (take i all) ≡ false
  apart_before [] i e within at apart = absurd (omega (arith, within))
  apart_before (x ∷ xs) zero e within at apart = refl
  apart_before (x ∷ xs) (suc i) e within at apart =
      let inside : i < length xs = omega (arith, within) in
      let other : nat_eq e.id x.id ≡ false = each_at (λ y. nat_eq y.id x.id ≡ false) xs i e (each_fails (is_of x.id) xs apart.0) inside at in
      let away : nat_eq x.id e.id ≡ false = search (arith, other) in
      rw away (apart_before xs i e inside at apart.1)

  pub is_twice : (revision : ℕ) (all : List (MapEntry K)) (i : ℕ) (map : MapState K) (e : MapEntry K) (o : Option K) → map ≡ restored revision (take i all) → i < length all → e ≡ get_or all i e
      → o ≡ key_at e.id (entries_of map) → is_some o ≡ true → AreApart all → ⊥
  is_twice revision all i map e o is within at told some apart =
      let none : find (is_of e.id) (take i all) ≡ None = none_of_any (is_of e.id) (take i all) (apart_before all i e within at apart) in
      let found : o ≡ None = told ∙ ap (λ m. key_at e.id (entries_of m)) is ∙ ap (option_map (λ (x : MapEntry K). x.key)) none in
      let c : is_some o ≡ false = ap is_some found in cc
