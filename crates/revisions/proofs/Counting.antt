-- How many entries there are once a change is made.
use Rattle.std.proofs.Common.{◌≡◌, ◌+◌, ℕ, Bool, true, false, not, cond, ◌||◌, List, [], ◌∷◌, length, refl, sym, ap, ◌∙◌, arith}
use Rattle.std.proofs.lemmas.List.{length-append}
use Rattle.revisions.specs.declared.entry.MapEntry.{MapEntry}
use Rattle.revisions.specs.Maps.{AreApart, has_id, is_of, with_key, without_id}
use Rattle.revisions.proofs.Applying.{all_kept, any_cons}

module _ {K : Type 0} (id : ℕ) where
  -- an id that has no key has no entry to be left out
  pub none_without : (es : List (MapEntry K)) → has_id id es ≡ false → without_id id es ≡ es
  none_without es none = all_kept (is_of id) es none

  pub one_without : (es : List (MapEntry K)) → AreApart es → has_id id es ≡ true → length (without_id id es) + 1 ≡ length es
  one_without [] apart has = absurd (let h : false ≡ true = has in cc)
  one_without (e ∷ es) apart has = by_test (one_without es apart.1) (is_of id e) refl
    where
      by_test : (has_id id es ≡ true → length (without_id id es) + 1 ≡ length es) → (b : Bool) → is_of id e ≡ b → length (cond (not (is_of id e)) (e ∷ without_id id es) (without_id id es)) + 1 ≡ length (e ∷ es)
      by_test rest true is =
          let same : e.id ≡ id = search (arith, is) in
          let none = ap length (none_without es (ap (λ n. has_id n es) (sym same) ∙ apart.0)) in
          rw is (omega (arith, none))
      by_test rest false is =
          let later : has_id id es ≡ true = ap (λ b. b || has_id id es) (sym is) ∙ sym (any_cons (is_of id) e es) ∙ has in
          rw is (omega (arith, rest later))

  pub one_more : (key : K) (es : List (MapEntry K)) → has_id id es ≡ false → length (with_key id key es) ≡ length es + 1
  one_more key es none = length-append (without_id id es) (record { id = id; key = key } ∷ []) ∙ ap (λ l. length l + 1) (none_without es none)

  pub as_many : (key : K) (es : List (MapEntry K)) → AreApart es → has_id id es ≡ true → length (with_key id key es) ≡ length es
  as_many key es apart has = length-append (without_id id es) (record { id = id; key = key } ∷ []) ∙ one_without es apart has
