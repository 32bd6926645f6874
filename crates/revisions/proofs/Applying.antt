-- What a client holds.
use Rattle.std.proofs.Common.{◌≡◌, ◌+◌, ◌-◌, ℕ, Bool, true, false, not, cond, ◌||◌, List, [], ◌∷◌, ◌++◌, take, drop, filter, refl, sym, ap, ◌∙◌, arith}
use Rattle.std.specs.Prelude.{nat_eq, option_to_list}
use Rattle.std.specs.List.{list_any}
use Rattle.std.proofs.lemmas.List.{append-nil}
use Rattle.std.proofs.lemmas.List.Elements.{filter-append}
use Rattle.std.proofs.lemmas.List.Folds.{list_any-append}
use Rattle.revisions.specs.declared.change.MapChange.{MapChange}
use Rattle.revisions.specs.declared.change.MapChange.TheVariants.{Put, Remove}
use Rattle.revisions.specs.declared.entry.MapEntry.{MapEntry}
use Rattle.revisions.specs.declared.item.MapItem.{MapItem}
use Rattle.revisions.specs.Items.{AreItems, is_shown, item_of, items_after, left_item, matching, put_item, with_item, with_items}
use Rattle.revisions.specs.Maps.{AreApart, MapState, changed, entries_after, entries_at, has_id, is_of, with_key, without_id}
use Rattle.revisions.proofs.Forgetting.{after_append, taken_twice}

-- two filters, in either order
filter_swap : {X : Type 0} (p q : X → Bool) (xs : List X) → filter p (filter q xs) ≡ filter q (filter p xs)
filter_swap p q [] = refl
filter_swap p q (x ∷ xs) = by_tests (filter_swap p q xs) (p x) (q x) refl refl
  where
    by_tests : filter p (filter q xs) ≡ filter q (filter p xs) → (a b : Bool) → p x ≡ a → q x ≡ b → filter p (cond (q x) (x ∷ filter q xs) (filter q xs)) ≡ filter q (cond (p x) (x ∷ filter p xs) (filter p xs))
    by_tests rest true true e f = rw (e, f, e) (ap (λ l. x ∷ l) rest)
    by_tests rest true false e f = rw (e, f) rest
    by_tests rest false true e f = rw (e, f, e) rest
    by_tests rest false false e f = rw (e, f) rest

-- a number of a test that fails, either way round
apart_swap : (a b : ℕ) → nat_eq a b ≡ false → nat_eq b a ≡ false
apart_swap a b h = search (arith, h)

or_both : (a b : Bool) → (a || b) ≡ false → (a ≡ false) × (b ≡ false)
or_both false false h = (refl, refl)
or_both false true h = absurd (cc)
or_both true b h = absurd (cc)

or_made : (a b : Bool) → a ≡ false → b ≡ false → (a || b) ≡ false
or_made false false e f = refl
or_made false true e f = absurd (cc)
or_made true b e f = absurd (cc)

pub any_cons : {X : Type 0} (p : X → Bool) (x : X) (xs : List X) → list_any p (x ∷ xs) ≡ (p x || list_any p xs)
any_cons p x xs = by_test (p x) refl
  where
    by_test : (b : Bool) → p x ≡ b → list_any p (x ∷ xs) ≡ (p x || list_any p xs)
    by_test true e = rw e refl
    by_test false e = rw e refl

-- a filter keeps that no element passes a test
none_filtered : {X : Type 0} (p q : X → Bool) (xs : List X) → list_any p xs ≡ false → list_any p (filter q xs) ≡ false
none_filtered p q [] h = refl
none_filtered p q (x ∷ xs) h =
    let parts = or_both (p x) (list_any p xs) (sym (any_cons p x xs) ∙ h) in
    by_test (q x) (none_filtered p q xs parts.1) parts.0
  where
    by_test : (b : Bool) → list_any p (filter q xs) ≡ false → p x ≡ false → list_any p (cond b (x ∷ filter q xs) (filter q xs)) ≡ false
    by_test true rest here = any_cons p x (filter q xs) ∙ or_made (p x) (list_any p (filter q xs)) here rest
    by_test false rest here = rest

-- what no element fails is the list itself
pub all_kept : {X : Type 0} (p : X → Bool) (xs : List X) → list_any p xs ≡ false → filter (λ x. not (p x)) xs ≡ xs
all_kept p [] h = refl
all_kept p (x ∷ xs) h =
    let parts = or_both (p x) (list_any p xs) (sym (any_cons p x xs) ∙ h) in
    let here = parts.0 in
    rw here (ap (λ l. x ∷ l) (all_kept p xs parts.1))

none_left : {X : Type 0} (p : X → Bool) (xs : List X) → list_any p (filter (λ x. not (p x)) xs) ≡ false
none_left p [] = refl
none_left p (x ∷ xs) = by_test (p x) refl (none_left p xs)
  where
    by_test : (b : Bool) → p x ≡ b → list_any p (filter (λ x. not (p x)) xs) ≡ false → list_any p (cond (not b) (x ∷ filter (λ x. not (p x)) xs) (filter (λ x. not (p x)) xs)) ≡ false
    by_test true e rest = rest
    by_test false e rest = any_cons p x (filter (λ x. not (p x)) xs) ∙ or_made (p x) _ e rest

module _ {K : Type 0} where
  apart_filtered : (q : MapEntry K → Bool) (es : List (MapEntry K)) → AreApart es → AreApart (filter q es)
  apart_filtered q [] a = tt
  apart_filtered q (e ∷ es) a = by_test (q e) (apart_filtered q es a.1)
    where
      by_test : (b : Bool) → AreApart (filter q es) → AreApart (cond b (e ∷ filter q es) (filter q es))
      by_test true rest = (none_filtered (is_of e.id) q es a.0, rest)
      by_test false rest = rest

  pub apart_push : (es : List (MapEntry K)) (new : MapEntry K) → AreApart es → has_id new.id es ≡ false → AreApart (es ++ new ∷ [])
  apart_push [] new a h = (refl, tt)
  apart_push (e ∷ es) new a h =
      let parts = or_both (is_of new.id e) (has_id new.id es) (sym (any_cons (is_of new.id) e es) ∙ h) in
      let other : is_of e.id new ≡ false = apart_swap e.id new.id parts.0 in
      (list_any-append (is_of e.id) es (new ∷ []) ∙ or_made (has_id e.id es) (has_id e.id (new ∷ [])) a.0 (any_cons (is_of e.id) new [] ∙ or_made (is_of e.id new) false other refl), apart_push es new a.1 parts.1)

  pub apart_changed : (es : List (MapEntry K)) (c : MapChange K) → AreApart es → AreApart (changed es c)
  apart_changed es (Put id key) a = apart_push (without_id id es) (record { id = id; key = key }) (apart_filtered _ es a) (none_left (is_of id) es)
  apart_changed es (Remove id) a = apart_filtered _ es a

  pub apart_after : (es : List (MapEntry K)) (cs : List (MapChange K)) → AreApart es → AreApart (entries_after es cs)
  apart_after es [] a = a
  apart_after es (c ∷ cs) a = apart_after (changed es c) cs (apart_changed es c a)

module _ {K : Type 0} (wanted : K → Bool) where
  -- an id that isn't shown isn't among the matching entries
  unshown : (id : ℕ) (es : List (MapEntry K)) → AreApart es → is_shown wanted id es ≡ false → has_id id (matching wanted es) ≡ false
  unshown id [] a h = refl
  unshown id (e ∷ es) a h = by_tests (λ h'. unshown id es a.1 h') (is_of id e) (wanted e.key) refl refl
    where
      rest : (is_shown wanted id es ≡ false → has_id id (matching wanted es) ≡ false) → (is_of id e ≡ false) → has_id id (matching wanted es) ≡ false
      rest later other = let h' : is_shown wanted id es ≡ false = rw other at h in later h'

      by_tests : (is_shown wanted id es ≡ false → has_id id (matching wanted es) ≡ false) → (x y : Bool) → is_of id e ≡ x → wanted e.key ≡ y → has_id id (cond (wanted e.key) (e ∷ matching wanted es) (matching wanted es)) ≡ false
      by_tests later true true f w = let h' : wanted e.key ≡ false = rw f at h in absurd (let t : true ≡ false = sym w ∙ h' in cc)
      by_tests later true false f w =
          let same : e.id ≡ id = search (arith, f) in
          rw w (none_filtered (is_of id) (λ x. wanted x.key) es (ap (λ n. has_id n es) (sym same) ∙ a.0))
      by_tests later false true f w = rw w (any_cons (is_of id) e (matching wanted es) ∙ or_made (is_of id e) _ f (rest later f))
      by_tests later false false f w = rw w (rest later f)

  left_matching : (id : ℕ) (es : List (MapEntry K)) → matching wanted (without_id id es) ≡ without_id id (matching wanted es)
  left_matching id es = filter_swap (λ e. wanted e.key) (λ e. not (is_of id e)) es

  unshown_kept : (id : ℕ) (es : List (MapEntry K)) → AreApart es → is_shown wanted id es ≡ false → matching wanted es ≡ matching wanted (without_id id es)
  unshown_kept id es a h = sym (all_kept (is_of id) (matching wanted es) (unshown id es a h)) ∙ sym (left_matching id es)

  put_wanted : (id : ℕ) (key : K) (es : List (MapEntry K)) → wanted key ≡ true → with_key id key (matching wanted es) ≡ matching wanted (with_key id key es)
  put_wanted id key es w =
      let new : MapEntry K = record { id = id; key = key } in
      let one : matching wanted (new ∷ []) ≡ new ∷ [] = rw w refl in
      ap (λ l. l ++ new ∷ []) (sym (left_matching id es)) ∙ ap (λ l. matching wanted (without_id id es) ++ l) (sym one) ∙ sym (filter-append (λ e. wanted e.key) (without_id id es) (new ∷ []))

  put_unwanted : (id : ℕ) (key : K) (es : List (MapEntry K)) → wanted key ≡ false → matching wanted (without_id id es) ≡ matching wanted (with_key id key es)
  put_unwanted id key es w =
      let new : MapEntry K = record { id = id; key = key } in
      let one : matching wanted (new ∷ []) ≡ [] = rw w refl in
      sym (append-nil (matching wanted (without_id id es))) ∙ ap (λ l. matching wanted (without_id id es) ++ l) (sym one) ∙ sym (filter-append (λ e. wanted e.key) (without_id id es) (new ∷ []))

  -- one change
  change_applied : (n : ℕ) (es : List (MapEntry K)) (c : MapChange K) → AreApart es → with_items (matching wanted es) (option_to_list (item_of wanted n es c)) ≡ matching wanted (changed es c)
  change_applied n es (Put id key) a = by_tests (is_shown wanted id es) (wanted key) refl refl
    where
      by_tests : (x y : Bool) → is_shown wanted id es ≡ x → wanted key ≡ y → with_items (matching wanted es) (option_to_list (put_item wanted n id key x y)) ≡ matching wanted (with_key id key es)
      by_tests true true s w = put_wanted id key es w
      by_tests false true s w = put_wanted id key es w
      by_tests true false s w = sym (left_matching id es) ∙ put_unwanted id key es w
      by_tests false false s w = unshown_kept id es a s ∙ put_unwanted id key es w
  change_applied n es (Remove id) a = by_test (is_shown wanted id es) refl
    where
      by_test : (x : Bool) → is_shown wanted id es ≡ x → with_items (matching wanted es) (option_to_list (left_item wanted n id x)) ≡ matching wanted (without_id id es)
      by_test true s = sym (left_matching id es)
      by_test false s = unshown_kept id es a s

  applied_append : (held : List (MapEntry K)) (first more : List (MapItem K)) → with_items held (first ++ more) ≡ with_items (with_items held first) more
  applied_append held [] more = refl
  applied_append held (i ∷ first) more = applied_append (with_item held i) first more

  pub all_applied : (n : ℕ) (es : List (MapEntry K)) (cs : List (MapChange K)) → AreApart es → with_items (matching wanted es) (items_after wanted n es cs) ≡ matching wanted (entries_after es cs)
  all_applied n es [] a = refl
  all_applied n es (c ∷ cs) a =
      applied_append (matching wanted es) (option_to_list (item_of wanted (n + 1) es c)) (items_after wanted (n + 1) (changed es c) cs)
      ∙ ap (λ held. with_items held (items_after wanted (n + 1) (changed es c) cs)) (change_applied (n + 1) es c a)
      ∙ all_applied (n + 1) (changed es c) cs (apart_changed es c a)

  pub items_apply : (map : MapState K) (from upto : ℕ) (items : List (MapItem K)) → AreApart map.first → AreItems wanted from upto map items → with_items (matching wanted (entries_at from map)) items ≡ matching wanted (entries_at upto map)
  items_apply map from upto items a are =
      let b = from - map.oldest in
      let e : (from - map.oldest) + (upto - from) ≡ upto - map.oldest = omega (arith, are.known, are.from_before) in
      ap (with_items (matching wanted (entries_at from map))) are.is
      ∙ all_applied from (entries_at from map) (take (upto - from) (drop (from - map.oldest) map.changes)) (apart_after map.first (take (from - map.oldest) map.changes) a)
      ∙ ap (matching wanted) (sym (after_append map.first (take (from - map.oldest) map.changes) (take (upto - from) (drop (from - map.oldest) map.changes)))
      ∙ ap (entries_after map.first) (taken_twice (from - map.oldest) (upto - from) map.changes ∙ ap (λ k. take k map.changes) e))
