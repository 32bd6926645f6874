-- What each listener is told.
use Rattle.std.proofs.Common.{◌≡◌, ℕ, Bool, true, false, List, [], ◌∷◌, None, refl, sym, ap, ◌∙◌, arith}
use Rattle.std.specs.Prelude.{nat_eq, nat_lt}
use Rattle.std.specs.BTreeMap.{is_at}
use Rattle.std.specs.Cmp.{eq_by_cmp_equiv}
use Rattle.std.specs.List.Sorted.{IsStrictlySortedBy}
use Rattle.std.specs.Map.{keys_of}
use Rattle.std.specs.Ordering.{nat_cmp}
use Rattle.std.proofs.lemmas.Bool.Decides.{nat_tests}
use Rattle.std.proofs.lemmas.Cmp.{nat_cmp_total}
use Rattle.std.proofs.lemmas.Map.{lookup-none}
use Rattle.std.proofs.lemmas.Map.Entries.{none_past_head}
use Rattle.std.proofs.lemmas.Map.Keys.{IsDistinct-from_sorted}
use Rattle.change_list.specs.declared.item.Item.{Item}
use Rattle.feed.specs.Feeds.{items_under}
use Rattle.feed.specs.Listening.{AreApart, begin_of, item_to, told_after}

-- a serial is found under itself alone
pub at_serial : (serial other : ℕ) → is_at (nat_cmp serial) other ≡ nat_eq other serial
at_serial serial other = grind (arith, nat_tests)

module _ {K : Type 0} (number : ℕ) (item : Item K) (serial : ℕ) where
  -- one more listener, which isn't among those after it
  pub told_step : (l : ℕ × ℕ) (ls : List (ℕ × ℕ)) → items_under serial (item_to number item ls) ≡ told_after number item (begin_of ls serial)
      → (is_at (nat_cmp serial) l.0 ≡ true → begin_of ls serial ≡ None) → items_under serial (item_to number item (l ∷ ls)) ≡ told_after number item (begin_of (l ∷ ls) serial)
  told_step l ls rest once = by_test (nat_eq l.0 serial) refl (nat_lt l.1 number) refl
    where
      by_test : (b : Bool) → nat_eq l.0 serial ≡ b → (c : Bool) → nat_lt l.1 number ≡ c → items_under serial (item_to number item (l ∷ ls)) ≡ told_after number item (begin_of (l ∷ ls) serial)
      by_test true e true f =
          let t : is_at (nat_cmp serial) l.0 ≡ true = at_serial serial l.0 ∙ e in
          rw (t, f, e) (ap (λ r. item ∷ r) (rest ∙ ap (told_after number item) (once t)))
      by_test true e false f =
          let t : is_at (nat_cmp serial) l.0 ≡ true = at_serial serial l.0 ∙ e in
          rw (t, f) (rest ∙ ap (told_after number item) (once t))
      by_test false e true f =
          let t : is_at (nat_cmp serial) l.0 ≡ false = at_serial serial l.0 ∙ e in
          rw (t, f, e) rest
      by_test false e false f =
          let t : is_at (nat_cmp serial) l.0 ≡ false = at_serial serial l.0 ∙ e in
          rw (t, f) rest

  told_rising : (ls : List (ℕ × ℕ)) → IsStrictlySortedBy nat_cmp (keys_of ls) → items_under serial (item_to number item ls) ≡ told_after number item (begin_of ls serial)
  unfolding IsStrictlySortedBy
  told_rising [] rise = refl
  told_rising (l ∷ ls) rise =
      told_step l ls (told_rising ls rise.1)
      (λ here. lookup-none (is_at (nat_cmp serial)) ls (none_past_head (eq_by_cmp_equiv nat_cmp_total) serial l ls (IsDistinct-from_sorted nat_cmp (keys_of (l ∷ ls)) rise) here))

  -- each listener is told once
  pub told_once : (first from : ℕ) (others : List (ℕ × ℕ)) → AreApart first others → items_under serial (item_to number item ((first, from) ∷ others)) ≡ told_after number item (begin_of ((first, from) ∷ others) serial)
  told_once first from others apart =
      told_step (first, from) others (told_rising others apart.rise)
      (λ here. let same : first ≡ serial = search (arith, sym (at_serial serial first) ∙ here) in ap (λ n. begin_of others n) (sym same) ∙ apart.apart)
