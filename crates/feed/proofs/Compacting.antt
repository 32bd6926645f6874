-- Which subscriptions need changes that are no longer known.
use Rattle.std.proofs.Common.{◌≡◌, ◌⊎◌, ◌<◌, ◌≤◌, ℕ, max, Bool, true, false, cond, List, [], ◌∷◌, map, filter, refl, ap, ◌∙◌, arith, inl, inr}
use Rattle.std.specs.Prelude.{nat_le, nat_lt}
use Rattle.std.specs.List.{list_any}
use Rattle.world.specs.Serials.{Rise}
use Rattle.feed.specs.declared.registration.Registration.{Registration}
use Rattle.feed.specs.Feeds.{needs_before}
use Rattle.feed.specs.Holding.{serial_of, shown, shown_at}

-- Only subscriptions after a serial can need changes from before a revision: any can if the feed is behind that
-- revision, and else those that weren't given yet what they missed.
abbrev pub MayNeedAfter : ℕ → ℕ → ℕ → ℕ → Type 0
MayNeedAfter upto passed oldest after = ((upto < oldest) × (after ≡ 0)) ⊎ ((oldest ≤ upto) × (after ≡ passed))

module _ {A : Type 0} (upto passed oldest after : ℕ) (may : MayNeedAfter upto passed oldest after) where
  not_needed : (x : ℕ × Registration A) → 0 < x.0 → nat_lt after x.0 ≡ false → nat_lt (shown_at upto passed x) oldest ≡ false
  not_needed x serial e =
      let within : x.0 ≤ after = search (arith, e) in
      elim may [
        | inl behind ↦ absurd (omega (arith, serial, within, behind.1))
        | inr reached ↦
            let given : nat_le x.0 passed ≡ true = (let l : x.0 ≤ passed = omega (arith, within, reached.1) in search (arith, l)) in
            let at : shown_at upto passed x ≡ max x.1.from upto = ap (λ b. cond b (max x.1.from upto) x.1.from) given in
            let late : oldest ≤ shown_at upto passed x = omega (arith, at, reached.0) in
            search (arith, late)
      ]

  same_need : (x : ℕ × Registration A) → nat_lt after x.0 ≡ true → nat_lt (shown_at upto passed x) oldest ≡ nat_lt x.1.from oldest
  same_need x e = by_test (nat_le x.0 passed) refl
    where
      by_from : upto < oldest → (b : Bool) → nat_lt x.1.from oldest ≡ b → nat_lt (max x.1.from upto) oldest ≡ b
      by_from l true f = let m : max x.1.from upto < oldest = (let n : x.1.from < oldest = search (arith, f) in omega (arith, n, l)) in search (arith, m)
      by_from l false f = let m : oldest ≤ max x.1.from upto = (let n : oldest ≤ x.1.from = search (arith, f) in omega (arith, n)) in search (arith, m)

      by_test : (b : Bool) → nat_le x.0 passed ≡ b → nat_lt (cond b (max x.1.from upto) x.1.from) oldest ≡ nat_lt x.1.from oldest
      by_test false f = refl
      by_test true f =
          let beyond : after < x.0 = search (arith, e) in
          let within : x.0 ≤ passed = search (arith, f) in
          elim may [
            | inl behind ↦ by_from behind.0 (nat_lt x.1.from oldest) refl
            | inr reached ↦ absurd (omega (arith, beyond, within, reached.1))
          ]

  any_step : (x : ℕ × Registration A) (registrations : List (ℕ × Registration A)) → 0 < x.0
      → list_any (λ s. nat_lt s.1.from oldest) (filter (λ s. nat_lt after s.0) registrations) ≡ list_any (needs_before oldest) (map (shown upto passed) registrations)
      → list_any (λ s. nat_lt s.1.from oldest) (filter (λ s. nat_lt after s.0) (x ∷ registrations)) ≡ list_any (needs_before oldest) (map (shown upto passed) (x ∷ registrations))
  any_step x registrations serial rest = by_test (nat_lt after x.0) refl
    where
      by_test : (b : Bool) → nat_lt after x.0 ≡ b → list_any (λ s. nat_lt s.1.from oldest) (filter (λ s. nat_lt after s.0) (x ∷ registrations)) ≡ list_any (needs_before oldest) (map (shown upto passed) (x ∷ registrations))
      by_test true e = rw (e, same_need x e, rest) refl
      by_test false e = rw (e, not_needed x serial e) rest

  -- the search among later serials finds one exactly if there is one
  pub any_needed : (above last : ℕ) (registrations : List (ℕ × Registration A)) → Rise serial_of above last registrations
      → list_any (λ s. nat_lt s.1.from oldest) (filter (λ s. nat_lt after s.0) registrations) ≡ list_any (needs_before oldest) (map (shown upto passed) registrations)
  any_needed above last [] rise = refl
  any_needed above last (x ∷ registrations) rise = any_step x registrations (omega (arith, rise.0)) (any_needed x.0 last registrations rise.1)

  serials_step : (x : ℕ × Registration A) (registrations : List (ℕ × Registration A)) → 0 < x.0
      → map (λ s. s.0) (filter (λ s. nat_lt s.1.from oldest) (filter (λ s. nat_lt after s.0) registrations)) ≡ map (λ s. s.serial) (filter (needs_before oldest) (map (shown upto passed) registrations))
      → map (λ s. s.0) (filter (λ s. nat_lt s.1.from oldest) (filter (λ s. nat_lt after s.0) (x ∷ registrations))) ≡ map (λ s. s.serial) (filter (needs_before oldest) (map (shown upto passed) (x ∷ registrations)))
  serials_step x registrations serial rest = by_test (nat_lt after x.0) refl (nat_lt x.1.from oldest) refl
    where
      by_test : (b : Bool) → nat_lt after x.0 ≡ b → (n : Bool) → nat_lt x.1.from oldest ≡ n
          → map (λ s. s.0) (filter (λ s. nat_lt s.1.from oldest) (filter (λ s. nat_lt after s.0) (x ∷ registrations))) ≡ map (λ s. s.serial) (filter (needs_before oldest) (map (shown upto passed) (x ∷ registrations)))
      by_test true e true f = let needed : nat_lt (shown_at upto passed x) oldest ≡ true = same_need x e ∙ f in rw (e, f, needed) (ap (λ l. x.0 ∷ l) rest)
      by_test true e false f = let needed : nat_lt (shown_at upto passed x) oldest ≡ false = same_need x e ∙ f in rw (e, f, needed) rest
      by_test false e n f = rw (e, not_needed x serial e) rest

  -- so are their serials found
  pub serials_needed : (above last : ℕ) (registrations : List (ℕ × Registration A)) → Rise serial_of above last registrations
      → map (λ s. s.0) (filter (λ s. nat_lt s.1.from oldest) (filter (λ s. nat_lt after s.0) registrations)) ≡ map (λ s. s.serial) (filter (needs_before oldest) (map (shown upto passed) registrations))
  serials_needed above last [] rise = refl
  serials_needed above last (x ∷ registrations) rise = serials_step x registrations (omega (arith, rise.0)) (serials_needed x.0 last registrations rise.1)
