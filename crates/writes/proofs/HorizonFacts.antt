-- Some cursors have one horizon.
use Rattle.std.proofs.Common.{◌≡◌, ◌<◌, ◌≤◌, ◌⊎◌, inl, inr, ℕ, zero, suc, true, List, [], ◌∷◌, Some, refl, ap, ◌∙◌, arith}
use Rattle.std.specs.Prelude.{slice_get}
use Rattle.std.proofs.lemmas.Bool.{both_ways, cases_Bool}
use Rattle.cursor.specs.OpenCursors.{OpenCursor, is_scanning}
use Rattle.collector.specs.Horizons.{IsHorizon, ScansFrom}

either : (a b : ℕ) → (a ≤ b) ⊎ (b < a)
either a b = search arith

module _ {K A : Type 0} (commits : ℕ) where
  not_above : (cursors : List (OpenCursor K A)) (a b : ℕ) → IsHorizon commits cursors a → IsHorizon commits cursors b → a ≤ b
  not_above cursors a b x y = elim y.reached [
    | inl all ↦ omega (arith, all, x.within)
    | inr scan ↦ x.least b scan
  ]

  pub horizon_unique : (cursors : List (OpenCursor K A)) (a b : ℕ) → IsHorizon commits cursors a → IsHorizon commits cursors b → a ≡ b
  horizon_unique cursors a b x y = omega (arith, not_above cursors a b x y, not_above cursors b a y x)

  module _ (k : OpenCursor K A) (cursors : List (OpenCursor K A)) where
    first_or_later : (at : ℕ) (c : OpenCursor K A) → slice_get (k ∷ cursors) at ≡ Some c → (k ≡ c) ⊎ ((i : ℕ) × (slice_get cursors i ≡ Some c))
    first_or_later zero c h = inl (cc)
    first_or_later (suc i) c h = inr (i, h)

    later : (opened : ℕ) → ScansFrom cursors opened → ScansFrom (k ∷ cursors) opened
    later opened scan = record { at = suc scan.at; cursor = scan.cursor; is = scan.is; scanning = scan.scanning; opened_is = scan.opened_is }

    least_of : (h : ℕ) → ((opened : ℕ) → ScansFrom cursors opened → h ≤ opened) → (is_scanning k.stack ≡ true → h ≤ k.opened) → (opened : ℕ) → ScansFrom (k ∷ cursors) opened → h ≤ opened
    least_of h least above opened scan = elim (first_or_later scan.at scan.cursor scan.is) [
      | inl e ↦
          let scans : is_scanning k.stack ≡ true = ap (λ (c : OpenCursor K A). is_scanning c.stack) e ∙ scan.scanning in
          let same : k.opened ≡ opened = ap (λ (c : OpenCursor K A). c.opened) e ∙ scan.opened_is in
          omega (arith, above scans, same)
      | inr old ↦ least opened (record { at = old.0; cursor = scan.cursor; is = old.1; scanning = scan.scanning; opened_is = scan.opened_is })
    ]

    same_horizon : (h : ℕ) → IsHorizon commits cursors h → (is_scanning k.stack ≡ true → h ≤ k.opened) → IsHorizon commits (k ∷ cursors) h
    same_horizon h is above = record {
      within = is.within;
      least = least_of h is.least above;
      reached = elim is.reached [ inl all ↦ inl all | inr scan ↦ inr (later h scan) ];
    }

    own_horizon : (h : ℕ) → IsHorizon commits cursors h → is_scanning k.stack ≡ true → k.opened < h → IsHorizon commits (k ∷ cursors) k.opened
    own_horizon h is scans below = record {
      within = omega (arith, is.within, below);
      least = least_of k.opened (λ opened scan. omega (arith, is.least opened scan, below)) (λ o. omega arith);
      reached = inr (record { at = 0; cursor = k; is = refl; scanning = scans; opened_is = refl });
    }

  -- there is one
  pub a_horizon : (cursors : List (OpenCursor K A)) → (h : ℕ) × IsHorizon commits cursors h
  a_horizon [] = (commits, record { within = omega arith; least = λ opened scan. absurd (let e = scan.is in cc); reached = inl refl })
  a_horizon (k ∷ cursors) = go (a_horizon cursors)
    where
      go : (h : ℕ) × IsHorizon commits cursors h → (h : ℕ) × IsHorizon commits (k ∷ cursors) h
      go found = elim (cases_Bool (is_scanning k.stack)) [
        | inl scans ↦ elim (either found.0 k.opened) [
          | inl above ↦ (found.0, same_horizon k cursors found.0 found.1 (λ o. above))
          | inr below ↦ (k.opened, own_horizon k cursors found.0 found.1 scans below)
        ]
        | inr over ↦ (found.0, same_horizon k cursors found.0 found.1 (λ o. absurd (both_ways (is_scanning k.stack) over o)))
      ]
