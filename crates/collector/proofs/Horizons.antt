-- The horizon of one cursor more, and of each cursor.
use Rattle.std.proofs.Common.{◌≡◌, ◌+◌, ◌<◌, ◌≤◌, ℕ, Bool, true, false, List, [], ◌∷◌, ◌++◌, length, take, get_or, Some, ◌⊎◌, inl, inr, refl, sym, ap, ◌∙◌, arith}
use Rattle.std.specs.Prelude.{if◌then◌else◌, min, slice_get}
use Rattle.std.proofs.Math.Nat.{min-eq_left, min-eq_right}
use Rattle.std.proofs.lemmas.Bool.{both_ways}
use Rattle.std.proofs.lemmas.List.{take_more}
use Rattle.change_list.proofs.Lists.{slice_get_before, slice_get_end, slice_get_push, slice_get_within}
use Rattle.page_table.specs.Stacks.{StackItem}
use Rattle.cursor.specs.OpenCursors.{OpenCursor, is_scanning}
use Rattle.collector.specs.Horizons.{IsHorizon, ScansFrom}

over_or_scanning : (stack : List StackItem) → (stack ≡ []) ⊎ (is_scanning stack ≡ true)
over_or_scanning [] = inl refl
over_or_scanning (item ∷ stack) = inr refl

either_first : (a b : ℕ) → (a ≤ b) ⊎ (b < a)
either_first a b = search arith

module _ {K A : Type 0} (commits : ℕ) where
  module _ (cursors : List (OpenCursor K A)) where
    -- a cursor in its place
    pub horizon_below : (horizon at : ℕ) (k : OpenCursor K A) → IsHorizon commits cursors horizon → slice_get cursors at ≡ Some k → (k.stack ≡ []) ⊎ (horizon ≤ k.opened)
    horizon_below horizon at k is e = elim (over_or_scanning k.stack) [
      | inl over ↦ inl over
      | inr scanning ↦ inr (is.least k.opened (record { at = at; cursor = k; is = e; scanning = scanning; opened_is = refl }))
    ]

    module _ (k : OpenCursor K A) where
      later : (opened : ℕ) → ScansFrom cursors opened → ScansFrom (cursors ++ k ∷ []) opened
      later opened scan = record {
        at = scan.at;
        cursor = scan.cursor;
        is = slice_get_before cursors (k ∷ []) scan.at (slice_get_within cursors scan.at scan.cursor scan.is) ∙ scan.is;
        scanning = scan.scanning;
        opened_is = scan.opened_is;
      }

      -- a scan of the longer list is one of the shorter, or the last
      earlier : (opened : ℕ) → ScansFrom (cursors ++ k ∷ []) opened → ScansFrom cursors opened ⊎ ((is_scanning k.stack ≡ true) × (k.opened ≡ opened))
      earlier opened scan = elim (slice_get_push cursors k scan.cursor scan.at scan.is) [
        | inl old ↦ inl (record { at = scan.at; cursor = scan.cursor; is = old.0; scanning = scan.scanning; opened_is = scan.opened_is })
        | inr last ↦ inr (ap (λ (c : OpenCursor K A). is_scanning c.stack) last.1 ∙ scan.scanning, ap (λ (c : OpenCursor K A). c.opened) last.1 ∙ scan.opened_is)
      ]

      kept : (horizon : ℕ) → IsHorizon commits cursors horizon → (is_scanning k.stack ≡ true → horizon ≤ k.opened) → IsHorizon commits (cursors ++ k ∷ []) horizon
      kept horizon is above = record {
        within = is.within;
        least = λ opened scan. elim (earlier opened scan) [
          | inl old ↦ is.least opened old
          | inr last ↦ omega (arith, above last.0, last.1)
        ];
        reached = elim is.reached [ inl all ↦ inl all | inr scan ↦ inr (later horizon scan) ];
      }

      lowered : (horizon : ℕ) → IsHorizon commits cursors horizon → is_scanning k.stack ≡ true → k.opened < horizon → IsHorizon commits (cursors ++ k ∷ []) k.opened
      lowered horizon is scanning below = record {
        within = omega (arith, is.within, below);
        least = λ opened scan. elim (earlier opened scan) [
          | inl old ↦ omega (arith, is.least opened old, below)
          | inr last ↦ omega (arith, last.1)
        ];
        reached = inr (record { at = length cursors; cursor = k; is = slice_get_end cursors k; scanning = scanning; opened_is = refl });
      }

      -- one cursor more, which is over
      horizon_passed : (horizon : ℕ) → IsHorizon commits cursors horizon → is_scanning k.stack ≡ false → IsHorizon commits (cursors ++ k ∷ []) horizon
      horizon_passed horizon is over = kept horizon is (λ scanning. absurd (both_ways (is_scanning k.stack) over scanning))

      -- one more, which is scanning
      horizon_joined : (horizon : ℕ) → IsHorizon commits cursors horizon → is_scanning k.stack ≡ true → IsHorizon commits (cursors ++ k ∷ []) (min horizon k.opened)
      horizon_joined horizon is scanning = elim (either_first horizon k.opened) [
        | inl no_later ↦ rw (min-eq_left no_later) (kept horizon is (λ _. no_later))
        | inr below ↦ let e : k.opened ≤ horizon = omega (arith, below) in rw (min-eq_right e) (lowered horizon is scanning below)
      ]

  -- the next of some cursors
  pub horizon_next : (cursors : List (OpenCursor K A)) (i : ℕ) (k : OpenCursor K A) (horizon needed : ℕ) → i < length cursors → k ≡ get_or cursors i k → needed ≡ (if is_scanning k.stack then k.opened else commits)
      → IsHorizon commits (take i cursors) horizon → IsHorizon commits (take (i + 1) cursors) (min horizon needed)
  horizon_next cursors i k horizon needed l is e before = rw more (by_test (is_scanning k.stack) refl)
    where
      more : take (i + 1) cursors ≡ take i cursors ++ k ∷ []
      more = take_more cursors i k l ∙ ap (λ x. take i cursors ++ x ∷ []) (sym is)

      by_test : (b : Bool) → is_scanning k.stack ≡ b → IsHorizon commits (take i cursors ++ k ∷ []) (min horizon needed)
      by_test true h =
          let same : needed ≡ k.opened = e ∙ ap (λ b. if b then k.opened else commits) h in
          rw same (horizon_joined (take i cursors) k horizon before h)
      by_test false h =
          let same : needed ≡ commits = e ∙ ap (λ b. if b then k.opened else commits) h in
          rw (same, min-eq_left before.within) (horizon_passed (take i cursors) k horizon before h)
