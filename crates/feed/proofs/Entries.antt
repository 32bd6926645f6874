-- Entries of a map whose keys are serials that rise.
use Rattle.std.proofs.Common.{◌≡◌, ◌<◌, ◌≤◌, ℕ, Bool, true, false, List, [], ◌∷◌, ◌++◌, Some, None, refl, sym, ap, ◌∙◌, arith}
use Rattle.std.specs.Prelude.{nat_eq}
use Rattle.std.specs.BTreeMap.{insert_entry, is_at}
use Rattle.std.specs.Map.{lookup, remove_entry}
use Rattle.std.specs.Ordering.{nat_cmp}
use Rattle.std.specs.declared.cmp.Ordering.TheVariants.{Greater}
use Rattle.std.proofs.lemmas.Bool.Decides.{nat_tests}
use Rattle.world.specs.Serials.{Rise, member, without}
use Rattle.world.proofs.Serials.{rise_within}
use Rattle.feed.proofs.Listening.{at_serial}

module _ {X : Type 0} where
  -- what is found under a serial is the member with it
  pub member_found : (serial : ℕ) (es : List (ℕ × X)) (x : X) → lookup (is_at (nat_cmp serial)) es ≡ Some x → member (λ e. e.0) serial es ≡ Some (serial, x)
  member_found serial [] x is = absurd (cc)
  member_found serial (e ∷ es) x is = by_test (nat_eq e.0 serial) refl (λ found. member_found serial es x found)
    where
      by_test : (b : Bool) → nat_eq e.0 serial ≡ b → (lookup (is_at (nat_cmp serial)) es ≡ Some x → member (λ f. f.0) serial es ≡ Some (serial, x)) → member (λ f. f.0) serial (e ∷ es) ≡ Some (serial, x)
      by_test true t rest =
          let here : is_at (nat_cmp serial) e.0 ≡ true = at_serial serial e.0 ∙ t in
          let found : Some e.1 ≡ Some x = rw here at is in
          let value : e.1 ≡ x = cc in
          let same : e.0 ≡ serial = search (arith, t) in
          rw t (ap (λ n. Some (n, e.1)) same ∙ ap (λ v. Some (serial, v)) value)
      by_test false t rest =
          let away : is_at (nat_cmp serial) e.0 ≡ false = at_serial serial e.0 ∙ t in
          let found : lookup (is_at (nat_cmp serial)) es ≡ Some x = rw away at is in
          rw t (rest found)

  -- and where nothing is, there is none
  pub member_missing : (serial : ℕ) (es : List (ℕ × X)) → lookup (is_at (nat_cmp serial)) es ≡ None → member (λ e. e.0) serial es ≡ None
  member_missing serial [] is = refl
  member_missing serial (e ∷ es) is = by_test (nat_eq e.0 serial) refl (λ found. member_missing serial es found)
    where
      by_test : (b : Bool) → nat_eq e.0 serial ≡ b → (lookup (is_at (nat_cmp serial)) es ≡ None → member (λ f. f.0) serial es ≡ None) → member (λ f. f.0) serial (e ∷ es) ≡ None
      by_test true t rest =
          let here : is_at (nat_cmp serial) e.0 ≡ true = at_serial serial e.0 ∙ t in
          let found : Some e.1 ≡ None = rw here at is in
          absurd (cc)
      by_test false t rest =
          let away : is_at (nat_cmp serial) e.0 ≡ false = at_serial serial e.0 ∙ t in
          let found : lookup (is_at (nat_cmp serial)) es ≡ None = rw away at is in
          rw t (rest found)

  -- a serial above all comes last
  pub inserted_last : (serial above last : ℕ) (es : List (ℕ × X)) (x : X) → Rise (λ e. e.0) above last es → last < serial → insert_entry nat_cmp es serial x ≡ es ++ (serial, x) ∷ []
  inserted_last serial above last [] x rise later = refl
  inserted_last serial above last (e ∷ es) x rise later =
      let below : e.0 < serial = omega (arith, later, rise_within (λ f. f.0) e.0 last es rise.1) in
      let greater : nat_cmp serial e.0 ≡ Greater = grind (arith, nat_tests) in
      rw greater (ap (λ l. e ∷ l) (inserted_last serial e.0 last es x rise.1 later))

  -- without a serial that none has
  without_none : (serial above last : ℕ) (es : List (ℕ × X)) → Rise (λ e. e.0) above last es → serial ≤ above → without (λ e. e.0) serial es ≡ es
  without_none serial above last [] rise low = refl
  without_none serial above last (e ∷ es) rise low =
      let apart : nat_eq e.0 serial ≡ false = search (arith, rise.0, low) in
      rw apart (ap (λ l. e ∷ l) (without_none serial e.0 last es rise.1 (omega (arith, low, rise.0))))

  -- the entry that is taken out is the member with the serial
  pub removed_member : (serial above last : ℕ) (es : List (ℕ × X)) → Rise (λ e. e.0) above last es → remove_entry (is_at (nat_cmp serial)) es ≡ without (λ e. e.0) serial es
  removed_member serial above last [] rise = refl
  removed_member serial above last (e ∷ es) rise = by_test (nat_eq e.0 serial) refl (removed_member serial e.0 last es rise.1)
    where
      by_test : (b : Bool) → nat_eq e.0 serial ≡ b → remove_entry (is_at (nat_cmp serial)) es ≡ without (λ f. f.0) serial es → remove_entry (is_at (nat_cmp serial)) (e ∷ es) ≡ without (λ f. f.0) serial (e ∷ es)
      by_test true t rest =
          let here : is_at (nat_cmp serial) e.0 ≡ true = at_serial serial e.0 ∙ t in
          let same : e.0 ≡ serial = search (arith, t) in
          rw (here, t) (sym (without_none serial e.0 last es rise.1 (omega (arith, same))))
      by_test false t rest =
          let away : is_at (nat_cmp serial) e.0 ≡ false = at_serial serial e.0 ∙ t in
          rw (away, t) (ap (λ l. e ∷ l) rest)
