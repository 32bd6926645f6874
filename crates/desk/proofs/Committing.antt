-- A visit that makes a commit.
use Rattle.std.proofs.Common.{◌≡◌, ◌+◌, ℕ, [], ◌∷◌, ◌++◌, length, List, length-append, sym, ap, ◌∙◌, arith}
use mathlib.Core.List.{IsPrefix}
use Rattle.key_class.specs.Rules.{Rules}
use Rattle.change_list.specs.declared.write.Write.{Write}
use Rattle.world.specs.Stamps.{Stamp}
use Rattle.world.specs.States.{State}
use Rattle.desk.specs.Visits.{IsHeld, IsCommitted}

module _ {K A : Type 0} (rules : Rules K A) (old new : State K A) (seat : ℕ) (write : Write K) (stamp : Stamp K) (before told : List (Write K)) where
  pub committed : IsHeld rules old → IsHeld rules new → new.commits ≡ old.commits ++ write ∷ [] → stamp ≡ record { number = length old.commits + 1; seat = seat; write = write }
      → IsPrefix before old.commits → new.commits ≡ told → IsCommitted rules before told stamp
  committed found left grown is begins same = record {
    old = old;
    new = new;
    found = found;
    did = (
      grown ∙ ap (λ (s : Stamp K). old.commits ++ s.write ∷ []) (sym is),
      ap (λ (s : Stamp K). s.number) is ∙ sym (ap length grown ∙ length-append old.commits (write ∷ [])),
      begins,
      same,
    );
    left = left;
  }

-- the book's total rises by one with a commit
pub counted : {X : Type 0} (x : X) (old new : List X) (t u v : ℕ) → new ≡ old ++ x ∷ [] → length old ≡ t → u ≡ t + 1 → v ≡ u → length new ≡ v
counted x old new t u v adds before more same = omega (arith, ap length adds, length-append old (x ∷ []), before, more, same)
