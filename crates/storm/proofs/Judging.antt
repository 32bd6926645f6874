-- Verdicts on clients, one after the other.
use Rattle.std.proofs.Common.{append_assoc, drop, get_or, ◌<◌, ◌≤◌, ◌+◌, ◌≡◌, ◌↔◌, ℕ, Bool, List, [], ◌∷◌, ◌++◌, length, append-nil, Result, Ok, Err, IfOk, IsTrue, sym, ap, ◌∙◌, subst}
use Rattle.std.proofs.lemmas.List.{drop_more}
use Rattle.key_class.specs.declared.refusal.Refusal.{Refusal}
use Rattle.delivery_check.proofs.Cuts.{drop_past}
use Rattle.storm.specs.Judging.{TellsEach}
use Rattle.storm.specs.declared.judge.Verdict.{Verdict}

-- a verdict on one statement is one on another that says the same
pub told_alike : (told : Result Bool Refusal) (P Q : Type 0) → IfOk told (λ b. IsTrue b ↔ P) → P ↔ Q → IfOk told (λ b. IsTrue b ↔ Q)
told_alike (Ok b) P Q told same = (λ yes. same.0 (told.0 yes), λ q. told.1 (same.1 q))
told_alike (Err why) P Q told same = tt

module _ {X : Type 0} (Tells : X → Verdict → Type 0) (clients : List X) (place : ℕ) (told : List Verdict) where
  -- verdicts on the clients before a place, and some verdicts on all from there on, are verdicts on all
  abbrev pub TellsUpTo : Type 0
  TellsUpTo = (rest : List Verdict) → TellsEach Tells (drop place clients) rest → TellsEach Tells clients (told ++ rest)

  -- one more client gets its verdict
  pub one_told : (client : X) (verdict : Verdict) → place < length clients → client ≡ get_or clients place client → Tells client verdict → TellsUpTo
      → (rest : List Verdict) → TellsEach Tells (drop (place + 1) clients) rest → TellsEach Tells clients ((told ++ verdict ∷ []) ++ rest)
  one_told client verdict there is fate before rest left =
      let left_with : client ∷ drop (place + 1) clients ≡ drop place clients = ap (λ r. r ∷ drop (place + 1) clients) is ∙ sym (drop_more clients place client there) in
      subst (λ l. TellsEach Tells clients l) (sym (append_assoc told (verdict ∷ []) rest))
      (before (verdict ∷ rest) (subst (λ l. TellsEach Tells l (verdict ∷ rest)) left_with (fate, left)))

  -- no client is left
  pub all_told : length clients ≤ place → TellsUpTo → TellsEach Tells clients told
  all_told over before =
      subst (λ l. TellsEach Tells clients l) (append-nil told)
      (before [] (subst (λ l. TellsEach Tells l []) (sym (drop_past clients place over)) tt))
