-- The lines of clients, one after the other.
use Rattle.std.proofs.Common.{◌≡◌, ◌∙◌, ◌+◌, ◌<◌, ◌≤◌, ℕ, List, ◌∷◌, ◌++◌, length, drop, get_or, Option, ap, sym, subst, append_assoc, append-nil}
use Rattle.std.proofs.lemmas.List.{drop_more}
use Rattle.std.specs.Io.KnownBytes.{Appends}
use Rattle.std.proofs.KnownBytes.{Appends-trans}
use Rattle.delivery_check.proofs.Cuts.{drop_past}
use Rattle.storm.specs.declared.judge.Verdict.{Verdict}
use Rattle.gist.specs.declared.options.Role.{Role}
use Rattle.gist.specs.Storms.{client_line, client_lines}

-- the line of one more client
pub said_more : (client : Role) (held before after : Option (List ℕ)) (commits place : ℕ) (verdicts : List Verdict) (none told : Verdict) (said : List ℕ) → Appends held before said
    → said ++ client_lines client commits place (drop place verdicts) ≡ client_lines client commits 0 verdicts → place < length verdicts → told ≡ get_or verdicts place none
    → Appends before after (client_line client commits (place + 1) told)
    → (all : List ℕ) × Appends held after all × (all ++ client_lines client commits (place + 1) (drop (place + 1) verdicts) ≡ client_lines client commits 0 verdicts)
said_more client held before after commits place verdicts none told said so_far left there is wrote =
    let line = client_line client commits (place + 1) told in
    let rest = drop (place + 1) verdicts in
    let next : told ∷ rest ≡ drop place verdicts = ap (λ v. v ∷ rest) is ∙ sym (drop_more verdicts place none there) in (
      said ++ line,
      Appends-trans held before after said line so_far wrote,
      append_assoc said line (client_lines client commits (place + 1) rest) ∙ ap (λ (vs : List Verdict). said ++ client_lines client commits place vs) next ∙ left,
    )

-- all lines
pub said_all : (client : Role) (held after : Option (List ℕ)) (commits place : ℕ) (verdicts : List Verdict) (said : List ℕ) → Appends held after said
    → said ++ client_lines client commits place (drop place verdicts) ≡ client_lines client commits 0 verdicts → length verdicts ≤ place
    → Appends held after (client_lines client commits 0 verdicts)
said_all client held after commits place verdicts said wrote left over =
    let all : said ≡ client_lines client commits 0 verdicts = sym (append-nil said) ∙ ap (λ (vs : List Verdict). said ++ client_lines client commits place vs) (sym (drop_past verdicts place over)) ∙ left in
    subst (Appends held after) all wrote
