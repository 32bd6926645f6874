-- What a storm tells of its readers, lookers and subscribers.
use Rattle.std.specs.Prelude.{ℕ, ◌+◌, List, [], ◌∷◌, ◌++◌, Option, Result, OnOk, codes}
use Rattle.std.specs.Fmt.{decimal}
use Rattle.std.specs.Io.KnownBytes.{Appends}
use Rattle.storm.specs.Outcomes.{IsTrueOutcome, IsWholeStorm}
use Rattle.storm.specs.Sizes.{IsStorm}
use Rattle.storm.specs.declared.judge.Verdict.{Verdict}
use Rattle.storm.specs.declared.judge.Verdict.TheVariants as verdict
use Rattle.storm.specs.declared.limits.StormSize.{StormSize}
use Rattle.storm.specs.declared.outcome.Outcome.{Outcome}
use Rattle.gist.specs.declared.options.Role.{Role}
use Rattle.gist.specs.declared.options.Role.TheVariants as role

-- If it ends well, the writer has this text in addition. `contents` gives the bytes that a writer has.
abbrev pub Outputs : {W E : Type 0} → (W → Option (List ℕ)) → W → W → List ℕ → Result (Unit {0}) E → Type 0
Outputs contents old new text returned = OnOk returned (Appends (contents old) (contents new) text)

abbrev pub role_text : Role → List ℕ
role_text role.Reader = codes "reader "
role_text role.Looker = codes "looker "
role_text role.Subscriber = codes "subscriber "

abbrev pub missing_text : Role → List ℕ
missing_text role.Reader = codes " no receipt"
missing_text role.Looker = codes " no snapshot"
missing_text role.Subscriber = codes " no receipt"

-- how a client fared, in a storm of so many commits
abbrev pub verdict_text : Role → ℕ → Verdict → List ℕ
verdict_text client commits verdict.Whole = codes " whole at " ++ decimal commits
verdict_text client commits verdict.NotWhole = codes " not whole"
verdict_text client commits verdict.Missing = missing_text client

-- the line of a client with its number
abbrev pub client_line : Role → ℕ → ℕ → Verdict → List ℕ
client_line client commits number told = role_text client ++ (decimal number ++ (verdict_text client commits told ++ codes "\n"))

-- the lines of clients, numbered from after those before them
abbrev pub client_lines : Role → ℕ → ℕ → List Verdict → List ℕ
client_lines client commits before [] = []
client_lines client commits before (told ∷ verdicts) = client_line client commits (before + 1) told ++ client_lines client commits (before + 1) verdicts

abbrev pub count_line : ℕ → List ℕ
count_line commits = codes "commits " ++ (decimal commits ++ codes "\n")

-- a line with the number of commits, one for each reader, one for each looker, and one for each subscriber
abbrev pub storm_text : Outcome → List ℕ
storm_text o =
    count_line o.commits ++ (client_lines role.Reader o.commits 0 o.readers.items ++ (client_lines role.Looker o.commits 0 o.lookers.items ++ client_lines role.Subscriber o.commits 0 o.subscribers.items))

-- A storm passed: all rows were written, each reader, each looker and each subscriber is whole as the commits tell, and that
-- was written.
pub record TellsStorm (held written : Option (List ℕ)) (limits : StormSize) : Type 0 where
  pub outcome : Outcome
  pub within : IsStorm limits
  pub true_outcome : IsTrueOutcome outcome
  pub whole : IsWholeStorm limits outcome
  pub told : Appends held written (storm_text outcome)
