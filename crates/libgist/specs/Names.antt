-- The names of refusals by number, and how a name is written into a buffer.
use Rattle.std.specs.Prelude.{◌≡◌, ◌⊎◌, ◌<◌, ℕ, List, [], ◌∷◌, ◌++◌, length, codes}
use Rattle.key_class.specs.Refusals.{name_of}
use Rattle.libgist.specs.declared.denied.Denied.{Denied}
use Rattle.libgist.specs.declared.denied.Denied.TheVariants.{By, BadEnds, OtherClass, NoHandle, BadLimits}
use Rattle.search.specs.Fills.{written_over}
use Rattle.libgist.specs.Denials.{number_told}

-- the name that C is told
abbrev pub name_told : Denied → List ℕ
name_told (By why) = name_of why
name_told BadEnds = codes "BadEnds"
name_told OtherClass = codes "OtherClass"
name_told NoHandle = codes "NoHandle"
name_told BadLimits = codes "BadLimits"

-- the text names the refusal with the number, and is empty for 0 and for numbers above 31
abbrev pub IsNameOf : ℕ → List ℕ → Type 0
IsNameOf number text = ((why : Denied) × (number_told why ≡ number) × (text ≡ name_told why)) ⊎ (((number ≡ 0) ⊎ (31 < number)) × (text ≡ []))

-- the result is the name's length; the name with a 0 after it stands over the first places of a buffer, as far as it
-- fits
abbrev pub TellsName : ℕ → ℕ → List ℕ → List ℕ → Type 0
TellsName number len before after = (text : List ℕ) × IsNameOf number text × (len ≡ length text) × (after ≡ written_over (text ++ 0 ∷ []) before)
