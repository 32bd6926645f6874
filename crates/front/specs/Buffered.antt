-- What a session holds of the line that it reads.
use Rattle.std.specs.Prelude.{◌≡◌, ◌≢◌, ℕ, ◌<◌, Bool, true, false, List, [], ◌++◌, ◌-◌, take, drop, length, nat_eq, Option, if◌then◌else◌}
use Rattle.std.specs.Io.KnownBytes.{Consumes, Keeps, IsAtEnd}
use Rattle.key_class.specs.Limits.{most_bytes}
use Rattle.key_class.specs.declared.refusal.Fault.{Fault}
use Rattle.key_class.specs.declared.refusal.Fault.TheVariants as fault

-- the bytes that are held; and whether the line is too long, so that its first bytes were dropped
pub record Buffered : Type 0 where
  pub rest : List ℕ
  pub overlong : Bool

-- when there is no room for another byte, the line is too long, and its bytes are dropped
abbrev pub with_room : Buffered → Buffered
with_room held = if nat_eq (length held.rest) 4097 then record { rest = []; overlong = true } else held

-- a read appended these bytes to those that are held
pub record FillsHeld (before after : Option (List ℕ)) (old : Buffered) (more : Bool) (new : Buffered) : Type 0 where
  pub bytes : List ℕ
  pub consumed : Consumes before after bytes
  pub held : new ≡ record { rest = (with_room old).rest ++ bytes; overlong = (with_room old).overlong }
  pub none_at_end : more ≡ false → (bytes ≡ []) × IsAtEnd after
  pub some_before : more ≡ true → bytes ≢ []

-- The same of a reader. `remaining` gives the bytes that a reader has left.
abbrev pub FillsFrom : {R : Type 0} → (R → Option (List ℕ)) → R → R → Buffered → Buffered → Bool → Type 0
FillsFrom remaining before after old new more = FillsHeld (remaining before) (remaining after) old more new

-- the reader failed, and still has all that it had
abbrev pub FailsToRead : {R : Type 0} → (R → Option (List ℕ)) → R → R → Fault → Type 0
FailsToRead remaining before after why = (why ≡ fault.Read) × Keeps (remaining before) (remaining after)

-- n bytes were read, and stand after those that are held
abbrev pub ReadsMore : {R : Type 0} → (R → Option (List ℕ)) → R → R → ℕ → List ℕ → ℕ → Type 0
ReadsMore remaining before after held bytes n = Consumes (remaining before) (remaining after) (take n (drop held bytes))

-- the bytes from start to end, this many, were moved to the front, and there is room after them
abbrev pub AreMovedToFront : ℕ → ℕ → List ℕ → List ℕ → ℕ → Type 0
AreMovedToFront start end old new n = (n ≡ end - start) × (n < length new) × (take n new ≡ take n (drop start old))

-- the line is all that is held of it; or, if its first bytes were dropped, has more bytes than a line may have
abbrev pub IsRestOf : Bool → List ℕ → List ℕ → Type 0
IsRestOf false whole line = whole ≡ line
IsRestOf true whole line = most_bytes < length whole
