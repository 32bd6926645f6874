-- Answers that are gathered one after the other, and then written.
use Rattle.std.proofs.Common.{◌≡◌, ℕ, List, [], ◌++◌, take, drop, Option, Result, Ok, Err, refl, sym, ap, ◌∙◌, subst, append_assoc, take-append-drop}
use Rattle.std.specs.List.{flat_map}
use Rattle.std.specs.Result.{IsErr}
use Rattle.std.specs.Io.KnownBytes.{Appends, Keeps}
use Rattle.std.proofs.KnownBytes.{Appends-nil, Appends-trans, Appends-kept}
use Rattle.std.proofs.lemmas.List.{append-nil}
use Rattle.std.proofs.lemmas.List.Concat.{flat_map-append}
use Rattle.front.specs.Written.{WritesAllBut, WritesBeginning, Writes, WritesOrFails}

-- nothing is written yet
pub none_written : (w : Option (List ℕ)) (bytes : List ℕ) → WritesAllBut w w bytes bytes
none_written w bytes = ([], Appends-nil w, refl)

-- some more of the bytes were written
pub more_written : (w0 w1 w2 : Option (List ℕ)) (bytes rest : List ℕ) (n : ℕ) → WritesAllBut w0 w1 bytes rest → Appends w1 w2 (take n rest) → WritesAllBut w0 w2 bytes (drop n rest)
more_written w0 w1 w2 bytes rest n a h = (
  a.0 ++ take n rest,
  Appends-trans w0 w1 w2 a.0 (take n rest) a.1 h,
  a.2 ∙ ap (λ l. a.0 ++ l) (sym (take-append-drop n rest)) ∙ sym (append_assoc a.0 (take n rest) (drop n rest)),
)

pub still_written : (w0 w1 w2 : Option (List ℕ)) (bytes rest : List ℕ) → WritesAllBut w0 w1 bytes rest → Keeps w1 w2 → WritesAllBut w0 w2 bytes rest
still_written w0 w1 w2 bytes rest a h = (a.0, Appends-kept w0 w1 w2 a.0 a.1 h, a.2)

pub all_written : (w0 w1 : Option (List ℕ)) (bytes : List ℕ) → WritesAllBut w0 w1 bytes [] → Appends w0 w1 bytes
all_written w0 w1 bytes a = subst (λ l. Appends w0 w1 l) (sym (a.2 ∙ append-nil a.0)) a.1

-- a beginning of a beginning is a beginning
pub beginning_of : (w0 w1 : Option (List ℕ)) (bytes more : List ℕ) → WritesBeginning w0 w1 bytes → WritesBeginning w0 w1 (bytes ++ more)
beginning_of w0 w1 bytes more a = (a.0 ++ more, (a.1.0, a.1.1, ap (λ l. l ++ more) a.1.2 ∙ append_assoc a.1.0 a.0 more))

-- what is gathered follows what the writer has
pub gathers : (w : Option (List ℕ)) (xs ys text : List ℕ) → ys ≡ xs ++ text → Writes w xs w ys text
gathers w xs ys text e = ([], Appends-nil w, sym e)

-- all that was gathered is sent
pub sends : (w0 w1 : Option (List ℕ)) (xs ys : List ℕ) → Appends w0 w1 xs → ys ≡ [] → Writes w0 xs w1 ys []
sends w0 w1 xs ys a e = (xs, a, ap (λ l. xs ++ l) (sym e))

pub writes_both : (w0 w1 w2 : Option (List ℕ)) (g0 g1 g2 text more : List ℕ) → Writes w0 g0 w1 g1 text → Writes w1 g1 w2 g2 more → Writes w0 g0 w2 g2 (text ++ more)
writes_both w0 w1 w2 g0 g1 g2 text more a b = (
  a.0 ++ b.0,
  Appends-trans w0 w1 w2 a.0 b.0 a.1 b.1,
  sym (append_assoc g0 text more) ∙ ap (λ l. l ++ more) a.2 ∙ append_assoc a.0 g1 more ∙ ap (λ l. a.0 ++ l) b.2 ∙ sym (append_assoc a.0 b.0 g2),
)

pub writes_then_nothing : (w0 w1 w2 : Option (List ℕ)) (g0 g1 g2 text : List ℕ) → Writes w0 g0 w1 g1 text → Writes w1 g1 w2 g2 [] → Writes w0 g0 w2 g2 text
writes_then_nothing w0 w1 w2 g0 g1 g2 text a b = subst (λ t. Writes w0 g0 w2 g2 t) (append-nil text) (writes_both w0 w1 w2 g0 g1 g2 text [] a b)

-- the writer failed in what was to follow the text
pub fails_behind : (w0 w1 w2 : Option (List ℕ)) (g0 g1 text more : List ℕ) → Writes w0 g0 w1 g1 text → WritesBeginning w1 w2 (g1 ++ more) → WritesBeginning w0 w2 (g0 ++ (text ++ more))
fails_behind w0 w1 w2 g0 g1 text more a b = (b.0, writes_both w0 w1 w2 g0 g1 b.0 text more a b.1)

-- the writer failed in what was gathered, with the text at its end
pub fails_in : (w0 w1 w2 : Option (List ℕ)) (g0 g1 text : List ℕ) → Writes w0 g0 w1 g1 text → WritesBeginning w1 w2 (g1 ++ []) → WritesBeginning w0 w2 (g0 ++ text)
fails_in w0 w1 w2 g0 g1 text a b = subst (λ t. WritesBeginning w0 w2 (g0 ++ t)) (append-nil text) (fails_behind w0 w1 w2 g0 g1 text [] a b)

-- if there is a fault, only a beginning was written
pub failed : {E : Type 0} (r : Result (Unit {0}) E) (w0 w1 : Option (List ℕ)) (g0 g1 text : List ℕ) → IsErr r → WritesBeginning w0 w1 (g0 ++ text) → WritesOrFails r w0 g0 w1 g1 text
failed (Ok done) w0 w1 g0 g1 text e h = absurd (cc)
failed (Err fault) w0 w1 g0 g1 text e h = h

-- the text was written, and then more, or not all of it
pub then_more : {E : Type 0} (r : Result (Unit {0}) E) (w0 w1 w2 : Option (List ℕ)) (g0 g1 g2 text more : List ℕ) → Writes w0 g0 w1 g1 text → WritesOrFails r w1 g1 w2 g2 more → WritesOrFails r w0 g0 w2 g2 (text ++ more)
then_more (Ok done) w0 w1 w2 g0 g1 g2 text more a h = writes_both w0 w1 w2 g0 g1 g2 text more a h
then_more (Err fault) w0 w1 w2 g0 g1 g2 text more a h = fails_behind w0 w1 w2 g0 g1 text more a h

-- the text was gathered, and then what was gathered was sent, or not all of it
pub then_sent : {E : Type 0} (r : Result (Unit {0}) E) (w0 w1 w2 : Option (List ℕ)) (g0 g1 g2 text : List ℕ) → Writes w0 g0 w1 g1 text → WritesOrFails r w1 g1 w2 g2 [] → WritesOrFails r w0 g0 w2 g2 text
then_sent r w0 w1 w2 g0 g1 g2 text a h = subst (λ t. WritesOrFails r w0 g0 w2 g2 t) (append-nil text) (then_more r w0 w1 w2 g0 g1 g2 text [] a h)

-- a beginning of what was gathered is also one of what was gathered and more
pub more_fails : (w0 w1 : Option (List ℕ)) (g more : List ℕ) → WritesBeginning w0 w1 (g ++ []) → WritesBeginning w0 w1 (g ++ more)
more_fails w0 w1 g more h = subst (λ l. WritesBeginning w0 w1 (l ++ more)) (append-nil g) (beginning_of w0 w1 (g ++ []) more h)

-- the texts of all members but the rest were written
pub record HasWritten {X : Type 0} (f : X → List ℕ) (all rest : List X) (w0 : Option (List ℕ)) (g0 : List ℕ) (w1 : Option (List ℕ)) (g1 : List ℕ) : Type 0 where
  pub done : List X
  pub parts : all ≡ done ++ rest
  pub written : Writes w0 g0 w1 g1 (flat_map f done)

-- the texts of some more were written
pub more_of : {X : Type 0} (f : X → List ℕ) (all some rest left : List X) (w0 w1 w2 : Option (List ℕ)) (g0 g1 g2 : List ℕ) → rest ≡ some ++ left → HasWritten f all rest w0 g0 w1 g1 → Writes w1 g1 w2 g2 (flat_map f some) → HasWritten f all left w0 g0 w2 g2
more_of f all some rest left w0 w1 w2 g0 g1 g2 e h a = record {
  done = h.done ++ some;
  parts = h.parts ∙ ap (λ l. h.done ++ l) e ∙ sym (append_assoc h.done some left);
  written = subst (λ t. Writes w0 g0 w2 g2 t) (sym (flat_map-append f h.done some)) (writes_both w0 w1 w2 g0 g1 g2 (flat_map f h.done) (flat_map f some) h.written a);
}

-- the writer failed in the texts of the rest
pub fails_in_rest : {X : Type 0} (f : X → List ℕ) (all rest : List X) (w0 w1 w2 : Option (List ℕ)) (g0 g1 : List ℕ) → HasWritten f all rest w0 g0 w1 g1 → WritesBeginning w1 w2 (g1 ++ flat_map f rest) → WritesBeginning w0 w2 (g0 ++ flat_map f all)
fails_in_rest f all rest w0 w1 w2 g0 g1 h a =
    subst (λ t. WritesBeginning w0 w2 (g0 ++ t)) (sym (ap (flat_map f) h.parts ∙ flat_map-append f h.done rest)) (fails_behind w0 w1 w2 g0 g1 (flat_map f h.done) (flat_map f rest) h.written a)
