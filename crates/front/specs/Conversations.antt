-- Lines that are answered one after the other, and what a whole conversation reads and writes.
use Rattle.std.specs.Prelude.{◌≡◌, ℕ, ◌<◌, ◌≤◌, false, List, [], ◌∷◌, ◌++◌, length, Option, Result, Err, ◌⊎◌}
use Rattle.std.specs.Io.KnownBytes.{Consumes, Appends, IsAtEnd}
use Rattle.key_class.specs.declared.refusal.Fault.{Fault}
use Rattle.key_class.specs.declared.refusal.Fault.TheVariants as fault
use Rattle.key_class.specs.declared.refusal.Refusal.TheVariants as refusal
use Rattle.key_class.specs.Limits.{most_bytes}
use Rattle.query_text.specs.Tokens.{Placed, Cuts}
use Rattle.front.specs.Lines.{AreLines}
use Rattle.front.specs.Replies.{refusal_line}
use Rattle.front.specs.Written.{WritesBeginning}

-- what may end a conversation before the reader's end
abbrev pub IsConversationFault : Fault → Type 0
IsConversationFault why = (why ≡ fault.OutOfMemory) ⊎ (why ≡ fault.Read) ⊎ (why ≡ fault.Write)

-- if memory ran out at the start, this holds
abbrev pub IfOutOfMemory : {T : Type 0} → Result T Fault → Type 0 → Type 0
IfOutOfMemory returned P = returned ≡ Err fault.OutOfMemory → P

-- if the reader failed, this holds
abbrev pub IfReadFails : {T : Type 0} → Result T Fault → Type 0 → Type 0
IfReadFails returned P = returned ≡ Err fault.Read → P

-- if the writer failed, this holds
abbrev pub IfWriteFails : {T : Type 0} → Result T Fault → Type 0 → Type 0
IfWriteFails returned P = returned ≡ Err fault.Write → P

-- a reader and a writer are unchanged
abbrev pub Kept : {R W : Type 0} → R → R → W → W → Type 0
Kept reader reader' writer writer' = (reader' ≡ reader) × (writer' ≡ writer)

-- What went in and out: the bytes that the reader had left and has left, the bytes that the writer had and has.
pub record Exchange : Type 0 where
  pub had_left : Option (List ℕ)
  pub has_left : Option (List ℕ)
  pub had : Option (List ℕ)
  pub has : Option (List ℕ)

-- The exchange of a reader and a writer. `remaining` gives the bytes that a reader has left, `contents` those that a
-- writer has.
abbrev pub exchange : {R W : Type 0} → (R → Option (List ℕ)) → R → R → (W → Option (List ℕ)) → W → W → Exchange
exchange remaining reader reader' contents writer writer' =
    record { had_left = remaining reader; has_left = remaining reader'; had = contents writer; has = contents writer' }

-- answers: which text may answer the tokens of a line of so many bytes in a state, and which state comes of it
module _ {S : Type 0} (answers : ℕ → S → List Placed → List ℕ → S → Type 0) where
  -- a line that is too long is refused at the first byte beyond the limit
  abbrev pub AnswersLine : S → List ℕ → List ℕ → S → Type 0
  AnswersLine old line text new =
      ((most_bytes < length line) × (text ≡ refusal_line (refusal.Line most_bytes)) × (new ≡ old))
      ⊎ ((length line ≤ most_bytes) × (ts : List Placed) × Cuts false 0 line ts × answers (length line) old ts text new)

  -- the text answers the lines, one after the other
  abbrev pub AnswersLines : S → List (List ℕ) → List ℕ → S → Type 0
  AnswersLines old [] text new = (text ≡ []) × (new ≡ old)
  AnswersLines old (line ∷ lines) text new =
      (first : List ℕ) × (mid : S) × (rest : List ℕ) × AnswersLine old line first mid × AnswersLines mid lines rest new × (text ≡ first ++ rest)

  -- The reader is at its end. The bytes read are whole lines and a last one without a line feed; what was written
  -- answers them all.
  pub record AnsweredAll (old new : S) (io : Exchange) : Type 0 where
    pub bytes : List ℕ
    pub lines : List (List ℕ)
    pub rest : List ℕ
    pub text : List ℕ
    pub at_end : IsAtEnd io.has_left
    pub read : Consumes io.had_left io.has_left bytes
    pub are_lines : AreLines bytes lines rest
    pub answers_lines : AnswersLines old (lines ++ rest ∷ []) text new
    pub wrote : Appends io.had io.has text

  -- The bytes read are whole lines and the beginning of another; what was written answers the whole lines.
  pub record AnsweredWhole (old new : S) (io : Exchange) : Type 0 where
    pub bytes : List ℕ
    pub lines : List (List ℕ)
    pub rest : List ℕ
    pub text : List ℕ
    pub read : Consumes io.had_left io.has_left bytes
    pub are_lines : AreLines bytes lines rest
    pub answers_lines : AnswersLines old lines text new
    pub wrote : Appends io.had io.has text

  -- Some of the first lines were answered, and a beginning of their answers was written.
  pub record AnsweredFirst (old new : S) (io : Exchange) : Type 0 where
    pub bytes : List ℕ
    pub lines : List (List ℕ)
    pub rest : List ℕ
    pub first : List (List ℕ)
    pub others : List (List ℕ)
    pub text : List ℕ
    pub read : Consumes io.had_left io.has_left bytes
    pub are_lines : AreLines bytes lines rest
    pub parted : lines ++ rest ∷ [] ≡ first ++ others
    pub answers_lines : AnswersLines old first text new
    pub wrote : WritesBeginning io.had io.has text
