use Rattle.std.proofs.Common.{◌≡◌, ◌≢◌, ◌⊎◌, ◌∙◌, ℕ, zero, suc, ◌<◌, List, arith, inl, inr, refl, sym}
use Rattle.clap.specs.Words.{Text, kind_of}
use Rattle.clap.specs.declared.error.Error.{Error}
use Rattle.clap.specs.declared.error.ErrorKind.{ErrorKind}
use Rattle.clap.specs.declared.error.ErrorKind.TheVariants.{DisplayHelp, DisplayVersion, OutOfMemory}
use Rattle.gist.specs.CommandLine.{texts_of, AreWellFormed, IsForText, LacksMemory, NameNothing, Refuses, RefusesUnlessMemory}
use Rattle.gist.specs.Served.{NameBadLimits}
use Rattle.gist.proofs.program.command.Goals as goal

one_or_two : (n : ℕ) → n < 3 → n ≢ 0 → (n ≡ 2) ⊎ (n ≡ 1)
one_or_two zero small some = absurd (some refl)
one_or_two (suc zero) small some = inr refl
one_or_two (suc (suc zero)) small some = inl refl
one_or_two (suc (suc (suc n))) small some = absurd (omega arith)

-- an error that asks for help or the version isn't `OutOfMemory`
is_no_want : (kind : ErrorKind) → IsForText kind → kind ≢ OutOfMemory
is_no_want kind (inl help) memory = let bad : DisplayHelp ≡ OutOfMemory = sym help ∙ memory in cc
is_no_want kind (inr version) memory = let bad : DisplayVersion ≡ OutOfMemory = sym version ∙ memory in cc

-- words that give nothing are refused, but not in order to show a text
no_text : (words : List Text) (kind : ErrorKind) → (kind ≢ OutOfMemory → Refuses words kind) → NameNothing words → ¬ IsForText kind
no_text words kind refused nothing asks = nothing.1 (kind, asks, refused (is_no_want kind asks))

pub returns-in-Err-clause-served : goal.returns-in-Err-clause-served
returns-in-Err-clause-served g c = λ well.
    let asks = (c.show.ensures.well well).0 in
    inl ((kind_of c.in-Err.error, asks, c.in-Err.ensures.refused (is_no_want (kind_of c.in-Err.error) asks)), refl {a = c.args.reader.now})

pub returns-in-Err-clause-wrong_words : goal.returns-in-Err-clause-wrong_words
returns-in-Err-clause-wrong_words g c = λ wrong.
    let w = c.show.ensures.wrong.0 wrong in
    (kind_of c.in-Err.error, c.in-Err.ensures.refused w.1, w.0)

-- an error that doesn't ask for help or the version leaves the writer unchanged
other_than_text : (words : List Text) (e : Error) → RefusesUnlessMemory words e → (AreWellFormed words → LacksMemory e) → NameNothing words ⊎ NameBadLimits words → ¬ IsForText (kind_of e)
other_than_text words e refused taken (inl nothing) asks = no_text words (kind_of e) refused nothing asks
other_than_text words e refused taken (inr bad) asks = is_no_want (kind_of e) asks (taken bad.0)

pub returns-in-Err-clause-refused_words : goal.returns-in-Err-clause-refused_words
returns-in-Err-clause-refused_words g c = λ nothing.
    let other = no_text (texts_of c.args.words.now) (kind_of c.in-Err.error) c.in-Err.ensures.refused nothing in
    one_or_two c.show.result c.show.ensures.status (λ none. other (c.show.ensures.well none).0)

pub returns-in-Err-clause-bad_limits : goal.returns-in-Err-clause-bad_limits
returns-in-Err-clause-bad_limits g c = λ bad. c.show.ensures.memory (c.in-Err.ensures.taken bad.0)

pub returns-in-Err-clause-unserved : goal.returns-in-Err-clause-unserved
returns-in-Err-clause-unserved g c = λ unfit.
    (refl {a = c.args.reader.now}, c.show.ensures.quiet (other_than_text (texts_of c.args.words.now) c.in-Err.error c.in-Err.ensures.refused c.in-Err.ensures.taken unfit))

pub returns-in-Err-clause-unread : goal.returns-in-Err-clause-unread
returns-in-Err-clause-unread g c = λ wrong.
    (refl {a = c.args.reader.now}, c.show.ensures.quiet (c.show.ensures.wrong.0 wrong).0)
