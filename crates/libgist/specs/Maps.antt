-- What the calls of a map answer and leave, clause by clause. Which class its keys have is known only at run time.
use Rattle.std.specs.Prelude.{◌≡◌, ℕ, ◌+◌, Bool, Option, Some, None, Result, Ok, Err, IfOk, IfErr, OnOk, OnErr}
use Rattle.key_class.specs.declared.refusal.Refusal.{Refusal}
use Rattle.interval_class.specs.declared.interval.Interval.{Interval}
use Rattle.interval_class.specs.declared.atom.Atom as interval
use Rattle.box_class.specs.declared.boxes.BoxKey.{BoxKey}
use Rattle.box_class.specs.declared.atom.Atom as box
use Rattle.set_class.specs.declared.elements.Elements.{Elements}
use Rattle.set_class.specs.declared.atom.Atom as set
use Rattle.revisions.specs.declared.change.MapChange.TheVariants.{Put, Remove}
use Rattle.revisions.specs.Maps.{entries_of, has_id, key_at, revision_of}
use Rattle.map.specs.Kept.{Changes, ChangesIf, ForgetsOnly, KeptMap}
use Rattle.map.specs.Refusals.{RefusesPut, RefusesRemoval}
use Rattle.libgist.specs.declared.denied.Denied.{Denied}
use Rattle.libgist.specs.declared.denied.Denied.TheVariants.{NoHandle}
use Rattle.libgist.specs.declared.figures.MapFigures.{MapFigures}
use Rattle.libgist.specs.declared.held.AnyMap.TheVariants as kept
use Rattle.libgist.specs.declared.held.Held.{Held}
use Rattle.libgist.specs.declared.held.Held.TheVariants as held
use Rattle.libgist.specs.declared.words.KeyWords.{KeyWords}
use Rattle.libgist.specs.Calls.{WithKey}
use Rattle.libgist.specs.Classes.{Meaning, intervals, boxes, sets}
use Rattle.libgist.specs.MapShown.{key_shown, map_figures}

-- a revision as C is given it, or 0 if there is none
abbrev pub revision_told : Option ℕ → ℕ
revision_told (Some revision) = revision
revision_told None = 0

module _ {K : Type 0} where
  -- a key is put under an id
  pub record IsPut (id : ℕ) (key : K) (old : KeptMap K) (answer : Result ℕ Refusal) (new : KeptMap K) : Type 0 where
    pub revision : IfOk answer (λ n. n ≡ revision_of old.map + 1)
    pub ok : OnOk answer (Changes (Put id key) old new)
    pub err : OnErr answer (ForgetsOnly old new)
    pub refusals : IfErr answer RefusesPut

  -- the same with a key that C hands in; it is refused if the key's ends are out of order
  abbrev pub IsPutting : (KeyWords → Option K) → ℕ → KeyWords → KeptMap K → Result ℕ Denied → KeptMap K → Type 0
  IsPutting key_of id words = WithKey (IsPut id) (key_of words)

  -- an id's key is removed, if it has one
  pub record Removes (id : ℕ) (old new : KeptMap K) (told : ℕ) : Type 0 where
    pub made : Option ℕ
    pub changes : ChangesIf (Remove id) (has_id id (entries_of old.map)) old new made
    pub is : told ≡ revision_told made

  pub record IsRemoving (id : ℕ) (old : KeptMap K) (answer : Result ℕ Refusal) (new : KeptMap K) : Type 0 where
    pub ok : IfOk answer (Removes id old new)
    pub err : OnErr answer (ForgetsOnly old new)
    pub refusals : IfErr answer RefusesRemoval

module _ (V : Type 0) where
  -- what a call of a map answers and leaves, for each class
  abbrev pub MapCall : Type 1
  MapCall = (K A : Type 0) → Meaning K A → KeptMap K → Result V Denied → KeptMap K → Type 0

  -- what a call that only reads a map answers
  abbrev pub MapQuestion : Type 1
  MapQuestion = (K A : Type 0) → Meaning K A → KeptMap K → Result V Denied → Type 0

module _ {V : Type 0} where
  -- a call of a map; anything else is refused, and nothing changes
  abbrev pub InMap : MapCall V → Held → Result V Denied → Held → Type 0
  InMap call (held.Map (kept.Intervals old)) answer (held.Map (kept.Intervals new)) = call Interval interval.Atom intervals old answer new
  InMap call (held.Map (kept.Boxes old)) answer (held.Map (kept.Boxes new)) = call BoxKey box.Atom boxes old answer new
  InMap call (held.Map (kept.Sets old)) answer (held.Map (kept.Sets new)) = call Elements set.Atom sets old answer new
  InMap call old answer new = (answer ≡ Err NoHandle) × (new ≡ old)

  -- a call that only reads a map; anything else is refused
  abbrev pub OfMap : MapQuestion V → Held → Result V Denied → Type 0
  OfMap call (held.Map (kept.Intervals map)) answer = call Interval interval.Atom intervals map answer
  OfMap call (held.Map (kept.Boxes map)) answer = call BoxKey box.Atom boxes map answer
  OfMap call (held.Map (kept.Sets map)) answer = call Elements set.Atom sets map answer
  OfMap call other answer = answer ≡ Err NoHandle

-- the key of an id, and whether it has one
abbrev pub AnswersKey : ℕ → Held → Result (KeyWords × Bool) Denied → Type 0
AnswersKey id = OfMap (λ K A class map answer. answer ≡ Ok (key_shown class.words_of (key_at id (entries_of map.map))))

-- where a map is
abbrev pub AnswersMapFigures : Held → Result MapFigures Denied → Type 0
AnswersMapFigures = OfMap (λ K A class map answer. answer ≡ Ok (map_figures map.config.identity map.map))
