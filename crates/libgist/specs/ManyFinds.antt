-- Searches for many keys, one after the other.
use Rattle.std.specs.Prelude.{◌≡◌, ℕ, ◌+◌, ◌<◌, ◌≤◌, ◌⊎◌, List, [], ◌∷◌, ◌++◌, length, map, take, min, slice_get, Option, Some, Result, Ok, Err, IfOk, IfErr, OnErr, ⊤}
use Rattle.key_class.specs.declared.refusal.Refusal.TheVariants.{OutOfMemory}
use Rattle.key_class.specs.Rules.{Rules, satisfies}
use Rattle.key_class.specs.Queries.{atom}
use Rattle.query_text.specs.ClassTexts.{Texts}
use Rattle.change_list.specs.declared.item.Row.{Row}
use Rattle.change_list.specs.declared.write.Write.{Write}
use Rattle.change_list.specs.Changes.{snapshot}
use Rattle.libgist.specs.declared.words.KeyWords.{KeyWords}
use Rattle.libgist.specs.declared.words.ShownRow.{ShownRow}
use Rattle.libgist.specs.declared.denied.Denied.{Denied}
use Rattle.libgist.specs.declared.denied.Denied.TheVariants.{By}
use Rattle.search.specs.Fills.{written_over}
use Rattle.libgist.specs.Relations.{atom_for}
use Rattle.libgist.specs.Shown.{shown_row}

-- all lists, one after the other
abbrev pub joined : {X : Type 0} → List (List X) → List X
joined [] = []
joined (xs ∷ xss) = xs ++ joined xss

-- where each list ends, if the first begins at a place
abbrev pub ends_from : {X : Type 0} → ℕ → List (List X) → List ℕ
ends_from place [] = []
ends_from place (xs ∷ xss) = (place + length xs) ∷ ends_from (place + length xs) xss

module _ {E X : Type 0} (live : E → Result (List X) Denied) where
  -- each of these keys finds the list at its place
  abbrev pub AskFor : List E → List (List X) → Type 0
  AskFor [] [] = ⊤
  AskFor (key ∷ keys) (xs ∷ xss) = (live key ≡ Ok xs) × AskFor keys xss
  AskFor keys xss = ⊥

  -- why the search for a key is refused
  abbrev pub RefusesKey : E → Denied → Type 0
  RefusesKey key why = (why ≡ By OutOfMemory) ⊎ (live key ≡ Err why)

  -- the search stops at a key: its rows don't fit after the others, or it isn't the first and is refused
  pub record StopsAt (keys : List E) (number used room : ℕ) : Type 0 where
    pub key : E
    pub there : slice_get keys number ≡ Some key
    pub why : ((xs : List X) × (live key ≡ Ok xs) × (room < used + length xs)) ⊎ ((0 < number) × (denied : Denied) × RefusesKey key denied)

  -- the rows of the first keys stand over the first places of a buffer, key after key, and where each key's rows end
  -- is given
  pub record ShowsFirst {R : Type 0} (row_of : X → R) (keys : List E) (ends_before ends_after : List ℕ) (before after : List R) (number : ℕ) : Type 0 where
    pub found : List (List X)
    pub asked : AskFor (take number keys) found
    pub fits : length (joined found) ≤ length before
    pub written : after ≡ written_over (map row_of (joined found)) before
    pub ends : ends_after ≡ written_over (ends_from 0 found) ends_before
    pub ended : (number ≡ min (length keys) (length ends_before)) ⊎ StopsAt keys number (length (joined found)) (length before)

  -- the rows of many keys are given; the call is refused if the first search is
  pub record FindsEach {R : Type 0} (row_of : X → R) (keys : List E) (ends_before ends_after : List ℕ) (before after : List R) (answer : Result ℕ Denied) : Type 0 where
    pub ok : IfOk answer (ShowsFirst row_of keys ends_before ends_after before after)
    pub err : IfErr answer (λ why. (key : E) × (slice_get keys 0 ≡ Some key) × RefusesKey key why)
    pub unfilled : OnErr answer ((after ≡ before) × (ends_after ≡ ends_before))

module _ {K A : Type 0} (rules : Rules K A) (texts : Texts K A) (key_of : KeyWords → Option K) (commits : List (Write K)) where
  -- the live rows that match an atom, by rising number, if there is an atom
  abbrev pub live_rows : Result A Denied → Result (List (Row K)) Denied
  live_rows (Ok wanted) = Ok (snapshot (satisfies rules (atom wanted)) (length commits) commits)
  live_rows (Err why) = Err why

  -- the live rows that have a relation, given by its number, to a key
  abbrev pub live_by : ℕ → KeyWords → Result (List (Row K)) Denied
  live_by relation words = live_rows (atom_for texts key_of relation words)

  -- a search for the rows of many keys
  abbrev pub IsFindOfEach : (K → KeyWords) → ℕ → List KeyWords → List ℕ → List ℕ → List ShownRow → List ShownRow → Result ℕ Denied → Type 0
  IsFindOfEach words_of relation keys ends_before ends_after before after answer = FindsEach (live_by relation) (shown_row words_of) keys ends_before ends_after before after answer
