-- How a looker of a storm fared.
use Rattle.std.specs.Prelude.{◌≡◌, ◌≢◌, ◌↔◌, IsTrue, ℕ, Bool, List, [], ◌∷◌, length, Vec}
use Rattle.key_class.specs.Queries.{Query, query_of}
use Rattle.key_class.specs.declared.pred.Pred.{Pred}
use Rattle.key_class.specs.Rules.{Rules, satisfies}
use Rattle.change_list.specs.declared.write.Write.{Write}
use Rattle.change_list.specs.declared.item.Item.{Item}
use Rattle.change_list.specs.declared.item.Row.{Row}
use Rattle.change_list.specs.Changes.{snapshot}
use Rattle.change_list.specs.Listings.{AreChanges}
use Rattle.storm.specs.Judging.{TellsEach}
use Rattle.storm.specs.declared.looks.Look.{Look}
use Rattle.storm.specs.declared.judge.Verdict.{Verdict}
use Rattle.storm.specs.declared.judge.Verdict.TheVariants as verdict

module _ {K : Type 0} (wanted : K → Bool) (commits : List (Write K)) where
  -- What was found in a snapshot, after a look at `from` commits: the rows that are live after its commits and are
  -- wanted, by rising number, and the changes since `from`.
  pub record IsTrueLook (from : ℕ) (look : Look K) : Type 0 where
    pub rows : look.rows.items ≡ snapshot wanted look.commits commits
    pub changes : AreChanges wanted from look.commits commits look.changes.items

  -- each look is right after the one before, and the last is at all commits
  abbrev pub AreTrueLooks : ℕ → List (Look K) → Type 0
  AreTrueLooks from [] = from ≡ length commits
  AreTrueLooks from (look ∷ looks) = IsTrueLook from look × AreTrueLooks look.commits looks

-- The looker had a snapshot, and what it found in each is right after the one before. The first comes after no
-- commit.
abbrev pub IsWholeLooker : {K A : Type 0} → Rules K A → Query A → List (Write K) → List (Look K) → Type 0
IsWholeLooker rules query commits looks = (looks ≢ []) × AreTrueLooks (satisfies rules query) commits 0 looks

module _ {K A : Type 0} (rules : Rules K A) (query : Pred A) where
  -- the result tells whether these rows are the matching ones that are live after the first n commits, by rising
  -- number
  abbrev pub TellsFound : ℕ → List (Write K) → List (Row K) → Bool → Type 0
  TellsFound n commits rows told = IsTrue told ↔ (rows ≡ snapshot (satisfies rules (query_of query)) n commits)

  -- the result tells whether these items are the changes after one commit up to another
  abbrev pub TellsChanges : ℕ → ℕ → List (Write K) → List (Item K) → Bool → Type 0
  TellsChanges from upto commits items told = IsTrue told ↔ AreChanges (satisfies rules (query_of query)) from upto commits items

  -- the result tells whether what was found in a snapshot is right, after a look at `from` commits
  abbrev pub TellsLook : ℕ → List (Write K) → Look K → Bool → Type 0
  TellsLook from commits look told = IsTrue told ↔ IsTrueLook (satisfies rules (query_of query)) commits from look

  -- the result tells whether each look is right, and the last had all commits
  abbrev pub TellsLooks : List (Write K) → List (Look K) → Bool → Type 0
  TellsLooks commits looks told = IsTrue told ↔ AreTrueLooks (satisfies rules (query_of query)) commits 0 looks

  -- the verdict tells whether a looker is whole
  abbrev pub TellsWholeLooker : List (Write K) → List (Look K) → Verdict → Type 0
  TellsWholeLooker commits looks told = (told ≡ verdict.Whole) ↔ IsWholeLooker rules (query_of query) commits looks

-- the verdict tells how a looker of a query fared
abbrev pub TellsSight : {K A Z : Type 0} → Rules K A → Query A → List (Write K) → Vec (Look K) Z → Verdict → Type 0
TellsSight rules query commits looks told =
    ((told ≡ verdict.Whole) ↔ IsWholeLooker rules query commits looks.items) × ((told ≡ verdict.Missing) ↔ (looks.items ≡ []))

-- each verdict tells how the looker at its place fared
abbrev pub TellsSights : {K A Z : Type 0} → Rules K A → Query A → List (Write K) → List (Vec (Look K) Z) → List Verdict → Type 0
TellsSights rules query commits lookers told = TellsEach (TellsSight rules query commits) lookers told
