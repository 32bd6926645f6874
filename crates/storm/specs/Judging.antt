-- How a reader of a storm fared.
use Rattle.std.specs.Prelude.{◌≡◌, ◌↔◌, IsTrue, ℕ, Bool, List, [], ◌∷◌, ◌++◌, ◌+◌, ◌<◌, length, Option, Some, None, ⊤, true, false}
use Rattle.key_class.specs.Queries.{Query, query_of}
use Rattle.key_class.specs.declared.pred.Pred.{Pred}
use Rattle.key_class.specs.Rules.{Rules, satisfies}
use Rattle.change_list.specs.declared.write.Write.{Write}
use Rattle.change_list.specs.declared.item.Item.{Item}
use Rattle.change_list.specs.declared.item.Item.TheVariants as item
use Rattle.change_list.specs.Changes.{commit_at}
use Rattle.change_list.specs.Listings.{IsListing, IsListingFor, without_marks}
use Rattle.desk.specs.declared.ending.Ended.{Ended}
use Rattle.desk.specs.declared.ending.Ended.TheVariants as ended
use Rattle.storm.specs.declared.judge.Reading.{Reading}
use Rattle.storm.specs.declared.judge.Verdict.{Verdict}
use Rattle.storm.specs.declared.judge.Verdict.TheVariants as verdict

module _ {K : Type 0} where
  -- each commit of the first list is the one with the same number in the second
  abbrev pub Begins : List (Write K) → List (Write K) → Type 0
  Begins first commits = (place : ℕ) → place < length first → commit_at first (place + 1) ≡ commit_at commits (place + 1)

  -- the items, marks left out, are a listing of all commits since an opening
  abbrev pub IsWholeListing : (K → Bool) → ℕ → List (Write K) → List (Item K) → Type 0
  IsWholeListing wanted opened commits items = IsListing wanted opened (length commits) commits (without_marks items)

  -- The last item is a mark at the last commit, the items before it are a listing, and the receipt's commits begin
  -- all commits.
  pub record IsWhole (wanted : K → Bool) (opened : ℕ) (commits receipt : List (Write K)) (items : List (Item K)) : Type 0 where
    pub before : List (Item K)
    pub ends : items ≡ before ++ item.Mark (length commits) ∷ []
    pub listing : IsWholeListing wanted opened commits before
    pub begins : Begins receipt commits

-- a condition on a receipt, if there is one
abbrev pub OfReceipt : {K : Type 0} → Ended K → (List (Write K) → Type 0) → Type 0
OfReceipt (ended.Receipt r) P = P r.commits
OfReceipt ended.NoReceipt P = ⊥

-- the reader closed its cursor with a receipt, and is whole
abbrev pub IsWholeReading : {K A : Type 0} → Rules K A → Query A → List (Write K) → Reading K → Type 0
IsWholeReading rules query commits reading =
    OfReceipt reading.ended (λ receipt. IsWhole (satisfies rules query) reading.opened commits receipt reading.items.items)

abbrev pub HasNoReceipt : {K : Type 0} → Reading K → Type 0
HasNoReceipt reading = reading.ended ≡ ended.NoReceipt

-- the result tells whether the items, marks left out, are all that a cursor of a query gives from one commit to
-- another
abbrev pub TellsGiven : {K A : Type 0} → Rules K A → Pred A → Bool → ℕ → ℕ → List (Write K) → List (Item K) → Bool → Type 0
TellsGiven rules query follows from upto commits items told = IsTrue told ↔ IsListingFor follows (satisfies rules (query_of query)) from upto commits (without_marks items)

-- the result tells whether the items, marks left out, are a listing of all commits for a query since an opening
abbrev pub TellsListing : {K A : Type 0} → Rules K A → Pred A → ℕ → List (Write K) → List (Item K) → Bool → Type 0
TellsListing rules query opened commits items told = IsTrue told ↔ IsWholeListing (satisfies rules (query_of query)) opened commits items

-- the result tells whether a reader of a query is whole
abbrev pub TellsWhole : {K A : Type 0} → Rules K A → Pred A → List (Write K) → Reading K → Verdict → Type 0
TellsWhole rules query commits reading told = (told ≡ verdict.Whole) ↔ IsWholeReading rules (query_of query) commits reading

-- the verdict tells how a reader of a query fared; one that has no reading has no receipt
abbrev pub TellsFate : {K A : Type 0} → Rules K A → Query A → List (Write K) → Option (Reading K) → Verdict → Type 0
TellsFate rules query commits None told = told ≡ verdict.Missing
TellsFate rules query commits (Some reading) told =
    ((told ≡ verdict.Whole) ↔ IsWholeReading rules query commits reading) × ((told ≡ verdict.Missing) ↔ HasNoReceipt reading)

-- each verdict tells how the client at its place fared
abbrev pub TellsEach : {X : Type 0} → (X → Verdict → Type 0) → List X → List Verdict → Type 0
TellsEach Tells [] [] = ⊤
TellsEach Tells [] (v ∷ told) = ⊥
TellsEach Tells (x ∷ clients) [] = ⊥
TellsEach Tells (x ∷ clients) (v ∷ told) = Tells x v × TellsEach Tells clients told

-- each verdict tells how the reader at its place fared
abbrev pub TellsFates : {K A : Type 0} → Rules K A → Query A → List (Write K) → List (Option (Reading K)) → List Verdict → Type 0
TellsFates rules query commits readings told = TellsEach (TellsFate rules query commits) readings told

abbrev pub is_whole : Verdict → Bool
is_whole verdict.Whole = true
is_whole verdict.NotWhole = false
is_whole verdict.Missing = false
