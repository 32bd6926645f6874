-- What calls answer about what a handle owns, of any class.
use Rattle.std.specs.Prelude.{◌≡◌, ℕ, Bool, List, length, Result, Ok}
use Rattle.libgist.specs.Calls.{Passing, IsTelling, IsTellingStanding, IsOpening, IsFollowing}
use Rattle.libgist.specs.Classes.{InSnapshot, InSnapshotBy, InStore, InStoreBy}
use Rattle.libgist.specs.Denials.{PassesOn}
use Rattle.libgist.specs.Feeding.{InFeedBy, InFeedOver}
use Rattle.libgist.specs.Following.{IsAdvancing, IsSubscribing}
use Rattle.libgist.specs.ManyFinds.{IsFindOfEach}
use Rattle.libgist.specs.Reading.{IsFind, IsFindAny, IsCount, IsChanges, IsRowOf}
use Rattle.libgist.specs.Shown.{shown_commit}
use Rattle.libgist.specs.declared.denied.Denied.{Denied}
use Rattle.libgist.specs.declared.figures.Figures.{Figures}
use Rattle.libgist.specs.declared.figures.ShownStanding.{ShownStanding}
use Rattle.libgist.specs.declared.held.Held.{Held}
use Rattle.libgist.specs.declared.words.KeyWords.{KeyWords}
use Rattle.libgist.specs.declared.words.ShownItem.{ShownItem}
use Rattle.libgist.specs.declared.words.ShownRow.{ShownRow}
use Rattle.libgist.specs.declared.words.ToldItem.{ToldItem}

-- how many commits a snapshot has
abbrev pub AnswersCommits : Held → Result ℕ Denied → Type 0
AnswersCommits = InSnapshot (λ K A class commits answer. answer ≡ Ok (length commits))

-- a snapshot's row with a number, and whether it is live
abbrev pub AnswersRow : ℕ → Held → Result (ShownRow × Bool) Denied → Type 0
AnswersRow number = InSnapshot (λ K A class commits. PassesOn (IsRowOf class.words_of commits number))

-- a snapshot's commit with a number, or nothing if there is none
abbrev pub AnswersCommit : ℕ → Held → Result ShownItem Denied → Type 0
AnswersCommit number = InSnapshot (λ K A class commits answer. answer ≡ Ok (shown_commit class.words_of commits number))

-- the rows of each of many keys, and where each key's rows end
abbrev pub AnswersFindOfEach : ℕ → List KeyWords → List ℕ → List ℕ → List ShownRow → List ShownRow → Held → Result ℕ Denied → Type 0
AnswersFindOfEach relation keys ends_before ends_after before after =
    InSnapshot (λ K A class commits. IsFindOfEach class.rules class.texts class.key_of commits class.words_of relation keys ends_before ends_after before after)

-- the live rows that match a query
abbrev pub AnswersFind : List ShownRow → List ShownRow → Held → Held → Result ℕ Denied → Type 0
AnswersFind before after = InSnapshotBy (λ K A class query commits. PassesOn (IsFind class.rules class.words_of query commits before after))

-- the same in any order
abbrev pub AnswersFindAny : List ShownRow → List ShownRow → Held → Held → Result ℕ Denied → Type 0
AnswersFindAny before after = InSnapshotBy (λ K A class query commits. PassesOn (IsFindAny class.rules class.words_of query commits before after))

-- how many live rows match a query
abbrev pub AnswersCount : Held → Held → Result ℕ Denied → Type 0
AnswersCount = InSnapshotBy (λ K A class query commits. PassesOn (IsCount class.rules query commits))

-- the items of the commits after one that match a query
abbrev pub AnswersChanges : ℕ → List ShownItem → List ShownItem → Held → Held → Result (ℕ × ℕ) Denied → Type 0
AnswersChanges from before after = InSnapshotBy (λ K A class query commits. PassesOn (IsChanges class.rules class.words_of query commits from before after))

-- the figures of a store
abbrev pub AnswersStats : Held → Result Figures Denied → Type 0
AnswersStats held answer = InStore (λ K A class. IsTelling) held answer held

-- where the open cursor at a place stands
abbrev pub AnswersStanding : ℕ → Held → Result ShownStanding Denied → Type 0
AnswersStanding place held answer = InStore (λ K A class. IsTellingStanding place) held answer held

-- a cursor of a store is opened on a query, or so that it follows a commit
abbrev pub AnswersOpening : Held → Held → Result ℕ Denied → Held → Type 0
AnswersOpening = InStoreBy (λ K A class query. Passing (IsOpening class.rules query))

abbrev pub AnswersFollowing : ℕ → Held → Held → Result ℕ Denied → Held → Type 0
AnswersFollowing commit = InStoreBy (λ K A class query. Passing (IsFollowing class.rules query commit))

-- a feed gets another subscription, or goes on over a snapshot
abbrev pub AnswersSubscribing : ℕ → Held → Held → Result ℕ Denied → Held → Type 0
AnswersSubscribing from = InFeedBy (λ K A class query. Passing (IsSubscribing query from))

abbrev pub AnswersAdvancing : ℕ → List ToldItem → List ToldItem → Held → Held → Result (ℕ × ℕ) Denied → Held → Type 0
AnswersAdvancing most before after = InFeedOver (λ K A class commits. Passing (IsAdvancing class.rules class.words_of most commits before after))
