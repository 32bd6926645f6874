-- One visit to a world for ending a row.
use Rattle.std.specs.Prelude.{◌≡◌, ◌⊎◌, ℕ, ◌<◌, ◌≤◌, length}
use Rattle.key_class.specs.Limits.{greatest_serial, most_finders}
use Rattle.key_class.specs.Rules.{Rules}
use Rattle.mailbox.specs.Outlets.{Rule}
use Rattle.change_list.specs.Changes.{NamesNoRow, NamesLive, NamesDead}
use Rattle.key_class.specs.declared.refusal.Refusal.{Refusal}
use Rattle.key_class.specs.declared.refusal.Refusal.TheVariants as refusal
use Rattle.world.specs.Serials.{without}
use Rattle.world.specs.Stamps.{Stamp}
use Rattle.world.specs.States.{State, AddsCommit, IsFinderOf, IsFullOfCommits, IsNextStamp}
use Rattle.world.specs.Steps.{SeeksOn}
use Rattle.writes.specs.Ending.{write_of_ending}
use Rattle.writes.specs.declared.ending.Ending.{Ending}
use Rattle.writes.specs.declared.end_visit.Search.{Search}
use Rattle.writes.specs.declared.end_visit.Search.TheVariants as search

module _ {K A : Type 0} where
  -- there is no room or no serial for one more finder
  abbrev pub IsFullOfFinders : State K A → Type 0
  IsFullOfFinders s = (most_finders ≤ length s.finders) ⊎ (greatest_serial ≤ s.last_finder)

  -- why no finder of a live row is opened
  abbrev pub RefusesFinder : State K A → Refusal → Type 0
  RefusesFinder s why = (why ≡ refusal.OutOfMemory) ⊎ ((why ≡ refusal.FindersFull) × IsFullOfFinders s)

  -- why a finder of a live row can't go on
  abbrev pub RefusesCommit : State K A → Refusal → Type 0
  RefusesCommit s why = (why ≡ refusal.OutOfMemory) ⊎ ((why ≡ refusal.CommitsFull) × IsFullOfCommits s)

  -- the row is live, but there are as many commits as allowed
  abbrev pub LacksCommit : State K A → ℕ → Type 0
  LacksCommit s row = NamesLive s.commits row × IsFullOfCommits s

  -- the row is live, but no finder of it can be opened
  abbrev pub LacksFinder : State K A → ℕ → Type 0
  LacksFinder s row = NamesLive s.commits row × IsFullOfFinders s

  -- the row is live and may be deleted, but no finder of it can be opened
  abbrev pub LacksOnlyFinder : State K A → ℕ → Type 0
  LacksOnlyFinder s row = NamesLive s.commits row × (length s.commits < s.limit) × IsFullOfFinders s

  -- the row isn't live
  abbrev pub RefusesNotLive : State K A → ℕ → Refusal → Type 0
  RefusesNotLive s row why = ((why ≡ refusal.NoSuchRow) × NamesNoRow s.commits row) ⊎ ((why ≡ refusal.AlreadyDeleted) × NamesDead s.commits row)

  -- why no finder of the row is opened
  abbrev pub RefusesFinding : State K A → ℕ → Refusal → Type 0
  RefusesFinding s row why = RefusesNotLive s row why ⊎ RefusesFinder s why

  -- why a finder of the row can't go on
  abbrev pub RefusesSeeking : State K A → ℕ → Refusal → Type 0
  RefusesSeeking s row why = RefusesNotLive s row why ⊎ RefusesCommit s why

  -- why a deletion of the row is refused
  abbrev pub RefusesDelete : State K A → ℕ → Refusal → Type 0
  RefusesDelete s row why = RefusesFinding s row why ⊎ RefusesSeeking s row why

  -- why the row can't end
  abbrev pub RefusesEnding : State K A → ℕ → Refusal → Type 0
  RefusesEnding s row why = RefusesNotLive s row why ⊎ ((why ≡ refusal.CommitsFull) × LacksCommit s row)

  -- the next commit ends the row in this way, for the seat, and the finder is gone
  pub record EndsMet (old : State K A) (seat f row : ℕ) (how : Ending K) (stamp : Stamp K) (new : State K A) : Type 0 where
    pub commits : AddsCommit old (write_of_ending row how) new
    pub stamped : IsNextStamp old seat (write_of_ending row how) stamp
    pub finders : new.finders ≡ without (λ k. k.serial) f old.finders

module _ {K A : Type 0} (rules : Rules K A) (rule : Rule) where
  -- a visit of a finder of the row: it goes on, or ends the row in this way; or there is no such finder, and nothing
  -- is done
  abbrev pub Seeks : State K A → ℕ → ℕ → ℕ → Ending K → Search K → State K A → Type 0
  Seeks old seat f row how search.On new = IsFinderOf old f row × SeeksOn rules rule old f new
  Seeks old seat f row how search.Lost new = (¬ IsFinderOf old f row) × (new ≡ old)
  Seeks old seat f row how (search.Ended stamp) new = IsFinderOf old f row × EndsMet old seat f row how stamp new
