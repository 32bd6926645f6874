-- Finders that begin at a page.
use Rattle.std.specs.Prelude.{◌≡◌, ◌⊎◌, ℕ, ◌+◌, ◌<◌, true, [], ◌∷◌, ◌++◌, length, None, Ok, Err, Result}
use Rattle.key_class.specs.Rules.{Rules}
use Rattle.key_class.specs.declared.refusal.Refusal.{Refusal}
use Rattle.mailbox.specs.Outlets.{Rule}
use Rattle.change_list.specs.Changes.{HasKey}
use Rattle.page_table.specs.Trees.{page_at}
use Rattle.split.specs.Tests.{first_failing}
use Rattle.scan.specs.Finding.{holds}
use Rattle.descent.specs.Finders.{begun_finder}
use Rattle.world.specs.declared.event.Event.TheVariants as event
use Rattle.world.specs.States.{State}
use Rattle.world.specs.Steps.{IsRefused, find_tests}

module _ {K A : Type 0} where
  -- the row is on the page
  abbrev pub StandsOn : State K A → ℕ → ℕ → Type 0
  StandsOn s row page = (page < length s.search.tree.pages) × (holds row (page_at s.search.tree page).rows ≡ true)

  -- a finder of the row may begin at the page: at the root, or at a page that holds the row
  abbrev pub MayBegin : State K A → ℕ → ℕ → Type 0
  MayBegin s row page = (page ≡ 0) ⊎ StandsOn s row page

  -- a finder of the row begins at the page
  pub record Begins (old : State K A) (row : ℕ) (key : K) (page f : ℕ) (new : State K A) : Type 0 where
    pub serial : f ≡ old.last_finder + 1
    pub after : new ≡ record old {
      finders = old.finders ++ begun_finder (old.last_finder + 1) row key page old.search.tree.counter ∷ [];
      last_finder = old.last_finder + 1;
    }

  -- if a finder of the row may be opened, it begins at a page where it may
  pub record FindsNear (old : State K A) (row f : ℕ) (new : State K A) : Type 0 where
    pub passed : first_failing (find_tests old row) ≡ None
    pub key : K
    pub made : HasKey old.commits row key
    pub page : ℕ
    pub may : MayBegin old row page
    pub begins : Begins old row key page f new

module _ {K A : Type 0} (rules : Rules K A) (rule : Rule) where
  -- a finder of the row begins where it may; or it is refused like the event Find
  abbrev pub OpensNear : State K A → ℕ → Result ℕ Refusal → State K A → Type 0
  OpensNear old row (Ok f) new = FindsNear old row f new
  OpensNear old row (Err why) new = IsRefused rules rule old (event.Find row) why new
