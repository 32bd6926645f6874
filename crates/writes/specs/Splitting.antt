-- The results of a split that a way needs.
use Rattle.std.specs.Prelude.{◌≡◌, ◌≢◌, ◌⊎◌, ℕ, ◌*◌, ◌<◌, List, Some}
use Rattle.key_class.specs.Rules.{Rules}
use Rattle.key_class.specs.declared.refusal.Refusal.{Refusal}
use Rattle.key_class.specs.declared.refusal.Refusal.TheVariants as refusal
use Rattle.key_class.specs.declared.sides.Side.{Side}
use Rattle.mailbox.specs.Outlets.{Rule}
use Rattle.node.specs.Pages.{entries_of}
use Rattle.page_table.specs.Trees.{page_at}
use Rattle.descent.specs.NextSteps.{IsPick, PartsPage}
use Rattle.world.specs.States.{State}
use Rattle.world.specs.Steps.{FirstFails, tests}
use Rattle.world.specs.Tasks.{SplitTask, prepare_split_tests}
use Rattle.world.specs.declared.event.Event.{Event}
use Rattle.world.specs.declared.event.Event.TheVariants as event
use Rattle.writes.specs.PageSteps.{Moves}

module _ {K A : Type 0} (rules : Rules K A) (rule : Rule) where
  -- one of the event's tests fails, other than that of the pages left
  pub record IsBarred (s : State K A) (e : Event K A) : Type 0 where
    pub why : Refusal
    pub fails : FirstFails (tests rules rule s e) why
    pub not_full : why ≢ refusal.PagesFull

  -- the event was made; or it is barred, and nothing was done
  abbrev pub MovesUnlessBarred : State K A → Event K A → State K A → Type 0
  MovesUnlessBarred old e new = Moves rules.union_of old e new ⊎ (IsBarred old e × (new ≡ old))

module _ {K A : Type 0} where
  -- the page is the root or doesn't exist, or has too few entries for two sides
  abbrev pub HasNoSplit : State K A → ℕ → Type 0
  HasNoSplit s page =
      ((why : Refusal) × FirstFails (prepare_split_tests s page) why) ⊎ (entries_of (page_at s.search.tree page) < 2 * s.search.least)

module _ {K A : Type 0} (rules : Rules K A) (rule : Rule) where
  -- the page of the task was split by the task's sides, or that is barred
  pub record SplitsBySides (old : State K A) (task : SplitTask K) (new : State K A) : Type 0 where
    pub sides : List Side
    pub worked : task.sides ≡ Some sides
    pub moves : MovesUnlessBarred rules rule old (event.Split task.number sides) new

  -- the page was split by sides that the class picks for it and that split it well, or that is barred
  pub record SplitsUnlessBarred (old : State K A) (page : ℕ) (new : State K A) : Type 0 where
    pub sides : List Side
    pub picked : IsPick rules old.search page sides
    pub parts : PartsPage old.search page sides
    pub moves : MovesUnlessBarred rules rule old (event.Split page sides) new

  -- the same; or the page can't be split, and nothing was done
  abbrev pub SplitsIfAny : State K A → ℕ → State K A → Type 0
  SplitsIfAny old page new = SplitsUnlessBarred old page new ⊎ (HasNoSplit old page × (new ≡ old))
