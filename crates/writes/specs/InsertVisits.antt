-- One visit of an insertion to a world.
use Rattle.std.specs.Prelude.{◌≡◌, ◌⊎◌, ℕ, ◌<◌, Bool, true, false, List, length, Result, IfOk}
use Rattle.key_class.specs.Rules.{Rules}
use Rattle.mailbox.specs.Outlets.{Rule}
use Rattle.change_list.specs.declared.write.Write.TheVariants.{Insert}
use Rattle.key_class.specs.declared.refusal.Refusal.{Refusal}
use Rattle.key_class.specs.declared.sides.Side.{Side}
use Rattle.node.specs.Pages.{is_within}
use Rattle.page_table.specs.Trees.{page_at}
use Rattle.descent.specs.NextSteps.{HasRoom, IsChosen, IsFull, IsNextStep}
use Rattle.descent.specs.declared.step.WayStep.TheVariants as step
use Rattle.split.specs.SearchTrees.{SearchTree}
use Rattle.world.specs.States.{State, AddsCommit, IsNextStamp}
use Rattle.world.specs.Visits.{Makes}
use Rattle.world.specs.Tasks.{SplitTask, HasPage, IsStaleSplit}
use Rattle.world.specs.declared.event.Event.{Event}
use Rattle.world.specs.declared.event.Event.TheVariants as event
use Rattle.writes.specs.declared.insert_visit.Way.{Way}
use Rattle.writes.specs.declared.insert_visit.Way.TheVariants as way
use Rattle.writes.specs.declared.approach.Approach.{Approach}
use Rattle.writes.specs.declared.approach.Approach.TheVariants as approach
use Rattle.writes.specs.declared.approach.NextAction.{NextAction}
use Rattle.writes.specs.declared.approach.NextAction.TheVariants as next
use Rattle.writes.specs.PageSteps.{MayPlace, Moves}

module _ {K : Type 0} (is_cover : K → K → Bool) where
  -- the page's cover covers the key
  abbrev pub CoversKey : SearchTree K → ℕ → K → Type 0
  CoversKey s page key = is_within is_cover (page_at s.tree page).cover key ≡ true

  -- a way for the key can go on at the page
  pub record MayGoOn (s : SearchTree K) (page : ℕ) (key : K) : Type 0 where
    pub exists : page < length s.tree.pages
    pub covers : CoversKey s page key
    pub room : HasRoom s page

  -- where a way for the key that has reached the page goes on: there, or at the root if it can't go on there
  abbrev pub ResumesAt : SearchTree K → ℕ → K → ℕ → Type 0
  ResumesAt s page key here = (MayGoOn s page key × (here ≡ page)) ⊎ ((¬ MayGoOn s page key) × (here ≡ 0))

module _ {K A : Type 0} where
  -- the event changes only pages
  abbrev pub IsOfPages : Event K A → Type 0
  IsOfPages (event.Enlarge parent child k) = Unit {0}
  IsOfPages (event.Split page sides) = Unit {0}
  IsOfPages (event.Post parent child) = Unit {0}
  IsOfPages (event.Grow sides) = Unit {0}
  IsOfPages e = ⊥

module _ {K A : Type 0} (rules : Rules K A) (s : SearchTree K) (here : ℕ) (key : K) where
  -- from here the event is the next step on the way of the key, and the way then goes on at the next page
  abbrev pub LeadsOn : Event K A → ℕ → Type 0
  LeadsOn (event.Grow sides) next = (next ≡ 0) × IsNextStep rules s here key (step.Grow sides)
  LeadsOn (event.Post parent child) next = (next ≡ 0) × IsNextStep rules s here key (step.Post parent child)
  LeadsOn (event.Enlarge parent child k) next = (next ≡ child) × (k ≡ key) × IsNextStep rules s here key (step.Enlarge parent child)
  LeadsOn e next = ⊥

  -- what to do on the way of the key once it is here
  abbrev pub IsNextHere : NextAction K A → Type 0
  IsNextHere (next.Make e page) = LeadsOn e page
  IsNextHere (next.Split page) = IsChosen rules.union_of rules.size_of s here key page × IsFull s page
  IsNextHere (next.At leaf) = (leaf ≡ here) × MayPlace rules.is_cover s leaf key

module _ {K A : Type 0} (rules : Rules K A) (s : SearchTree K) (key : K) (here : ℕ) where
  -- the way of the key leads from here down to a page by branches alone: before that page there is nothing to do
  pub data LeadsDown : ℕ → Type 0 where
    stays : LeadsDown here
    goes_down : {last there : ℕ} → LeadsDown last → IsNextStep rules s last key (step.Down there) → LeadsDown there

module _ {K A : Type 0} (rules : Rules K A) (s : SearchTree K) (here : ℕ) (key : K) where
  -- how far the way of the key leads down from here, and what to do there
  pub record IsNextOnWay (due : NextAction K A) : Type 0 where
    pub there : ℕ
    pub down : LeadsDown rules s key here there
    pub is : IsNextHere rules s there key due

module _ {K A : Type 0} (rules : Rules K A) where
  -- the event that is due where the way has come was made, and the way then goes on at the next page
  pub record WayGoesOn (old : State K A) (there : ℕ) (key : K) (next : ℕ) (new : State K A) : Type 0 where
    pub event : Event K A
    pub leads : LeadsOn rules old.search there key event next
    pub moved : Moves rules.union_of old event new
    pub exists : next < length new.search.tree.pages

  -- what a visit reports about a way that has come down to a page
  abbrev pub TellsThere : State K A → ℕ → K → Approach → State K A → Type 0
  TellsThere old there key (approach.On next) new = WayGoesOn old there key next new
  TellsThere old there key (approach.Split page) new = IsChosen rules.union_of rules.size_of old.search there key page × IsFull old.search page × (new ≡ old)
  TellsThere old there key (approach.At leaf) new = (leaf ≡ there) × MayPlace rules.is_cover old.search leaf key × (new ≡ old)

  -- What a visit reports about a way of the key that has reached the page: from where it goes on, it leads down to
  -- where something is to be done, and that is done or reported.
  pub record Nears (old : State K A) (page : ℕ) (key : K) (way : Approach) (new : State K A) : Type 0 where
    pub here : ℕ
    pub resumes : ResumesAt rules.is_cover old.search page key here
    pub there : ℕ
    pub down : LeadsDown rules old.search key here there
    pub tells : TellsThere old there key way new

  -- the way goes on, or reaches a full page, or the next commit places the row
  abbrev pub Goes : State K A → ℕ → ℕ → K → ℕ → Way K → State K A → Type 0
  Goes old seat page key tag (way.On next) new = Nears old page key (approach.On next) new
  Goes old seat page key tag (way.Split full) new = Nears old page key (approach.Split full) new
  Goes old seat page key tag (way.Placed stamp) new = AddsCommit old (Insert key tag) new × IsNextStamp old seat (Insert key tag) stamp

module _ (E : Type 0) {K A : Type 0} (rules : Rules K A) (rule : Rule) where
  -- the page was split by some sides; or that was tried, and refused
  pub record Splits (seat : ℕ) (old : State K A) (page : ℕ) (new : State K A) : Type 0 where
    pub sides : List Side
    pub makes : Makes E rules rule seat old (event.Split page sides) new

  -- the same, or nothing was done
  abbrev pub SplitsAtMost : ℕ → State K A → ℕ → State K A → Type 0
  SplitsAtMost seat old page new = (new ≡ old) ⊎ Splits seat old page new

  -- if the task came in time its split is made; otherwise nothing is
  abbrev pub SplitsInTime : ℕ → State K A → SplitTask K → Bool → State K A → Type 0
  SplitsInTime seat old task true new = HasPage old task.number task.page × Splits seat old task.number new
  SplitsInTime seat old task false new = IsStaleSplit old task × (new ≡ old)

  -- a prepared split reports whether its task came in time, if nothing refuses it
  abbrev pub TellsInTime : ℕ → State K A → SplitTask K → Result Bool Refusal → State K A → Type 0
  TellsInTime seat old task result new = IfOk result (λ made. SplitsInTime seat old task made new)
