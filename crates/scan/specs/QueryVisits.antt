-- One visit of a scan by its result, for a query in the form in which the program stores it.
use Rattle.std.specs.Prelude.{◌≡◌, ℕ, Bool, List, [], Option, Result, IfOk, IfSome, MatchOption}
use Rattle.key_class.specs.declared.pred.Pred.{Pred}
use Rattle.key_class.specs.Queries.{query_of}
use Rattle.key_class.specs.Rules.{Rules, satisfies, may_satisfy}
use Rattle.change_list.specs.declared.item.Row.{Row}
use Rattle.row_version.specs.Entries.{Entry}
use Rattle.node.specs.declared.branch.Branch.{Branch}
use Rattle.page_table.specs.Stacks.{StackItem}
use Rattle.page_table.specs.Trees.{Tree, page_at}
use Rattle.scan.specs.declared.stack.Visited.{Visited}
use Rattle.scan.specs.Prepared.{PreparedVisit, wanted_children, IsFresh}
use Rattle.scan.specs.Scanning.{GoesOn, IsNext, Visits, PushesSome, VisitGrows, LosesNothing, LowersWork, NothingLeft, seen}

module _ {K A : Type 0} (rules : Rules K A) (query : Pred A) where
  -- of some entries, the rows that the query asks for
  abbrev pub seen_by : ℕ → List (Entry K) → List (Row K)
  seen_by s entries = seen (satisfies rules (query_of query)) s entries

  -- the children below which such a row may be, the first one last
  abbrev pub children_by : List (Branch K) → List ℕ
  children_by branches = wanted_children (may_satisfy rules (query_of query)) branches

  -- the last item is removed, and what follows its page by the query is pushed
  abbrev pub GoesOnBy : Tree K → List StackItem → StackItem → List StackItem → Type 0
  GoesOnBy t old item new = GoesOn (may_satisfy rules (query_of query)) t old item new

  -- something follows the page that is visited next
  abbrev pub PushesBy : Tree K → List StackItem → Type 0
  PushesBy t stack = PushesSome (may_satisfy rules (query_of query)) t stack

  -- the next visit notes a row or pushes a page
  abbrev pub GrowsBy : ℕ → Tree K → List StackItem → Type 0
  GrowsBy s t stack = VisitGrows (may_satisfy rules (query_of query)) (satisfies rules (query_of query)) s t stack

  -- nothing is left; or the last item's page is visited, and its rows are noted
  abbrev pub VisitsBy : {E : Type 0} → ℕ → Tree K → List StackItem → Result (Option (Visited K)) E → List StackItem → Type 0
  VisitsBy s t old result new = IfOk result (λ r. MatchOption r (NothingLeft old new)
      (λ v. Visits (may_satisfy rules (query_of query)) (satisfies rules (query_of query)) s t old v.page v.rows.items new))

  -- in a sound tree what is noted, together with what is still to be found, is what was to be found before
  abbrev pub Tallies : {E : Type 0} → ℕ → Tree K → List StackItem → Result (Option (Visited K)) E → List StackItem → Type 0
  Tallies s t old result new = IfOk result (λ r. IfSome r (λ v. LosesNothing rules.is_cover (satisfies rules (query_of query)) s t old v.rows.items new))

module _ {K A : Type 0} where
  -- nothing is left; or there is a visit of the last item's page for the query, not yet worked out
  abbrev pub Prepares : Pred A → List StackItem → Tree K → ℕ → Option (PreparedVisit K A) → Type 0
  Prepares query stack t s r = MatchOption r (stack ≡ []) (IsFresh stack t (query_of query) s)

  -- the visit is that of the last item, and its page is unchanged
  abbrev pub IsStillNext : List StackItem → Tree K → PreparedVisit K A → Type 0
  IsStillNext stack t visit = IsNext stack visit.item × (page_at t visit.item.page ≡ visit.page)

  -- the visit that was worked out is made, like one with its query and opening in every tree with that counter and
  -- its page
  abbrev pub MakesVisit : Rules K A → ℕ → PreparedVisit K A → List StackItem → List StackItem → Visited K → Type 0
  MakesVisit rules counter visit old new v = (table : Tree K) → table.counter ≡ counter → page_at table visit.item.page ≡ visit.page
      → Visits (may_satisfy rules visit.query) (satisfies rules visit.query) visit.opened table old v.page v.rows.items new

  -- in every such tree something follows the page
  abbrev pub VisitPushes : Rules K A → ℕ → PreparedVisit K A → List StackItem → Type 0
  VisitPushes rules counter visit stack = (table : Tree K) → table.counter ≡ counter → page_at table visit.item.page ≡ visit.page
      → PushesSome (may_satisfy rules visit.query) table stack

-- in a sound tree fewer pages are left after a visit
abbrev pub VisitLowersWork : {K X E : Type 0} → (K → K → Bool) → Tree K → List StackItem → Result (Option X) E → List StackItem → Type 0
VisitLowersWork is_cover t old result new = IfOk result (λ r. IfSome r (λ visited. LowersWork is_cover t old new))
