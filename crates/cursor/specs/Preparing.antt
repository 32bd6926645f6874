-- A visit for a cursor that is worked out without the table.
use Rattle.std.specs.Prelude.{◌≡◌, ◌≢◌, ◌⊎◌, ℕ, false, []}
use Rattle.key_class.specs.declared.refusal.Refusal.{Refusal}
use Rattle.key_class.specs.declared.refusal.Refusal.TheVariants as refusal
use Rattle.page_table.specs.Trees.{Tree, page_at}
use Rattle.scan.specs.Scanning.{IsNext, IsNextPage}
use Rattle.scan.specs.Prepared.{PreparedVisit}
use Rattle.cursor.specs.OpenCursors.{OpenCursor}

-- The visit is the cursor's next turn: no row is pending, it visits the last item, its page is unchanged, and the
-- query and the opening are the cursor's.
pub record IsDue {K A : Type 0} (t : Tree K) (k : OpenCursor K A) (visit : PreparedVisit K A) : Type 0 where
  pub none_pending : k.pending ≡ []
  pub next : IsNext k.stack visit.item
  pub page : page_at t visit.item.page ≡ visit.page
  pub query : k.query ≡ visit.query
  pub opened : k.opened ≡ visit.opened

-- it is that visit, and not yet worked out
pub record IsPrepared {K A : Type 0} (t : Tree K) (k : OpenCursor K A) (visit : PreparedVisit K A) : Type 0 where
  pub due : IsDue t k visit
  pub fresh : visit.worked ≡ false

-- the cursor's next turn is a visit: no row is pending, and a page is left
pub record VisitsNext {K A : Type 0} (k : OpenCursor K A) : Type 0 where
  pub none_pending : k.pending ≡ []
  pub left : k.stack ≢ []

-- the cursor's next turn visits the page: no row is pending, and the page is next
pub record IsPageToVisit {K A : Type 0} (k : OpenCursor K A) (page : ℕ) : Type 0 where
  pub none_pending : k.pending ≡ []
  pub next : IsNextPage k.stack page

-- why no visit is prepared: the cursor's next turn is none, or memory ran out
abbrev pub RefusesVisit : {K A : Type 0} → OpenCursor K A → Refusal → Type 0
RefusesVisit k why = ((why ≡ refusal.NotHere) × (¬ VisitsNext k)) ⊎ ((why ≡ refusal.OutOfMemory) × VisitsNext k)
