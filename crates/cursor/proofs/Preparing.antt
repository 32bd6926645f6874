-- A turn that makes a visit which was worked out is a turn.
use Rattle.std.proofs.Common.{◌≡◌, ℕ, true, List, [], ◌∷◌, ◌++◌, Ok, Err, refl, sym, subst, inr}
use Rattle.key_class.specs.Rules.{Rules}
use Rattle.mailbox.specs.Outlets.{Rule}
use Rattle.key_class.specs.Queries.{consistent_with_query, matches_query}
use Rattle.key_class.specs.declared.refusal.Refusal.TheVariants as refusal
use Rattle.change_list.specs.declared.write.Write.{Write}
use Rattle.change_list.specs.declared.item.Row.{Row}
use Rattle.page_table.specs.Stacks.{StackItem}
use Rattle.page_table.specs.Trees.{Tree}
use Rattle.scan.specs.Scanning.{IsNext, Visits, PushesSome}
use Rattle.scan.specs.Prepared.{PreparedVisit}
use Rattle.cursor.specs.declared.cursor.Turned.TheVariants as turned
use Rattle.cursor.specs.OpenCursors.{OpenCursor, Turns, is_scanning}
use Rattle.cursor.specs.Preparing.{IsDue}
use Rattle.cursor.proofs.Tasks.{visit_is_due}

some_on_stack : (rest : List StackItem) (item : StackItem) → is_scanning (rest ++ item ∷ []) ≡ true
some_on_stack [] item = refl
some_on_stack (i ∷ rest) item = refl

pub next_scans : (stack : List StackItem) (item : StackItem) → IsNext stack item → is_scanning stack ≡ true
next_scans stack item next = subst (λ s. is_scanning s ≡ true) (sym next.is) (some_on_stack next.rest item)

module _ {K A : Type 0} (rules : Rules K A) (rule : Rule) where
  pub prepared_turns : (t : Tree K) (old new : OpenCursor K A) (visit : PreparedVisit K A) (stack : List StackItem) (page : ℕ) (noted : List (Row K)) → IsDue t old visit
      → Visits (consistent_with_query rules.is_consistent visit.query) (matches_query rules.is_match visit.query) visit.opened t old.stack page noted stack
      → new ≡ record old { stack = stack; pending = noted } → (commits : List (Write K)) → Turns rules rule t commits old (Ok (turned.Visited page)) new
  prepared_turns t old new visit stack page noted due visits after commits = (
    visit_is_due rules rule commits old due.none_pending (next_scans old.stack visit.item due.next),
    record {
      stack = stack;
      noted = noted;
      visits = subst (λ q. Visits (consistent_with_query rules.is_consistent q) (matches_query rules.is_match q) old.opened t old.stack page noted stack) (sym due.query)
          (subst (λ s. Visits (consistent_with_query rules.is_consistent visit.query) (matches_query rules.is_match visit.query) s t old.stack page noted stack) (sym due.opened) visits);
      after = after;
    },
  )

  pub prepared_refused : (t : Tree K) (old new : OpenCursor K A) (visit : PreparedVisit K A) → IsDue t old visit → PushesSome (consistent_with_query rules.is_consistent visit.query) t old.stack → new ≡ old → (commits : List (Write K)) → Turns rules rule t commits old (Err refusal.OutOfMemory) new
  prepared_refused t old new visit due pushes after commits = (
    visit_is_due rules rule commits old due.none_pending (next_scans old.stack visit.item due.next),
    after,
    inr (subst (λ q. PushesSome (consistent_with_query rules.is_consistent q) t old.stack) (sym due.query) pushes),
  )
