-- A visit that closes a cursor, and what it tells of a receipt.
use Rattle.std.proofs.Common.{◌≡◌, ◌∙◌, ◌≤◌, List, length, ℕ, subst, sym}
use Rattle.key_class.specs.Rules.{Rules}
use Rattle.change_list.specs.declared.write.Write.{Write}
use Rattle.world.specs.States.{State}
use Rattle.desk.specs.Receipts.{IfReceipt}
use Rattle.desk.specs.Seats.{Seated}
use Rattle.desk.specs.Visits.{IsVisit}
use Rattle.desk.specs.Weaving.{SeatStands}
use Rattle.desk.specs.declared.ending.Ended.{Ended}
use Rattle.desk.specs.declared.ending.Ended.TheVariants as ended

module _ {K A : Type 0} (rules : Rules K A) where
  -- a visit that does more also does less
  pub visit_less : (P Q : State K A → State K A → Type 0) → ((old new : State K A) → P old new → Q old new) → IsVisit rules P → IsVisit rules Q
  visit_less P Q less v = record { old = v.old; new = v.new; found = v.found; did = less v.old v.new v.did; left = v.left }

-- a receipt with the commits of a view tells the same commits as the view
pub of_view : {K : Type 0} (e : Ended K) (commits list : List (Write K)) → IfReceipt e (λ r. r.commits ≡ commits) → commits ≡ list → IfReceipt e (λ r. r.commits ≡ list)
of_view (ended.Receipt r) commits list is same = is ∙ same
of_view ended.NoReceipt commits list is same = tt

-- a receipt with the commits of a view has no fewer commits than the view
pub no_fewer : {K : Type 0} (e : Ended K) (commits : List (Write K)) (n : ℕ) → IfReceipt e (λ r. r.commits ≡ commits) → n ≤ length commits → IfReceipt e (λ r. n ≤ length r.commits)
no_fewer (ended.Receipt r) commits n is less = rw is less
no_fewer ended.NoReceipt commits n is less = tt

-- the stamps that stand in a view stand in a receipt of it
pub kept_stand : {K : Type 0} (e : Ended K) (commits : List (Write K)) (s : Seated K) → IfReceipt e (λ r. r.commits ≡ commits) → SeatStands commits s → IfReceipt e (λ r. SeatStands r.commits s)
kept_stand (ended.Receipt r) commits s is stand = subst (λ l. SeatStands l s) (sym is) stand
kept_stand ended.NoReceipt commits s is stand = tt
