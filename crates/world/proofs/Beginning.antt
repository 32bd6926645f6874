-- A finder is opened: at the root by the event, or near its row.
use Rattle.std.proofs.Common.{◌≡◌, ℕ, None, inr}
use Rattle.std.proofs.Common.{Result, Ok, Err}
use Rattle.std.specs.Prelude.{IfErr, IfOk, OnErr}
use Rattle.key_class.specs.Rules.{Rules}
use Rattle.key_class.specs.declared.refusal.Refusal.{Refusal}
use Rattle.key_class.specs.declared.refusal.Refusal.TheVariants as refusal
use Rattle.mailbox.specs.Outlets.{Rule}
use Rattle.change_list.specs.Changes.{HasKey}
use Rattle.split.specs.Tests.{first_failing}
use Rattle.world.specs.declared.event.Event.TheVariants as event
use Rattle.world.specs.Beginnings.{Begins, MayBegin, OpensNear}
use Rattle.world.specs.Calls.{reply_of_finder}
use Rattle.world.specs.States.{State}
use Rattle.world.specs.Steps.{Acts, find_tests}

module _ {K A : Type 0} (rules : Rules K A) (rule : Rule) (old : State K A) (row : ℕ) (key : K) (page : ℕ) (passed : first_failing (find_tests old row) ≡ None) (made : HasKey old.commits row key) where
  -- at a page where it may begin
  pub opens_near : MayBegin old row page → (result : Result ℕ Refusal) (new : State K A) → IfOk result (λ f. Begins old row key page f new) → OnErr result (new ≡ old) → IfErr result (λ why. why ≡ refusal.OutOfMemory)
      → OpensNear rules rule old row result new
  opens_near may (Ok f) new begun same refused = record { passed = passed; key = key; made = made; page = page; may = may; begins = begun }
  opens_near may (Err why) new begun same refused = record { cause = inr (passed, refused); unchanged = same }

module _ (E : Type 0) {K A : Type 0} (rules : Rules K A) (rule : Rule) (old : State K A) (row : ℕ) (key : K) (passed : first_failing (find_tests old row) ≡ None) (made : HasKey old.commits row key) where
  -- at the root
  pub opens_at_root : (result : Result ℕ Refusal) (new : State K A) → IfOk result (λ f. Begins old row key 0 f new) → OnErr result (new ≡ old) → IfErr result (λ why. why ≡ refusal.OutOfMemory)
      → Acts {E = E} rules rule old (event.Find row) (reply_of_finder E result) new
  opens_at_root (Ok f) new begun same refused = λ seat. record { passed = passed; change = record { key = key; made = made; serial = begun.serial; after = begun.after } }
  opens_at_root (Err why) new begun same refused = λ seat. record { cause = inr (passed, refused); unchanged = same }
