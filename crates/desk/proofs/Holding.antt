-- What keeps the invariant of the world under the lock.
use Rattle.std.proofs.Common.{◌≡◌, ℕ, List, [], Some, None, Result, Ok, Err, OnOk, OnErr, ap, subst}
use Rattle.key_class.specs.Rules.{Rules}
use Rattle.key_class.specs.declared.refusal.Refusal.{Refusal}
use Rattle.mailbox.specs.Outlets.{Rule}
use Rattle.cursor.specs.OpenCursors.{OpenCursor}
use Rattle.writes.specs.Ending.{Looks}
use Rattle.world.specs.Promises.{MailboxesFit}
use Rattle.world.specs.Serials.{member}
use Rattle.world.specs.States.{State}

module _ {K A : Type 0} where
  -- if no cursor is open, each ring fits
  pub none_open : (rules : Rules K A) (rule : Rule) (s : State K A) → s.cursors ≡ [] → MailboxesFit rules rule s
  none_open rules rule s none c k there =
      let t : None ≡ Some k = subst (λ (open_ : List (OpenCursor K A)). member (λ (o : OpenCursor K A). o.serial) c open_ ≡ Some k) none there in
      absurd (cc t)

  -- opening a finder, or refusing to, leaves the commits unchanged
  pub same_commits : {X : Type 0} (result : Result X Refusal) (old new : State K A) (row : ℕ) → OnOk result (Looks old row new) → OnErr result (new ≡ old) → new.commits ≡ old.commits
  same_commits (Ok x) old new row looks same = ap (λ s. s.commits) looks.is
  same_commits (Err why) old new row looks same = ap (λ s. s.commits) same
