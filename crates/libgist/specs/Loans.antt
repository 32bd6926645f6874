-- Handles lent for a call, which go back to their owner after it.
use base.Fml.{Lft, Share, Fml, fsep, flft}
use denote.RawPtr.{Ptr}
use denote.Struct.Lending.{lent_at}
use Rattle.std.specs.Prelude.{Option}
use Rattle.libgist.specs.Owning.{HeldState}
use Rattle.libgist.specs.contracts.lent.Lent.{the_row}

-- a loan of a handle: its lifetime, the share of that lifetime that the call holds, and the state of what is lent
pub record Loan : Type 0 where
  pub until : Lft
  pub share : Share
  pub handle : (the_row).Denot

-- the state of what is lent
abbrev pub state_of : Loan → Option HeldState
state_of loan = loan.handle.inside.state

-- the share of the loan's lifetime: while a call holds it, the loan can't end
abbrev pub lasts : Loan → Fml
lasts loan = flft loan.until loan.share

-- the handle at the pointer is lent, and the loan doesn't end during the call
abbrev pub is_lent : Ptr → Loan → Fml
is_lent at loan = fsep (lasts loan) (lent_at the_row at loan.handle loan.until)

-- two handles are lent, each by a loan of its own
abbrev pub are_lent : Ptr → Ptr → Loan × Loan → Fml
are_lent at beside loans = fsep (is_lent at loans.0) (is_lent beside loans.1)

abbrev pub both_last : Loan × Loan → Fml
both_last loans = fsep (lasts loans.0) (lasts loans.1)
