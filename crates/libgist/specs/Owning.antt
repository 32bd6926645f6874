-- What a handle owns.
use base.Fraction.{full_share}
use base.Fml.{Lft, Fml, ftrue}
use base.Stored.{Coded}
use denote.RawPtr.{Ptr, lies_at}
use denote.Struct.Lending.{lent_at}
use Rattle.std.specs.Prelude.{Bool, true, false, Option, Some, None}
use Rattle.std.specs.Box.Ownership.{box_owns}
use Rattle.std.specs.Global.{Global}
use Rattle.std.specs.contracts.impls.GlobalAllocator.TheImpl.{ghosts}
use Rattle.libgist.specs.contracts.held.Held.{the_row}

-- the state of what a handle owns
abbrev pub HeldState : Type 0
HeldState = the_row.Denot

abbrev pub held_coded : Coded HeldState
held_coded = the_row.coded

-- a handle's block with the right to free it, or nothing
abbrev pub owned : Global → Ptr → Option HeldState → Fml
owned alloc at None = ftrue
owned alloc at (Some state) = box_owns (ghosts.dealloc_token alloc) the_row at state

-- a handle's block without the right to free it, or nothing
abbrev pub lent : Ptr → Option HeldState → Fml
lent at None = ftrue
lent at (Some state) = lies_at the_row full_share at state

-- what may be read of it while it is lent
abbrev pub shown_at : Ptr → Option HeldState → Lft → Fml
shown_at at None κ = ftrue
shown_at at (Some state) κ = lent_at the_row at state κ

-- whether there is something in a handle
abbrev pub is_held : {X : Type 0} → Option X → Bool
is_held None = false
is_held (Some state) = true
