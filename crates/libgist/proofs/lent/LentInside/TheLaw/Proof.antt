-- A reference to what is lent is made from one to its value, or from nothing if there is no value.
use Rattle.std.specs.Prelude.{Option, Some, None}
use base.Fml.{ftrue}
use seplogic.Ra.Ura.{Ura}
use types.Logic.{Logic}
use denote.RawPtr.{Ptr}
use denote.Sharing.{ShrLaws}
use denote.SharingLaws.{nothing_shr_laws}
use denote.Param.Shared.{copy_shared}
use denote.Struct.Field.{RawPtr-field}
use denote.Struct.Laws.{RawPtr-copy}
use denote.Struct.Lending.{Lends, lent_at_shr_laws, Lends-lies, Lends-nothing, of_Lends}
use Rattle.std.specs.contracts.alloc.Global as Heap
use Rattle.std.proofs.alloc.Global.TheLaws as heap
use Rattle.libgist.specs.contracts.held.Held.{the_row}
use Rattle.libgist.proofs.held.Held.TheLaws.{the_row_laws}
use Rattle.libgist.specs.Owning.{HeldState, lent, shown_at}
use Rattle.libgist.specs.contracts.lent.LentInside as C
use Rattle.libgist.proofs.lent.LentInside.TheLaw.Statement.{statement}

shown_laws : (at : Ptr) (state : Option HeldState) → ShrLaws (shown_at at state)
shown_laws at None = nothing_shr_laws
shown_laws at (Some state) = lent_at_shr_laws the_row (the_row_laws).shr_laws at state

lends : {M : Type 1} {𝓤 : Ura M} (𝓛 : Logic 𝓤) (at : Ptr) (state : Option HeldState) → Lends 𝓛 (lent at state) (shown_at at state) (C.the_row).lives
lends 𝓛 at None = Lends-nothing 𝓛 ftrue (C.the_row).lives
lends 𝓛 at (Some state) = Lends-lies 𝓛 the_row (C.the_row).lives at state ((the_row_laws).shares 𝓛 state)

pub shares : statement
shares = of_Lends C.struct (C.the_codes (Heap.the_row).coded) C.the_heap C.the_lent (λ d p. shown_laws d.at d.state) (copy_shared RawPtr-field RawPtr-copy, (heap.the_field_shared, tt))
    (λ M 𝓤 𝓛 d p. lends 𝓛 d.at d.state)
