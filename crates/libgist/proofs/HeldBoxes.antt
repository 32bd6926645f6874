-- A pointer with the parts of a box owns what a box of the same types owns.
use mir.Syntax.{impl, tnil, dnil}
use mathlib.Core.List.{[]}
use denote.Signature.{Slot, plain}
use Rattle.std.proofs.BoxSteps.Form.{Bx}
use Rattle.std.specs.contracts.alloc.Global as Heap
use Rattle.std.specs.contracts.impls.GlobalAllocator.TheImpl.{ghosts, dict}
use Rattle.std.proofs.alloc.Global.TheLaws as heap
use Rattle.libgist.specs.contracts.held.Held as Inside
use Rattle.libgist.proofs.held.Held.TheLaws as inside
use Rattle.libgist.specs.contracts.parts.Parts as Parts
use Rattle.libgist.specs.contracts.inside.Inside as Pointer

abbrev pub E : Bx
E = record { row = Inside.the_row; laws = inside.the_row_laws; al = record { row = Heap.the_row; laws = heap.the_row_laws; g = ghosts; d = dict; drops = impl [] tnil dnil } }

abbrev pub FromParts : Slot 0
FromParts = plain (λ _. Parts.the_row Inside.the_row Heap.the_row ghosts)

abbrev pub FromInside : Slot 0
FromInside = plain (λ _. Pointer.the_row)
