use Rattle.std.proofs.Common.{refl, subst, sym}
use Rattle.page_table.specs.Chunks.{IsFull1024, IsFull16, IsPage, alone, pages_of_16}
use Rattle.page_table.proofs.Tables.{filled_length, filled_places}
use Rattle.page_table.proofs.top.filler.Goals as goal

pub returns-clause-full : goal.returns-clause-full
returns-clause-full g c =
    let lower : IsFull16 c.in_ok-lower_places.field-0 = filled_places alone IsPage 1 c.in_ok-lower_places.ensures.length c.in_ok-lower_places.ensures.each tt refl in
    let pages : IsFull16 c.in_ok-pages.pages = subst IsFull16 (sym c.in_ok-pages.ensures) (subst IsFull16 (sym c.new-2.ensures) lower) in
    let upper : IsFull1024 c.in_ok-upper_places.field-0 = filled_places pages_of_16 IsFull16 16 c.in_ok-upper_places.ensures.length c.in_ok-upper_places.ensures.each pages (filled_length pages) in
    subst IsFull1024 (sym c.in_ok-new.ensures) (subst IsFull1024 (sym c.new-chunks.ensures) upper)

pub returns-clause-size : goal.returns-clause-size
returns-clause-size g c = filled_length (returns-clause-full g c)
