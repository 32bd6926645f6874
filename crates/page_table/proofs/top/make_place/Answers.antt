use Rattle.std.proofs.Common.{ap, ◌∙◌, subst, sym, length}
use Rattle.page_table.specs.Chunks.{IsFull1024, pages_of_1024}
use Rattle.page_table.proofs.Tables.{stays_longer}
use Rattle.page_table.proofs.top.make_place.Goals as goal

pub returns-in_ok-push-clause-stays : goal.returns-in_ok-push-clause-stays
returns-in_ok-push-clause-stays g c =
    let same = c.in_ok-share.ensures in
    stays_longer c.requires.places (subst IsFull1024 (sym same) c.requires.whole) (ap (λ x. length (pages_of_1024 x)) same ∙ c.requires.size) c.in_ok-push.ensures.items
