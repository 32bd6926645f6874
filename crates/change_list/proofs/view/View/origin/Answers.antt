use Rattle.std.proofs.Common.{sym, ap, ◌∙◌, subst}
use Rattle.change_list.specs.Changes.{commit_at}
use Rattle.change_list.specs.Records.{HasTagOf, IsKeptAt}
use Rattle.change_list.proofs.Keeping.{live_origin, live_is_kept}
use Rattle.change_list.proofs.view.View.origin.Goals as goal

pub returns-in-Some : goal.returns-in-Some
returns-in-Some g c =
    subst (λ n. HasTagOf c.args.self.now c.args.row n) (sym c.origin.ensures)
    (live_origin c.args.self.now c.args.row c.requires c.in-Some.kept (subst (λ n. IsKeptAt c.args.self.now n c.in-Some.kept) c.from.ensures c.in-Some.ensures))

pub returns-in-None : goal.returns-in-None
returns-in-None g c = absurd (live_is_kept c.args.self.now c.args.row c.requires (ap (commit_at c.args.self.now) (sym c.from.ensures) ∙ c.in-None.ensures))
