use Rattle.std.proofs.Common.{◌∙◌, sym, ap}
use Rattle.std.specs.FinMap as map
use Rattle.ids.specs.Numbers.{numbers_of}
use Rattle.ids.proofs.OneMap.{one_found}
use Rattle.ids.proofs.ids.Ids.get.Goals as goal

pub returns-in-Few : goal.returns-in-Few
returns-in-Few c =
    c.copied.ensures ∙ c.get.ensures.value ∙ one_found c.in-Few.few c.args.id
    ∙ ap (λ numbers. map.get (numbers_of numbers) c.args.id) (sym c.in-Few.is) ∙ ap (λ numbers. map.get numbers c.args.id) c.self.view_is
