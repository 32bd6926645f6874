use Rattle.std.proofs.Common.{◌∙◌, sym, ap}
use Rattle.std.specs.FinMap as map
use Rattle.ids.specs.Numbers.{numbers_of}
use Rattle.ids.proofs.OneMap.{one_found, one_removed}
use Rattle.ids.proofs.ids.Ids.remove.Goals as goal
use Rattle.ids.proofs.ids.Ids.remove.Goals.{in-Few, in-Many}

pub returns-clause-former : goal.returns-clause-former
returns-clause-former c =
    let old = c.self.inside.numbers in
    elim c.match-self.branch [
      | in-Few w ↦ w.result-is ∙ w.remove.ensures.value ∙ one_found w.in-Few.few c.args.id
          ∙ ap (λ numbers. map.get (numbers_of numbers) c.args.id) (sym w.in-Few.is) ∙ ap (λ numbers. map.get numbers c.args.id) c.self.view_is
      | in-Many w ↦ w.result-is ∙ w.remove-in-Many.ensures.former
          ∙ ap (λ numbers. map.get (numbers_of numbers) c.args.id) (sym w.in-Many.is) ∙ ap (λ numbers. map.get numbers c.args.id) c.self.view_is
    ]

pub returns-clause-removed : goal.returns-clause-removed
returns-clause-removed c =
    elim c.match-self.branch [
      | in-Few w ↦ ap (λ s. numbers_of s.numbers) w.self-inside-is ∙ one_removed w.in-Few.few w.remove.new.self c.args.id w.remove.ensures.updates
          ∙ ap (λ numbers. map.remove (numbers_of numbers) c.args.id) (sym w.in-Few.is) ∙ ap (λ numbers. map.remove numbers c.args.id) c.self.view_is
      | in-Many w ↦ ap (λ s. numbers_of s.numbers) w.self-inside-is ∙ w.remove-in-Many.ensures.removed
          ∙ ap (λ numbers. map.remove (numbers_of numbers) c.args.id) (sym w.in-Many.is) ∙ ap (λ numbers. map.remove numbers c.args.id) c.self.view_is
    ]
