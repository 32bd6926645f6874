use Rattle.std.proofs.Common.{◌≡◌, ap, arith, subst, sym}
use Rattle.std.specs.FinMap as map
use Rattle.ids.specs.Numbers.{IsWithinFew, numbers_of}
use Rattle.ids.proofs.OneMap.{len_at_most}
use Rattle.ids.proofs.ids.Ids.into_remains.Goals as goal

pub returns-in-Few-clause-many : goal.returns-in-Few-clause-many
returns-in-Few-clause-many c = λ many.
    let within = subst IsWithinFew c.in-Few.is c.self.invariant in
    let few : map.len c.args.self ≡ map.len (numbers_of c.self.inside.numbers) = ap map.len (sym c.self.view_is) in
    let one = ap (λ numbers. map.len (numbers_of numbers)) c.in-Few.is in
    absurd (omega (arith, many, within, few, one, len_at_most c.in-Few.few.entries))
