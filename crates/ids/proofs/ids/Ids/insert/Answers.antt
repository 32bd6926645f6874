use Rattle.std.proofs.Common.{◌≡◌, ◌∙◌, ℕ, false, Result, Ok, Err, refl, sym, ap}
use Rattle.std.specs.Prelude.{Option, Some, None, OnErr, is_some, nat_eq}
use Rattle.std.specs.FinMap as map
use Rattle.std.specs.HashMap.{get}
use Rattle.ids.specs.Numbers.{numbers_of}
use Rattle.ids.proofs.OneMap.{one_found, one_inserted}
use Rattle.ids.proofs.ids.Ids.insert.Goals as goal

on_err : {T E P : Type 0} (result : Result T E) → P → OnErr result P
on_err (Ok _) p = tt
on_err (Err _) p = p

not_some : (number : Option ℕ) → is_some number ≡ false → number ≡ None
not_some None e = refl
not_some (Some _) e = cc

pub returns-in_err-insert-in-Few-clause-absent : goal.returns-in_err-insert-in-Few-clause-absent
returns-in_err-insert-in-Few-clause-absent c =
    on_err c.from_residual.result
    (ap (λ numbers. map.get numbers c.args.id) (sym c.self.view_is) ∙ ap (λ numbers. map.get (numbers_of numbers) c.args.id) c.in-Few.is
    ∙ sym (one_found c.in-Few.few c.args.id) ∙ c.in_err-insert-in-Few.ensures.absent)

pub returns-in_err-shards-in-Few-clause-absent : goal.returns-in_err-shards-in-Few-clause-absent
returns-in_err-shards-in-Few-clause-absent c =
    on_err c.from_residual-in_err-shards-in-Few.result
    (ap (λ numbers. map.get numbers c.args.id) (sym c.self.view_is) ∙ ap (λ numbers. map.get (numbers_of numbers) c.args.id) c.in-Few.is
    ∙ sym (one_found c.in-Few.few c.args.id) ∙ not_some (get nat_eq c.in-Few.few c.args.id) (sym c.contains_key.ensures ∙ c.if-contains_key.false))

pub returns-then-len-lt-FEW-clause-former : goal.returns-then-len-lt-FEW-clause-former
returns-then-len-lt-FEW-clause-former c =
    c.in_ok-insert-in-Few.ensures.old ∙ one_found c.in-Few.few c.args.id
    ∙ ap (λ numbers. map.get (numbers_of numbers) c.args.id) (sym c.in-Few.is) ∙ ap (λ numbers. map.get numbers c.args.id) c.self.view_is

pub returns-then-len-lt-FEW-clause-ok : goal.returns-then-len-lt-FEW-clause-ok
returns-then-len-lt-FEW-clause-ok c =
    one_inserted c.in-Few.few c.insert.new.self c.args.id c.args.number c.in_ok-insert-in-Few.ensures.updates
    ∙ ap (λ numbers. map.insert (numbers_of numbers) c.args.id c.args.number) (sym c.in-Few.is)
    ∙ ap (λ numbers. map.insert numbers c.args.id c.args.number) c.self.view_is
