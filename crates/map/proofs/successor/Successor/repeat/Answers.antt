use Rattle.std.proofs.Common.{◌-◌, sym, ap, ◌∙◌}
use Rattle.std.specs.Prelude.{slice_get}
use Rattle.map.proofs.Succeeding.{may_repeat, repeated_or_not}
use Rattle.map.proofs.successor.Successor.repeat.Goals as goal

pub make-requires : goal.make-requires
make-requires g c =
    let s = c.args.self.now in
    let map = c.args.present.now in
    let at = ap (λ n. slice_get map.changes n) (ap (λ n. n - map.oldest) (sym c.revision.ensures.is) ∙ ap (λ n. c.revision.result - n) (sym c.oldest.ensures.is)) ∙ sym c.change.ensures ∙ c.in-Some.is in
    may_repeat map s.roll s.generation c.requires.is c.offer-offer.ensures.ahead c.requires.over c.in-Some.change at c.oldest.ensures.real

pub returns : goal.returns
returns g c =
    let s = c.args.self.now in
    let map = c.args.present.now in
    let at = ap (λ n. slice_get map.changes n) (ap (λ n. n - map.oldest) (sym c.revision.ensures.is) ∙ ap (λ n. c.revision.result - n) (sym c.oldest.ensures.is)) ∙ sym c.change.ensures ∙ c.in-Some.is in
    repeated_or_not map s.roll s.generation c.requires.is c.offer-offer.ensures.ahead c.requires.over c.in-Some.change at c.make.new.self c.make.result c.make.ensures.ok c.make.ensures.err
