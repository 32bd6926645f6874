use Rattle.std.proofs.Common.{◌≡◌, ◌-◌, [], refl, ◌^◌, ◌++◌, arith, rules, ap, sym, ◌∙◌, length, length-append, append_assoc}
use Rattle.std.specs.Prelude.{nat_eq}
use Rattle.query_text.specs.SetTexts.{spaced, elements_below, element_text}
use Rattle.query_text.proofs.SetLaws.{elements_short, shifted, text_ends, no_elements_of_zero}
use Rattle.query_text.proofs.sets.put_elements.Goals as goal

pub put_element-requires : goal.put_element-requires
put_element-requires c =
    record { room = omega (arith, c.requires.room, ap length c.elements.invariant, length-append (spaced (elements_below 128 c.elements.rest)) c.elements.line, length-append (spaced (elements_below 128 c.args.mask)) c.args.line.now, elements_short 128 c.args.mask (omega arith)) }

pub elements-preserved : goal.elements-preserved
elements-preserved c =
    let rest = c.elements.rest in
    let e = c.greatest-element.result in
    let greatest = c.greatest-element.ensures in
    let bit = shifted e greatest.0 in
    let line : c.put_element.new.line ≡ element_text e (nat_eq (rest - 2 ^ e) 0) ++ c.elements.line = rw bit at c.put_element.ensures in
    let ends = text_ends rest e greatest.0 greatest.1 greatest.2 (search rules) in
    rw (bit, line) (sym (append_assoc (spaced (elements_below 128 (rest - 2 ^ e))) (element_text e (nat_eq (rest - 2 ^ e) 0)) c.elements.line) ∙ ap (λ l. l ++ c.elements.line) (sym ends) ∙ c.elements.invariant)

pub returns : goal.returns
returns c =
    let end : c.elements.rest ≡ 0 = omega (arith, c.elements-test.false) in
    let none : spaced (elements_below 128 c.elements.rest) ≡ [] = rw (end, no_elements_of_zero) refl in
    rw none at c.elements.invariant
