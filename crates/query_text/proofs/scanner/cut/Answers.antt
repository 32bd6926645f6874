use Rattle.std.proofs.Common.{◌≡◌, ◌+◌, ◌-◌, ◌<◌, ◌≤◌, ◌&&◌, ◌++◌, [], ◌∷◌, true, false, refl, sym, arith, rules, take_while, drop, length, length-drop, length-append, drop-drop, ◌∙◌}
use Rattle.query_text.specs.declared.lexeme.Kind.TheVariants as kind
use Rattle.query_text.specs.Scanning.{lexeme, kind_glues}
use Rattle.query_text.specs.Tokens.{starts_with_digit, is_digit, space, beginning}
use Rattle.query_text.proofs.CutLaws.{cut_more, cut_end, cut_fault, cut_glued}
use Rattle.query_text.proofs.TextLaws.{digit_begins}
use Rattle.query_text.proofs.NumberCuts.{digit_within, space_within, number_from, behind_space, behind_token}
use Rattle.query_text.proofs.scanner.cut.Goals as goal

pub returns-then-glued-clause-cut : goal.returns-then-glued-clause-cut
returns-then-glued-clause-cut c =
    let rest = drop c.cut.place c.args.text.now in
    let digit : starts_with_digit rest ≡ true = rw c.behind-rest.ensures at (sym c.if-starts_with_digit.ensures) in
    let q : c.push_reserved.new.self.items ≡ c.cut.lexemes.items ++ lexeme kind.Fault c.cut.place 0 ∷ [] = search rules in
    rw q (cut_glued c.args.text.now c.cut.lexemes.items c.cut.glued c.cut.place (1 + length (take_while is_digit (drop 1 rest))) rest kind.Number c.cut.invariant.so_far (digit_begins rest digit) (rw c.if-glued.true refl))

pub cut-preserved-then-starts_with_space : goal.cut-preserved-then-starts_with_space
cut-preserved-then-starts_with_space c =
    let text = c.args.text.now in
    let end = c.digits_end-end.result in
    let digit : starts_with_digit (drop c.cut.place text) ≡ true = rw c.behind-rest.ensures at (sym c.if-starts_with_digit.ensures) in
    let q : c.push_reserved-then-starts_with_digit.new.self.items ≡ c.cut.lexemes.items ++ lexeme kind.Number c.cut.place (end - c.cut.place) ∷ [] = search rules in
    let apart : c.cut.glued && kind_glues kind.Number ≡ false = rw c.if-glued.false refl in
    let gap : beginning (drop end text) ≡ space = rw c.behind.ensures at (c.if-starts_with_space.ensures refl) in
    let behind : c.cut.place ≤ end = omega (arith, c.digits_end-end.ensures.counts) in
    let number = behind_token text c.cut.lexemes.items c.cut.glued c.cut.place c.cut.invariant.so_far end kind.Number behind (number_from c.cut.place end text digit c.digits_end-end.ensures.counts) apart in
    record {
      within = omega (arith, space_within end text gap);
      room = rw (q, length-append) (omega (arith, space_within end text gap, c.digits_end-end.ensures.counts, c.push_reserved-then-starts_with_digit.ensures.capacity, c.cut.invariant.room));
      capacity = c.push_reserved-then-starts_with_digit.ensures.capacity ∙ c.cut.invariant.capacity;
      so_far = rw q (λ ts d. behind_space text (c.cut.lexemes.items ++ lexeme kind.Number c.cut.place (end - c.cut.place) ∷ []) true end number gap ts (rw c.if-glued.false at d));
    }

pub cut-preserved-else-starts_with_space : goal.cut-preserved-else-starts_with_space
cut-preserved-else-starts_with_space c =
    let text = c.args.text.now in
    let end = c.digits_end-end.result in
    let digit : starts_with_digit (drop c.cut.place text) ≡ true = rw c.behind-rest.ensures at (sym c.if-starts_with_digit.ensures) in
    let q : c.push_reserved-then-starts_with_digit.new.self.items ≡ c.cut.lexemes.items ++ lexeme kind.Number c.cut.place (end - c.cut.place) ∷ [] = search rules in
    let apart : c.cut.glued && kind_glues kind.Number ≡ false = rw c.if-glued.false refl in
    let behind : c.cut.place ≤ end = omega (arith, c.digits_end-end.ensures.counts) in
    record {
      within = c.digits_end-end.ensures.within;
      room = rw (q, length-append) (omega (arith, digit_within c.cut.place text digit, c.digits_end-end.ensures.counts, c.push_reserved-then-starts_with_digit.ensures.capacity, c.cut.invariant.room));
      capacity = c.push_reserved-then-starts_with_digit.ensures.capacity ∙ c.cut.invariant.capacity;
      so_far = rw q (behind_token text c.cut.lexemes.items c.cut.glued c.cut.place c.cut.invariant.so_far end kind.Number behind (number_from c.cut.place end text digit c.digits_end-end.ensures.counts) apart);
    }

pub returns-in-Nothing-clause-cut : goal.returns-in-Nothing-clause-cut
returns-in-Nothing-clause-cut c = cut_end c.args.text.now c.cut.lexemes.items c.cut.glued c.cut.place (drop c.cut.place c.args.text.now) c.cut.invariant.so_far (rw c.behind-rest.ensures at c.in-Nothing.ensures.is)

pub cut-preserved-in-Space : goal.cut-preserved-in-Space
cut-preserved-in-Space c =
    let text = c.args.text.now in
    let gap : beginning (drop c.cut.place text) ≡ space = rw c.behind-rest.ensures at c.in-Space.ensures.is in
    record {
      within = omega (arith, space_within c.cut.place text gap);
      room = omega (arith, c.cut.invariant.room);
      capacity = c.cut.invariant.capacity;
      so_far = behind_space text c.cut.lexemes.items c.cut.glued c.cut.place c.cut.invariant.so_far gap;
    }

pub returns-in-NoToken-clause-cut : goal.returns-in-NoToken-clause-cut
returns-in-NoToken-clause-cut c =
    let q : c.push_reserved-in-NoToken.new.self.items ≡ c.cut.lexemes.items ++ lexeme kind.Fault c.cut.place 0 ∷ [] = search rules in
    rw q (cut_fault c.args.text.now c.cut.lexemes.items c.cut.glued c.cut.place (drop c.cut.place c.args.text.now) c.cut.invariant.so_far (rw c.behind-rest.ensures at c.in-NoToken.ensures.is))

pub returns-then-lacks_space-clause-cut : goal.returns-then-lacks_space-clause-cut
returns-then-lacks_space-clause-cut c =
    let q : c.push_reserved-then-lacks_space.new.self.items ≡ c.cut.lexemes.items ++ lexeme kind.Fault c.cut.place 0 ∷ [] = search rules in
    rw q (cut_glued c.args.text.now c.cut.lexemes.items c.cut.glued c.cut.place c.in-Found.len (drop c.cut.place c.args.text.now) c.in-Found.kind c.cut.invariant.so_far (rw c.behind-rest.ensures at c.in-Found.ensures.is) (sym c.if-lacks_space.ensures))

pub cut-preserved : goal.cut-preserved
cut-preserved c =
    let text = c.args.text.now in
    let rest = drop c.cut.place text in
    let len = c.in-Found.len in
    let left : length rest ≡ length text - c.cut.place = length-drop c.cut.place text in
    let fits : (0 < len) × (len ≤ length rest) = rw c.behind-rest.ensures at c.in-Found.ensures.fits in
    let q : c.push_reserved-in-Found.new.self.items ≡ c.cut.lexemes.items ++ lexeme c.in-Found.kind c.cut.place len ∷ [] = search rules in
    record {
      within = omega (arith, fits.1, left, c.cut.invariant.within);
      room = rw (q, length-append) (omega (arith, fits, left, c.push_reserved-in-Found.ensures.capacity, c.cut.invariant.room));
      capacity = c.push_reserved-in-Found.ensures.capacity ∙ c.cut.invariant.capacity;
      so_far = rw q (λ ts d. cut_more text c.cut.lexemes.items c.cut.glued c.cut.place rest c.cut.invariant.so_far len c.in-Found.kind refl (rw c.behind-rest.ensures at c.in-Found.ensures.is) (sym c.if-lacks_space.ensures) ts (rw (drop-drop len c.cut.place text) (rw c.is_glued-glued.ensures at d)));
    }
