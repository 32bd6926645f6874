use Rattle.std.proofs.Common.{arith, ◌≡◌, ◌+◌, ◌%◌, ◌^◌, ◌<◌, ◌≤◌, ◌++◌, ◌∷◌, [], List, length, map, set, length-append, sym, ap, ◌∙◌}
use Rattle.std.proofs.lemmas.List.{length-map, map-append}
use Rattle.change_list.specs.declared.item.Row.{Row}
use Rattle.search.specs.Fills.{HasTaken, written_over}
use Rattle.search.specs.declared.slots.Slots.{Slots}
use Rattle.search.proofs.Filling.{length_written, written_full, written_next}
use Rattle.search.proofs.slots.SlotsRowSink.take.Goals.{then-self, else-self}
use Rattle.search.proofs.slots.SlotsRowSink.take.Goals as goal

module _ {K T F : Type 0} (form_of : Row K → T) (buffer : List T) (before : List (Row K)) (row : Row K) (old new : Slots T F) (has : HasTaken form_of buffer before old) where
  abbrev shown : List T
  shown = map form_of before

  as_many : length shown ≡ length before
  as_many = length-map before form_of

  places : length old.places.now ≡ length buffer
  places = ap length has.written ∙ length_written shown buffer

  counted : new.found ≡ (old.found + 1) % 2 ^ 64 → new.found % 2 ^ 64 ≡ length (before ++ row ∷ []) % 2 ^ 64
  counted is = omega (arith, is, has.found, length-append before (row ∷ []))

  one_more : written_over (shown ++ form_of row ∷ []) buffer ≡ written_over (map form_of (before ++ row ∷ [])) buffer
  one_more = ap (λ l. written_over l buffer) (sym (map-append form_of before (row ∷ [])))

  placed : old.filled < length old.places.now → new.places.now ≡ set old.places.now old.filled (form_of row) → new.filled ≡ old.filled + 1 → new.found ≡ (old.found + 1) % 2 ^ 64 → HasTaken form_of buffer (before ++ row ∷ []) new
  placed inside rows filled found =
      let few : length shown < length buffer = omega (arith, inside, places, has.filled, as_many) in
      let at : old.filled ≡ length shown = omega (arith, has.filled, few, as_many) in record {
        written = rows ∙ ap (λ n. set old.places.now n (form_of row)) at ∙ ap (λ l. set l (length shown) (form_of row)) has.written ∙ written_next shown buffer (form_of row) few ∙ one_more;
        filled = omega (arith, filled, at, few, as_many, length-append before (row ∷ []));
        found = counted found;
      }

  passed : length old.places.now ≤ old.filled → new.places.now ≡ old.places.now → new.filled ≡ old.filled → new.found ≡ (old.found + 1) % 2 ^ 64 → HasTaken form_of buffer (before ++ row ∷ []) new
  passed full rows filled found =
      let many : length buffer ≤ length shown = omega (arith, full, places, has.filled, as_many) in record {
        written = rows ∙ has.written ∙ written_full shown buffer (form_of row) many ∙ one_more;
        filled = omega (arith, filled, has.filled, many, as_many, length-append before (row ∷ []));
        found = counted found;
      }

pub returns-clause-all : goal.returns-clause-all
returns-clause-all g c =
    let form_of = g.F.RowForm.form_of in
    let old = c.args.self.now in
    let mid = c.if-self.self in
    let new : Slots g.row.T.Denot g.row.F.Denot = record { places = mid.places; filled = mid.filled; found = (mid.found + 1) % 2 ^ 64; form = mid.form } in
    elim c.if-self.branch [
      | then-self w ↦ record {
        same = ap (λ s. s.places.ghost_name) w.self-is;
        more = λ buffer before has. placed form_of buffer before c.args.row old new has w.if-self.true (ap (λ s. s.places.now) w.self-is ∙ ap (λ t. set old.places.now old.filled t) w.form.ensures) (ap (λ s. s.filled) w.self-is) (ap (λ s. (s.found + 1) % 2 ^ 64) w.self-is);
      }
      | else-self w ↦ record {
        same = ap (λ s. s.places.ghost_name) w.self-is;
        more = λ buffer before has. passed form_of buffer before c.args.row old new has w.if-self.false (ap (λ s. s.places.now) w.self-is) (ap (λ s. s.filled) w.self-is) (ap (λ s. (s.found + 1) % 2 ^ 64) w.self-is);
      }
    ]
