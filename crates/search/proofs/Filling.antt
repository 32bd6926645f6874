-- How the places of a slice are filled, one after the other.
use Rattle.std.proofs.Common.{◌≡◌, ℕ, suc, ◌^◌, ◌<◌, ◌≤◌, List, [], ◌∷◌, ◌++◌, length, map, take, drop, set, ap, ap₂, refl, sym, ◌∙◌, arith, length-append, length-drop}
use Rattle.std.proofs.lemmas.List.{drop_all, length-take, take-append-le, take_all}
use Rattle.change_list.specs.declared.item.Row.{Row}
use Rattle.page_table.specs.Weights.{Same}
use Rattle.search.proofs.Sizes.{same_length}
use Rattle.search.specs.Fills.{fills, written_over}
use Rattle.search.specs.Sinks.{TakesAll}
use Rattle.search.specs.declared.slots.Slots.{Slots}

module _ {X : Type 0} where
  -- a buffer keeps its length
  pub length_written : (items buffer : List X) → length (written_over items buffer) ≡ length buffer
  length_written items buffer = omega (arith, length-append (take (length buffer) items) (drop (length items) buffer), length-take (length buffer) items, length-drop (length items) buffer)

  push_next : (items buffer : List X) (x : X) → length items < length buffer → set (items ++ drop (length items) buffer) (length items) x ≡ (items ++ x ∷ []) ++ drop (suc (length items)) buffer
  push_next [] [] x inside = absurd (omega (arith, inside))
  push_next [] (b ∷ buffer) x inside = refl
  push_next (a ∷ items) [] x inside = absurd (omega (arith, inside))
  push_next (a ∷ items) (b ∷ buffer) x inside = ap (λ (rest : List X). a ∷ rest) (push_next items buffer x (omega (arith, inside)))

  longer : (items : List X) (x : X) → length (items ++ x ∷ []) ≡ suc (length items)
  longer items x = omega (arith, length-append items (x ∷ []))

  -- one more, in the next place
  pub written_next : (items buffer : List X) (x : X) → length items < length buffer → set (written_over items buffer) (length items) x ≡ written_over (items ++ x ∷ []) buffer
  written_next items buffer x inside =
      ap (λ l. set (l ++ drop (length items) buffer) (length items) x) (take_all (length buffer) items (omega (arith, inside)))
      ∙ push_next items buffer x inside
      ∙ ap₂ (λ l n. l ++ drop n buffer) (sym (take_all (length buffer) (items ++ x ∷ []) (omega (arith, inside, longer items x)))) (sym (longer items x))

  -- where all places are filled, one more changes nothing
  pub written_full : (items buffer : List X) (x : X) → length buffer ≤ length items → written_over items buffer ≡ written_over (items ++ x ∷ []) buffer
  written_full items buffer x full =
      ap₂ (λ l m. l ++ m) (sym (take-append-le (length buffer) items (x ∷ []) full))
      (drop_all (length items) buffer full ∙ sym (drop_all (length (items ++ x ∷ [])) buffer (omega (arith, full, longer items x))))

-- nothing stands over nothing
none_over : {X : Type 0} (xs : List X) → xs ≡ written_over [] xs
none_over [] = refl
none_over (x ∷ xs) = refl

-- a slice that took all of some rows, from its first place on: they stand there in their form, and are counted
pub record FilledBy {K T : Type 0} (form_of : Row K → T) (all : List (Row K)) (old new : List T) (count : ℕ) : Type 0 where
  pub given : List (Row K)
  pub same : Same given all
  pub is : new ≡ written_over (map form_of given) old
  pub counted : count ≡ length all

pub filled_by : {K T F : Type 0} (form_of : Row K → T) (all : List (Row K)) (buffer : List T) (old new : Slots T F) → old.places.now ≡ buffer → old.filled ≡ 0 → old.found ≡ 0
    → new.found < 2 ^ 64 → length all < 2 ^ 64 → TakesAll (fills form_of) all old new → FilledBy form_of all buffer new.places.now new.found
filled_by form_of all buffer old new places filled found within few taken =
    let has = taken.taken.more buffer [] (record { written = places ∙ none_over buffer; filled = omega (arith, filled); found = omega (arith, found) }) in record {
      given = taken.given;
      same = taken.all;
      is = has.written;
      counted = omega (arith, has.found, within, same_length taken.given all taken.all, few);
    }
