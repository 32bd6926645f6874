-- What a slice has after it took rows.
use Rattle.std.specs.Prelude.{◌≡◌, ◌%◌, ◌^◌, List, [], ◌++◌, length, map, take, drop, min, refl}
use Rattle.std.proofs.Common.{subst, sym, ◌∙◌, append-nil, append_assoc}
use Rattle.change_list.specs.declared.item.Row.{Row}
use Rattle.search.specs.declared.row_sink.Stop.{Stop}
use Rattle.search.specs.declared.slots.Slots.{Slots}

-- items over the first places of a buffer, as many as fit
abbrev pub written_over : {X : Type 0} → List X → List X → List X
written_over items buffer = take (length buffer) items ++ drop (length items) buffer

module _ {K T F : Type 0} (form_of : Row K → T) where
  -- it took these rows in all: as many as fit stand in the slice in their form, over what it had, and all are counted
  -- modulo 2 ^ 64
  pub record HasTaken (buffer : List T) (rows : List (Row K)) (slots : Slots T F) : Type 0 where
    pub written : slots.places.now ≡ written_over (map form_of rows) buffer
    pub filled : slots.filled ≡ min (length rows) (length buffer)
    pub found : slots.found % 2 ^ 64 ≡ length rows % 2 ^ 64

  -- it took these rows after those that it took before
  pub record fills (old : Slots T F) (rows : List (Row K)) (new : Slots T F) : Type 0 where
    pub same : new.places.ghost_name ≡ old.places.ghost_name
    pub more : (buffer : List T) (before : List (Row K)) → HasTaken buffer before old → HasTaken buffer (before ++ rows) new

  pub fills_none : (s : Slots T F) → fills s [] s
  fills_none s = record { same = refl; more = λ buffer before has. subst (λ l. HasTaken buffer l s) (sym (append-nil before)) has }

  pub fills_more : (a b c : Slots T F) (xs ys : List (Row K)) → fills a xs b → fills b ys c → fills a (xs ++ ys) c
  fills_more a b c xs ys first then = record {
    same = then.same ∙ first.same;
    more = λ buffer before has. subst (λ l. HasTaken buffer l c) (append_assoc before xs ys) (then.more buffer (before ++ xs) (first.more buffer before has));
  }

-- a slice never ends a search
abbrev pub slots_never_stop : {T F : Type 0} → Slots T F → Stop → Type 0
slots_never_stop slots why = ⊥
