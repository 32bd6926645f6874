-- Maps that are restored from entries that C hands in.
use Rattle.std.proofs.Common.{◌≡◌, ◌↔◌, ◌+◌, ◌<◌, ◌∙◌, ℕ, List, [], ◌∷◌, ◌++◌, length, map, take, get_or, Option, Some, Ok, Err, refl, sym, ap}
use Rattle.std.proofs.lemmas.List.{map-append, take_more}
use Rattle.map.specs.declared.config.MapConfig.{MapConfig}
use Rattle.map.specs.Configs.{IsMapConfig}
use Rattle.map.specs.Kept.{KeptMap}
use Rattle.libgist.specs.declared.denied.Denied.TheVariants.{BadLimits}
use Rattle.libgist.specs.declared.held.Held.{Held}
use Rattle.libgist.specs.declared.words.KeyWords.{KeyWords}
use Rattle.libgist.specs.declared.words.ShownEntry.{ShownEntry}
use Rattle.libgist.specs.MapMaking.{IsMapOfWords, IsRestored}

module _ {X Y : Type 0} (f : X → Option Y) where
  pub one_more : (xs : List X) (i : ℕ) (other : X) (ys : List Y) (y : Y) → i < length xs → map f (take i xs) ≡ map Some ys → f (get_or xs i other) ≡ Some y → map f (take (i + 1) xs) ≡ map Some (ys ++ y ∷ [])
  one_more xs i other ys y within before is =
      ap (map f) (take_more xs i other within) ∙ map-append f (take i xs) (get_or xs i other ∷ []) ∙ ap (λ l. l ++ f (get_or xs i other) ∷ []) before ∙ ap (λ o. map Some ys ++ o ∷ []) is
      ∙ sym (map-append Some ys (y ∷ []))

-- a map that was restored is one that a handle may own
module _ {K : Type 0} (key_of : KeyWords → Option K) (words : List ShownEntry) (config : MapConfig) (revision : ℕ) (in_held : KeptMap K → Held) (kept : KeptMap K) where
  pub held_restored : IsMapOfWords key_of words config revision kept → (Ok kept ≡ Err BadLimits) ↔ (¬ IsMapConfig config) → IsRestored key_of words config revision in_held (Ok (in_held kept))
  held_restored of_words limits = record {
    ok = record { kept = kept; is = refl; of_words = of_words };
    bad_limits = (λ e. absurd (cc), λ no. let e = limits.1 no in absurd (cc));
    bad_ends = λ e. absurd (cc);
    refusals = tt;
  }
