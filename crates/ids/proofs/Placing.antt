-- The numbers in all shards, before and after one of them changes.
use Rattle.std.proofs.Common.{◌≡◌, ◌≢◌, ◌∙◌, ℕ, zero, suc, ◌<◌, true, false, cond, List, [], ◌∷◌, ◌++◌, length, get_or, set, ⊎_elim, refl, subst, sym, ap, arith}
use Rattle.std.proofs.lemmas.Bool.Decides.{eqb_tells}
use Rattle.std.proofs.lemmas.List.{length-set}
use Rattle.std.proofs.lemmas.Option.{same_Some, slice_get-get_or, slice_get_read, slice_get_within}
use Rattle.std.specs.Prelude.{Option, Some, None, nat_eq, flat_map, slice_get}
use Rattle.std.specs.Cmp.{nat_cmp_total}
use Rattle.std.specs.FinMap.{FinMap, find, from_entries, get-from_entries, nat_cmp-IsAntisymmetric, same_map}
use Rattle.std.specs.FinMap as map
use Rattle.std.specs.HashMap.{get}
use Rattle.std.specs.Map.{lookup}
use Rattle.std.specs.Option.{option_or}
use Rattle.std.specs.Ordering.{eq_by_cmp, nat_cmp}
use Rattle.ids.specs.declared.shards.TheConstants.{SHARDS}
use Rattle.ids.specs.Shards.{ArePlaced, Shard, number_at, numbers_in, shard_of}
use Rattle.ids.proofs.Numbers.{find-lookup, number-inserted, number-removed}

find-append : (id : ℕ) (es fs : List (ℕ × ℕ)) → find nat_cmp id (es ++ fs) ≡ option_or (find nat_cmp id es) (find nat_cmp id fs)
find-append id [] fs = refl
find-append id (e ∷ es) fs =
    elim (eq_by_cmp nat_cmp id e.0) as (λ b. cond b (Some e.1) (find nat_cmp id (es ++ fs)) ≡ option_or (cond b (Some e.1) (find nat_cmp id es)) (find nat_cmp id fs)) [
      | true ↦ refl
      | false ↦ find-append id es fs
    ]

or_none : {X : Type 0} (o : Option X) → option_or o None ≡ o
or_none None = refl
or_none (Some x) = refl

abbrev entries_in : List Shard → List (ℕ × ℕ)
entries_in shards = flat_map (λ shard. shard.entries) shards

-- an id that has a number in no shard
find_nowhere : (id : ℕ) (shards : List Shard) → ((place : ℕ) → number_at shards place id ≡ None) → find nat_cmp id (entries_in shards) ≡ None
find_nowhere id [] none = refl
find_nowhere id (shard ∷ shards) none =
    find-append id shard.entries (entries_in shards)
    ∙ rw (find-lookup id shard.entries, none zero) (find_nowhere id shards (λ place. none (suc place)))

-- an id that has a number in no other shard than its own
find_at : (id : ℕ) (shards : List Shard) (own : ℕ) → ((place : ℕ) → own ≢ place → number_at shards place id ≡ None) → find nat_cmp id (entries_in shards) ≡ number_at shards own id
find_at id [] own none = refl
find_at id (shard ∷ shards) zero none =
    find-append id shard.entries (entries_in shards)
    ∙ rw (find_nowhere id shards (λ place. none (suc place) (λ e. omega (arith, e)))) (or_none _ ∙ find-lookup id shard.entries)
find_at id (shard ∷ shards) (suc own) none =
    find-append id shard.entries (entries_in shards)
    ∙ rw (find-lookup id shard.entries, none zero (λ e. omega (arith, e))) (find_at id shards own (λ place apart. none (suc place) (λ e. apart (omega (arith, e)))))

get-numbers_in : (shards : List Shard) → ArePlaced shards → (id : ℕ) → map.get (numbers_in shards) id ≡ number_at shards (shard_of id) id
get-numbers_in shards placed id =
    get-from_entries nat_cmp_total (entries_in shards) id ∙ find_at id shards (shard_of id) (λ place. placed.apart place id)

no_entries : (es fs : List (ℕ × ℕ)) → es ++ fs ≡ [] → (es ≡ []) × (fs ≡ [])
no_entries [] fs none = (refl, none)
no_entries (e ∷ es) fs none = cc

nowhere : (shards : List Shard) → entries_in shards ≡ [] → (place id : ℕ) → number_at shards place id ≡ None
nowhere [] none place id = refl
nowhere (shard ∷ shards) none zero id = ap (lookup (nat_eq id)) (no_entries shard.entries (entries_in shards) none).0
nowhere (shard ∷ shards) none (suc place) id = nowhere shards (no_entries shard.entries (entries_in shards) none).1 place id

pub empty_placed : (shards : List Shard) → length shards ≡ SHARDS → flat_map (λ shard. shard.entries) shards ≡ [] → ArePlaced shards
empty_placed shards count none = record { count = count; apart = λ place id apart. nowhere shards none place id }

number_at-set_same : (shards : List Shard) (own : ℕ) (new : Shard) (id : ℕ) → own < length shards → number_at (set shards own new) own id ≡ get nat_eq new id
number_at-set_same [] own new id l = absurd (omega (arith, l))
number_at-set_same (shard ∷ shards) zero new id l = refl
number_at-set_same (shard ∷ shards) (suc own) new id l = number_at-set_same shards own new id (omega (arith, l))

number_at-set_other : (shards : List Shard) (own place : ℕ) (new : Shard) (id : ℕ) → own ≢ place → number_at (set shards own new) place id ≡ number_at shards place id
number_at-set_other [] own place new id apart = refl
number_at-set_other (shard ∷ shards) zero zero new id apart = absurd (apart refl)
number_at-set_other (shard ∷ shards) zero (suc place) new id apart = refl
number_at-set_other (shard ∷ shards) (suc own) zero new id apart = refl
number_at-set_other (shard ∷ shards) (suc own) (suc place) new id apart = number_at-set_other shards own place new id (λ e. apart (ap suc e))

entries_in-set : (shards : List Shard) (own : ℕ) (old new : Shard) → slice_get shards own ≡ Some old → new.entries ≡ old.entries → entries_in (set shards own new) ≡ entries_in shards
entries_in-set [] own old new at same = refl
entries_in-set (shard ∷ shards) zero old new at same = ap (λ entries. entries ++ entries_in shards) (same ∙ ap (λ s. s.entries) (sym (same_Some shard old at)))
entries_in-set (shard ∷ shards) (suc own) old new at same = ap (λ entries. shard.entries ++ entries) (entries_in-set shards own old new at same)

-- the shard of an id was one map and is another, in which the other ids have the numbers that they had
pub record Changes (shards : List Shard) (own : ℕ) (old new : Shard) (id : ℕ) : Type 0 where
  pub placed : ArePlaced shards
  pub is_own : own ≡ shard_of id
  pub within : own < SHARDS
  pub read : old ≡ get_or shards own old
  pub others : (other : ℕ) → nat_eq id other ≡ false → get nat_eq new other ≡ get nat_eq old other

module _ (shards : List Shard) (own : ℕ) (old new : Shard) (id : ℕ) (c : Changes shards own old new id) where
  at : slice_get shards own ≡ Some old
  at = slice_get_read shards _ own old refl (omega (arith, c.placed.count, c.within)) c.read

  in_old : (other : ℕ) → number_at shards own other ≡ get nat_eq old other
  in_old other = rw at refl

  in_new : (other : ℕ) → number_at (set shards own new) own other ≡ get nat_eq new other
  in_new other = number_at-set_same shards own new other (slice_get_within shards own old at)

  differs : (other : ℕ) → own ≢ shard_of other → nat_eq id other ≡ false
  differs other apart = ⊎_elim (λ (told, same). absurd (apart (c.is_own ∙ ap shard_of same))) (λ (told, differs). told) (eqb_tells id other)

  ArePlaced-set : ArePlaced (set shards own new)
  ArePlaced-set = record {
    count = length-set shards own new ∙ c.placed.count;
    apart = λ place other apart.
        ⊎_elim
        (λ (told, here).
        ap (λ p. number_at (set shards own new) p other) (sym here) ∙ in_new other
        ∙ c.others other (differs other (λ e. apart (sym e ∙ here)))
        ∙ sym (in_old other) ∙ ap (λ p. number_at shards p other) here ∙ c.placed.apart place other apart)
        (λ (told, elsewhere). number_at-set_other shards own place new other elsewhere ∙ c.placed.apart place other apart)
        (eqb_tells own place);
  }

  in_own : (other : ℕ) → number_at (set shards own new) own other ≡ cond (nat_eq id other) (get nat_eq new id) (number_at shards own other)
  in_own other =
      in_new other
      ∙ ⊎_elim
      (λ (told, same). rw told (ap (get nat_eq new) (sym same)))
      (λ (told, differs). rw told (c.others other told ∙ sym (in_old other)))
      (eqb_tells id other)

  in_shards : (other : ℕ) → number_at (set shards own new) (shard_of other) other ≡ cond (nat_eq id other) (get nat_eq new id) (number_at shards (shard_of other) other)
  in_shards other =
      ⊎_elim
      (λ (told, here). subst (λ p. number_at (set shards own new) p other ≡ cond (nat_eq id other) (get nat_eq new id) (number_at shards p other)) here (in_own other))
      (λ (told, elsewhere). number_at-set_other shards own (shard_of other) new other elsewhere ∙ rw (differs other elsewhere) refl)
      (eqb_tells own (shard_of other))

  numbers_in-set : (numbers : FinMap nat_cmp ℕ) → ((other : ℕ) → map.get numbers other ≡ cond (nat_eq id other) (get nat_eq new id) (map.get (numbers_in shards) other)) → numbers_in (set shards own new) ≡ numbers
  numbers_in-set numbers same =
      same_map nat_cmp_total nat_cmp-IsAntisymmetric _ _
      (λ other. get-numbers_in (set shards own new) ArePlaced-set other ∙ in_shards other ∙ sym (same other ∙ rw (get-numbers_in shards c.placed other) refl))

  numbers_in-inserted : (number : ℕ) → get nat_eq new id ≡ Some number → numbers_in (set shards own new) ≡ map.insert (numbers_in shards) id number
  numbers_in-inserted number now =
      numbers_in-set (map.insert (numbers_in shards) id number) (λ other. rw now (number-inserted (numbers_in shards) id number other))

  numbers_in-removed : get nat_eq new id ≡ None → numbers_in (set shards own new) ≡ map.remove (numbers_in shards) id
  numbers_in-removed now =
      numbers_in-set (map.remove (numbers_in shards) id) (λ other. rw now (number-removed (numbers_in shards) id other))

-- Lemmas for `grind`, which finds a lemma's variables in the first call of its conclusion that has them all: first the
-- place and the former map, then the map that is there now, then the id.
pub found : (shards : List Shard) (own id : ℕ) (d : Shard) → ArePlaced shards → own ≡ shard_of id → own < SHARDS → get nat_eq (get_or shards own d) id ≡ map.get (numbers_in shards) id
found shards own id d placed is_own within =
    let in_own : number_at shards own id ≡ get nat_eq (get_or shards own d) id = rw (slice_get-get_or shards own d (omega (arith, placed.count, within))) refl in
    sym in_own ∙ ap (λ place. number_at shards place id) is_own ∙ sym (get-numbers_in shards placed id)

module _ (shards : List Shard) (own : ℕ) (old : Shard) where
  pub placed : (get_or shards own old ≡ get_or shards own old) × ((new : Shard) → (set shards own new ≡ set shards own new)
      × ((id : ℕ) → (get nat_eq old id ≡ get nat_eq old id) × (Changes shards own old new id → ArePlaced (set shards own new))))
  placed = (refl, λ new. (refl, λ id. (refl, ArePlaced-set shards own old new id)))

  pub inserted : (get_or shards own old ≡ get_or shards own old) × ((new : Shard) → (set shards own new ≡ set shards own new)
      × ((id number : ℕ) → Changes shards own old new id → get nat_eq new id ≡ Some number → map.insert (numbers_in shards) id number ≡ numbers_in (set shards own new)))
  inserted = (refl, λ new. (refl, λ id number c now. sym (numbers_in-inserted shards own old new id c number now)))

  pub removed : (get_or shards own old ≡ get_or shards own old) × ((new : Shard) → (set shards own new ≡ set shards own new)
      × ((id : ℕ) → Changes shards own old new id → get nat_eq new id ≡ None → map.remove (numbers_in shards) id ≡ numbers_in (set shards own new)))
  removed = (refl, λ new. (refl, λ id c now. sym (numbers_in-removed shards own old new id c now)))

  pub unchanged : (get_or shards own old ≡ get_or shards own old) × ((new : Shard) → (set shards own new ≡ set shards own new)
      × (own < length shards → old ≡ get_or shards own old → new.entries ≡ old.entries → numbers_in (set shards own new) ≡ numbers_in shards))
  unchanged = (refl, λ new. (refl, λ within read same. ap from_entries (entries_in-set shards own old new (slice_get_read shards _ own old refl within read) same)))
