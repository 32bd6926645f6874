-- Numbers by id in one hash map, before and after it changes, and while its entries move into shards.
use Rattle.std.proofs.Common.{◌≡◌, ◌∙◌, ℕ, ◌+◌, ◌≤◌, Bool, true, false, cond, List, [], ◌∷◌, ◌++◌, length, refl, sym, ap, arith}
use Rattle.std.proofs.lemmas.Map.Keys.{IsDistinct-head, IsDistinct-tail}
use Rattle.std.specs.Prelude.{Some, None, nat_eq}
use Rattle.std.specs.Cmp.{nat_cmp_total}
use Rattle.std.specs.FinMap.{FinMap, contains_key, find, from_entries, from_entries_push, get-from_entries, len, len-empty, len-insert, nat_cmp-IsAntisymmetric, same_map}
use Rattle.std.specs.FinMap as map
use Rattle.std.specs.HashMap.{UpdatesBy, get}
use Rattle.std.specs.List.{AllByRecursion, IsDistinct}
use Rattle.std.specs.Map.{keys_of}
use Rattle.std.specs.Ordering.{nat_cmp}
use Rattle.ids.specs.Shards.{Shard}
use Rattle.ids.proofs.Numbers.{eq_by_nat_cmp, find-lookup, number-inserted, number-removed}

pub one_found : (one : Shard) (id : ℕ) → get nat_eq one id ≡ map.get (from_entries {R = nat_cmp} one.entries) id
one_found one id = sym (get-from_entries nat_cmp_total one.entries id ∙ find-lookup id one.entries)

module _ (old new : Shard) (id : ℕ) where
  pub one_inserted : (number : ℕ) → UpdatesBy nat_eq (nat_eq id) old new (Some number) → from_entries {R = nat_cmp} new.entries ≡ map.insert (from_entries old.entries) id number
  one_inserted number updates =
      same_map nat_cmp_total nat_cmp-IsAntisymmetric _ _
      (λ other. sym (one_found new other) ∙ updates.0 other ∙ ap (cond (nat_eq id other) (Some number)) (one_found old other)
      ∙ sym (number-inserted (from_entries old.entries) id number other))

  pub one_removed : UpdatesBy nat_eq (nat_eq id) old new None → from_entries {R = nat_cmp} new.entries ≡ map.remove (from_entries old.entries) id
  one_removed updates =
      same_map nat_cmp_total nat_cmp-IsAntisymmetric _ _
      (λ other. sym (one_found new other) ∙ updates.0 other ∙ ap (cond (nat_eq id other) None) (one_found old other)
      ∙ sym (number-removed (from_entries old.entries) id other))

at_most_one_more : (b : Bool) (n : ℕ) → cond b n (n + 1) ≤ n + 1
at_most_one_more true n = omega arith
at_most_one_more false n = omega arith

pub len_at_most : (entries : List (ℕ × ℕ)) → len (from_entries {R = nat_cmp} entries) ≤ length entries
len_at_most [] = omega (arith, len-empty nat_cmp ℕ)
len_at_most (e ∷ entries) =
    let numbers : FinMap nat_cmp ℕ = from_entries entries in
    omega (arith, len-insert nat_cmp_total numbers e.0 e.1, at_most_one_more (contains_key numbers e.0) (len numbers), len_at_most entries)

differs : (id : ℕ) (es fs : List (ℕ × ℕ)) (e : ℕ × ℕ) → AllByRecursion (λ other. nat_eq id other ≡ false) (keys_of (es ++ e ∷ fs)) → nat_eq id e.0 ≡ false
differs id [] fs e all = all.0
differs id (d ∷ es) fs e all = differs id es fs e all.1

not_before : (es fs : List (ℕ × ℕ)) (e : ℕ × ℕ) → IsDistinct nat_eq (keys_of (es ++ e ∷ fs)) → find nat_cmp e.0 es ≡ None
not_before [] fs e distinct = refl
not_before (d ∷ es) fs e distinct =
    rw (eq_by_nat_cmp d.0 e.0, differs d.0 es fs e (IsDistinct-head nat_eq d.0 _ distinct))
    (not_before es fs e (IsDistinct-tail nat_eq d.0 _ distinct))

-- the next entry of a hash map is inserted after those before it
pub one_moved : (es fs : List (ℕ × ℕ)) (id number : ℕ) → IsDistinct nat_eq (keys_of (es ++ (id, number) ∷ fs)) → map.insert (from_entries {R = nat_cmp} es) id number ≡ from_entries (es ++ (id, number) ∷ [])
one_moved es fs id number distinct =
    sym (from_entries_push nat_cmp_total nat_cmp-IsAntisymmetric es id number (not_before es fs (id, number) distinct))
