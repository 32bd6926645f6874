-- What a key adds to the bounds of the branches in a block.
use Rattle.std.proofs.Common.{◌≡◌, ◌∙◌, ◌-◌, ◌/◌, ◌%◌, ◌<◌, ◌≤◌, ◌≢◌, get_or, ℕ, suc, List, [], ◌∷◌, length, ap, sym, refl, arith}
use Rattle.std.specs.Prelude.{map, slice_get, option_map}
use Rattle.std.specs.Simd.Lanes.{zip2}
use Rattle.std.proofs.lemmas.Option.{get_or_from_slice_get, slice_get-map, slice_get_read}
use Rattle.key_class.specs.Gains.{gain_in_64_bits}
use Rattle.blocks.specs.Values.{IsBlockOf}
use Rattle.node.specs.EntryBlocks.{branch_of, branches_in}
use Rattle.node.specs.declared.branch.Branch.{Branch}
use Rattle.descent.specs.Choosing.{AreGainsIn}

no_more : (n : ℕ) → 0 ≡ suc n → ⊥
no_more n e = omega (arith, e)

keys_of_branches : {K : Type 0} (keys : List K) (children : List ℕ) → length keys ≡ length children → map (λ (b : Branch K). b.key) (zip2 branch_of keys children) ≡ keys
keys_of_branches [] children e = refl
keys_of_branches (k ∷ keys) [] e = absurd (no_more (length keys) (sym e))
keys_of_branches (k ∷ keys) (c ∷ children) e = ap (λ ks. k ∷ ks) (keys_of_branches keys children (omega (arith, e)))

pub gains_of_block : {K : Type 0} (union : K → K → K) (size : K → ℕ) (key : K) (branches : List (Branch K)) (number : ℕ) (keys : List K) (children : List ℕ) → length keys ≡ 8
    → IsBlockOf branches number (branches_in keys children) → AreGainsIn union size key branches number (map (gain_in_64_bits union size key) keys)
gains_of_block union size key branches number keys children eight is_block place b in_block is =
    let bound = ap (λ ks. slice_get ks (place % 8)) (sym (keys_of_branches keys _ eight)) ∙ slice_get-map (λ b. b.key) (branches_in keys children) (place % 8) ∙ ap (option_map (λ b. b.key)) (is_block place b in_block is) in
    slice_get-map (gain_in_64_bits union size key) keys (place % 8) ∙ ap (option_map (gain_in_64_bits union size key)) bound

pub gain_at : {K : Type 0} (union : K → K → K) (size : K → ℕ) (key : K) (branches : List (Branch K)) (place : ℕ) (gains : List ℕ) → AreGainsIn union size key branches (place / 8) gains → place < length branches
    → (b : Branch K) → b ≡ get_or branches place b → get_or gains (place % 8) 0 ≡ gain_in_64_bits union size key b.key
gain_at union size key branches place gains are within b is =
    get_or_from_slice_get gains (place % 8) (gain_in_64_bits union size key b.key) 0 (are place b refl (slice_get_read branches (length branches) place b refl within is))

pub same_block : {K : Type 0} (union : K → K → K) (size : K → ℕ) (key : K) (branches : List (Branch K)) (place : ℕ) (gains : List ℕ) → AreGainsIn union size key branches ((place - 1) / 8) gains → 1 ≤ place → place % 8 ≢ 0
    → AreGainsIn union size key branches (place / 8) gains
same_block union size key branches place gains are some inside q b e is = are q b (let f : q / 8 ≡ (place - 1) / 8 = omega (arith, e, some, inside) in f) is
