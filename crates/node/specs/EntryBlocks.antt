-- Eight entries, their keys apart from the rest.
use Rattle.std.specs.Prelude.{◌≡◌, ℕ, suc, Bool, List, [], ◌∷◌, length, slice_index_or}
use Rattle.std.specs.Simd.Lanes.{zip2}
use Rattle.std.proofs.Common.{◌∙◌, refl, sym, ap, cond, ◌+◌, ◌*◌, arith}
use Rattle.std.proofs.lemmas.Simd.{length-zip2}
use Rattle.key_class.specs.Bits.{bits_of}
use Rattle.key_class.specs.Blocks.{eight_of}
use Rattle.row_version.specs.Entries.{Entry, Version, entry_of, version_of}
use Rattle.row_version.specs.VersionBlocks.{versions_of}
use Rattle.row_version.specs.declared.version_block.VersionBlock.{VersionBlock}
use Rattle.node.specs.declared.branch.Branch.{Branch}

-- the entries of eight keys and eight versions
abbrev pub entries_in : {K : Type 0} → List K → List Version → List (Entry K)
entries_in keys versions = zip2 entry_of keys versions

abbrev pub branch_of : {K : Type 0} → K → ℕ → Branch K
branch_of key child = record { key = key; child = child }

-- the branches with eight keys to eight children
abbrev pub branches_in : {K : Type 0} → List K → List ℕ → List (Branch K)
branches_in keys children = zip2 branch_of keys (eight_of (λ place. slice_index_or children place 0))

pub eight_entries : {K : Type 0} (keys : List K) (block : VersionBlock) → length keys ≡ 8 → length (entries_in keys (versions_of block)) ≡ 8
eight_entries keys block e = length-zip2 entry_of keys (versions_of block) e ∙ e

pub eight_branches : {K : Type 0} (keys : List K) (children : List ℕ) → length keys ≡ 8 → length (branches_in keys children) ≡ 8
eight_branches keys children e = length-zip2 branch_of keys (eight_of (λ place. slice_index_or children place 0)) e ∙ e

no_more : (n : ℕ) → 0 ≡ suc n → ⊥
no_more n e = omega arith

module _ {A B E : Type 0} (f : A → B → E) where
  -- what a test tells of the first of each pair
  told_by_first : (first : E → A) → ((x : A) (y : B) → first (f x y) ≡ x) → (p : A → Bool) (xs : List A) (ys : List B) → length xs ≡ length ys
      → bits_of (λ e. p (first e)) (zip2 f xs ys) ≡ bits_of p xs
  told_by_first first is p [] ys e = refl
  told_by_first first is p (x ∷ xs) [] e = absurd (no_more (length xs) (sym e))
  told_by_first first is p (x ∷ xs) (y ∷ ys) e = ap (λ z. cond (p z) 1 0 + 2 * bits_of (λ e. p (first e)) (zip2 f xs ys)) (is x y) ∙ ap (λ n. cond (p x) 1 0 + 2 * n) (told_by_first first is p xs ys (omega arith))

  -- and of the second
  told_by_second : (second : E → B) → ((x : A) (y : B) → second (f x y) ≡ y) → (p : B → Bool) (xs : List A) (ys : List B) → length xs ≡ length ys
      → bits_of (λ e. p (second e)) (zip2 f xs ys) ≡ bits_of p ys
  told_by_second second is p [] [] e = refl
  told_by_second second is p [] (y ∷ ys) e = absurd (no_more (length ys) e)
  told_by_second second is p (x ∷ xs) [] e = absurd (no_more (length xs) (sym e))
  told_by_second second is p (x ∷ xs) (y ∷ ys) e = ap (λ z. cond (p z) 1 0 + 2 * bits_of (λ e. p (second e)) (zip2 f xs ys)) (is x y) ∙ ap (λ n. cond (p y) 1 0 + 2 * n) (told_by_second second is p xs ys (omega arith))

-- what a test tells of eight keys, it tells of the entries
pub entries_by_keys : {K : Type 0} (p : K → Bool) (keys : List K) (block : VersionBlock) → length keys ≡ 8 → bits_of (λ e. p e.key) (entries_in keys (versions_of block)) ≡ bits_of p keys
entries_by_keys p keys block eight = told_by_first entry_of (λ e. e.key) (λ x y. refl) p keys (versions_of block) eight

-- and what it tells of eight versions
pub entries_by_versions : {K : Type 0} (p : Version → Bool) (keys : List K) (block : VersionBlock) → length keys ≡ 8 → bits_of (λ e. p (version_of e)) (entries_in keys (versions_of block)) ≡ bits_of p (versions_of block)
entries_by_versions p keys block eight = told_by_second entry_of version_of (λ x y. refl) p keys (versions_of block) eight

-- what it tells of eight keys, it tells of the branches
pub branches_by_keys : {K : Type 0} (p : K → Bool) (keys : List K) (children : List ℕ) → length keys ≡ 8 → bits_of (λ b. p b.key) (branches_in keys children) ≡ bits_of p keys
branches_by_keys p keys children eight = told_by_first branch_of (λ b. b.key) (λ x y. refl) p keys (eight_of (λ place. slice_index_or children place 0)) eight

-- and what it tells of the children
pub branches_by_children : {K : Type 0} (p : ℕ → Bool) (keys : List K) (children : List ℕ) → length keys ≡ 8 → bits_of (λ b. p b.child) (branches_in keys children) ≡ bits_of p (eight_of (λ place. slice_index_or children place 0))
branches_by_children p keys children eight = told_by_second branch_of (λ b. b.child) (λ x y. refl) p keys (eight_of (λ place. slice_index_or children place 0)) eight
