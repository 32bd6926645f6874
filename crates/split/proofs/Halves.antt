-- The parts of a page that is split well have entries.
use Rattle.std.proofs.Common.{◌≡◌, ℕ, ◌+◌, ◌<◌, ◌≤◌, List, [], ◌∷◌, length, map, cond, count_by, refl, ap, arith, length-append, Bool, ◌⊎◌, inl, inr}
use Rattle.std.proofs.lemmas.List.{length-map}
use Rattle.std.proofs.lemmas.List.Sums.{sum_by-cons}
use Rattle.key_class.specs.Splits.{is_left, is_right}
use Rattle.key_class.specs.declared.sides.Side.{Side}
use Rattle.key_class.specs.declared.sides.Side.TheVariants.{Left, Right}
use Rattle.row_version.specs.Entries.{Entry}
use Rattle.node.specs.declared.branch.Branch.{Branch}
use Rattle.node.specs.Pages.{Page, entries_of, keys_of}
use Rattle.node.specs.Parts.{left_part, right_part}
use Rattle.page_table.specs.Trees.{Tree}
use Rattle.page_table.specs.Soundness.{IsShaped}
use Rattle.split.specs.Steps.{SidesPart}

abbrev one_if : (Side → Bool) → Side → ℕ
one_if p s = cond (p s) 1 0

pub length-left_part : {A : Type 0} (sides : List Side) (xs : List A) → length sides ≡ length xs → length (left_part sides xs) ≡ count_by is_left sides
length-left_part [] [] e = refl
length-left_part [] (x ∷ xs) e = absurd (omega arith)
length-left_part (s ∷ ss) [] e = absurd (omega arith)
length-left_part (Left ∷ ss) (x ∷ xs) e = omega (arith, length-left_part ss xs (omega arith), sum_by-cons (one_if is_left) Left ss)
length-left_part (Right ∷ ss) (x ∷ xs) e = omega (arith, length-left_part ss xs (omega arith), sum_by-cons (one_if is_left) Right ss)

pub length-right_part : {A : Type 0} (sides : List Side) (xs : List A) → length sides ≡ length xs → length (right_part sides xs) ≡ count_by is_right sides
length-right_part [] [] e = refl
length-right_part [] (x ∷ xs) e = absurd (omega arith)
length-right_part (s ∷ ss) [] e = absurd (omega arith)
length-right_part (Left ∷ ss) (x ∷ xs) e = omega (arith, length-right_part ss xs (omega arith), sum_by-cons (one_if is_right) Left ss)
length-right_part (Right ∷ ss) (x ∷ xs) e = omega (arith, length-right_part ss xs (omega arith), sum_by-cons (one_if is_right) Right ss)

length-keys_of : {K : Type 0} (rows : List (Entry K)) (branches : List (Branch K)) → length (keys_of rows branches) ≡ length rows + length branches
length-keys_of rows branches = omega (arith, length-append (map (λ e. e.key) rows) (map (λ b. b.key) branches), length-map rows (λ e. e.key), length-map branches (λ b. b.key))

-- where there are keys and none of rows, there is a branch
pub some_branch : {K : Type 0} (rows : List (Entry K)) (branches : List (Branch K)) → rows ≡ [] → 0 < length (keys_of rows branches) → 0 < length branches
some_branch rows branches none some = omega (arith, length-keys_of rows branches, ap length none, some)

-- a leaf or an inner page
leaf_or_inner : (level : ℕ) → (level ≡ 0) ⊎ (0 < level)
leaf_or_inner level = grind arith

-- each part has an entry for each side that gives it one
pub part_lengths : {K : Type 0} (t : Tree K) (fan : ℕ) (page : Page K) (sides : List Side) → IsShaped t fan page → length sides ≡ entries_of page
    → (count_by is_left sides ≤ length (left_part sides page.rows) + length (left_part sides page.branches)) × (count_by is_right sides ≤ length (right_part sides page.rows) + length (right_part sides page.branches))
part_lengths {K} t fan page sides shape n = elim (leaf_or_inner page.level) [
  | inl e ↦ (let none : length page.branches ≡ 0 = ap length (shape.leaf e) in
      let a = length-left_part sides page.rows (omega arith) in
      let b = length-right_part sides page.rows (omega arith) in
      (omega (arith, a), omega (arith, b)))
  | inr k ↦ (let none : length page.rows ≡ 0 = ap length (shape.inner k) in
      let a = length-left_part sides page.branches (omega arith) in
      let b = length-right_part sides page.branches (omega arith) in
      (omega (arith, a), omega (arith, b)))
]

pub halves : {K : Type 0} (t : Tree K) (fan : ℕ) (page : Page K) (sides : List Side) → IsShaped t fan page → length sides ≡ entries_of page → 1 ≤ count_by is_left sides → 1 ≤ count_by is_right sides → SidesPart page sides
halves {K} t fan page sides shape n l r = let lengths = part_lengths t fan page sides shape n in record {
  some_left = omega (arith, l, lengths.0, length-keys_of (left_part sides page.rows) (left_part sides page.branches));
  some_right = omega (arith, r, lengths.1, length-keys_of (right_part sides page.rows) (right_part sides page.branches));
}
