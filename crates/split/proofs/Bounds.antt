-- The union of a list of keys is the least key that covers each.
use Rattle.std.proofs.Common.{◌<◌, ◌≡◌, List, [], ◌∷◌, length, map, All, arith, Bool, true}
use Rattle.std.proofs.lemmas.List.Elements.{All-head, All-tail, All-nil, All-cons, All-append, All-map}
use Rattle.node.specs.Pages.{keys_of}
use Rattle.node.specs.Parts.{cover_of}
use Rattle.node.specs.declared.branch.Branch.{Branch}
use Rattle.page_table.proofs.Lists.{All-back, All-front, All-unmap}
use Rattle.key_class.specs.Rules.{KeyLaws}
use Rattle.page_table.specs.Soundness.{IsBelow, IsWithin}
use Rattle.row_version.specs.Entries.{Entry}

module _ {K : Type 0} (is_cover : K → K → Bool) (union : K → K → K) (laws : KeyLaws is_cover union) where
  union_first : (a : K) (ks : List K) (x : K) → is_cover a x ≡ true → IsWithin is_cover (cover_of union (a ∷ ks)) x
  union_first a [] x h = h
  union_first a (l ∷ ks) x h = union_first (union a l) ks x (laws.through (union a l) a x (laws.left a l) h)

  union_rest : (a : K) (ks : List K) → All (λ k. IsWithin is_cover (cover_of union (a ∷ ks)) k) ks
  union_rest a [] = All-nil (λ k. IsWithin is_cover (cover_of union (a ∷ [])) k)
  union_rest a (l ∷ ks) = All-cons (λ k. IsWithin is_cover (cover_of union (union a l ∷ ks)) k) l ks (union_first (union a l) ks l (laws.right a l)) (union_rest (union a l) ks)

  pub union_within : (ks : List K) → All (λ k. IsWithin is_cover (cover_of union ks) k) ks
  union_within [] = All-nil (λ k. IsWithin is_cover (cover_of union []) k)
  union_within (a ∷ ks) = All-cons (λ k. IsWithin is_cover (cover_of union (a ∷ ks)) k) a ks (union_first a ks a (laws.itself a)) (union_rest a ks)

  union_least : (key a : K) (ks : List K) → is_cover key a ≡ true → All (λ k. is_cover key k ≡ true) ks → IsBelow is_cover key (cover_of union (a ∷ ks))
  union_least key a [] h r = h
  union_least key a (l ∷ ks) h r = union_least key (union a l) ks (laws.least a l key h (All-head (λ k. is_cover key k ≡ true) l ks r)) (All-tail (λ k. is_cover key k ≡ true) l ks r)

  pub union_below : (key : K) (ks : List K) → 0 < length ks → All (λ k. is_cover key k ≡ true) ks → IsBelow is_cover key (cover_of union ks)
  union_below key [] l r = absurd (omega arith)
  union_below key (a ∷ ks) l r = union_least key a ks (All-head (λ k. is_cover key k ≡ true) a ks r) (All-tail (λ k. is_cover key k ≡ true) a ks r)

  -- the rows and branches of a page lie within the union of their keys
  pub rows_within : (rows : List (Entry K)) (branches : List (Branch K)) → All (λ e. IsWithin is_cover (cover_of union (keys_of rows branches)) e.key) rows
  rows_within rows branches = All-unmap (λ k. IsWithin is_cover (cover_of union (keys_of rows branches)) k) (λ (e : Entry K). e.key) rows
      (All-front (λ k. IsWithin is_cover (cover_of union (keys_of rows branches)) k) (map (λ e. e.key) rows) (map (λ b. b.key) branches) (union_within (keys_of rows branches)))

  pub branches_within : (rows : List (Entry K)) (branches : List (Branch K)) → All (λ b. IsWithin is_cover (cover_of union (keys_of rows branches)) b.key) branches
  branches_within rows branches = All-unmap (λ k. IsWithin is_cover (cover_of union (keys_of rows branches)) k) (λ (b : Branch K). b.key) branches
      (All-back (λ k. IsWithin is_cover (cover_of union (keys_of rows branches)) k) (map (λ e. e.key) rows) (map (λ b. b.key) branches) (union_within (keys_of rows branches)))

  pub keys_covered : (key : K) (rows : List (Entry K)) (branches : List (Branch K)) → All (λ e. is_cover key e.key ≡ true) rows → All (λ b. is_cover key b.key ≡ true) branches → All (λ k. is_cover key k ≡ true) (keys_of rows branches)
  keys_covered key rows branches h k = All-append (λ k. is_cover key k ≡ true) (map (λ e. e.key) rows) (map (λ b. b.key) branches)
      (All-map (λ k. is_cover key k ≡ true) (λ (e : Entry K). e.key) rows h) (All-map (λ k. is_cover key k ≡ true) (λ (b : Branch K). b.key) branches k)
