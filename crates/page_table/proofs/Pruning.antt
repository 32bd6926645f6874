-- Rows under a child have keys that the entry's key covers; and what a visit does to what is left under a stack.
use Rattle.std.proofs.Common.{ℕ, ◌<◌, ◌≡◌, length, option_to_list, All, refl, arith, sym, subst, Bool, true, Some, None, Option}
use Rattle.std.proofs.lemmas.List.Elements.{All-weaker, All-cons, All-append}
use Rattle.node.specs.Pages.{followed}
use Rattle.node.specs.declared.branch.Branch.{Branch}
use Rattle.std.specs.Prelude.{Contains}
use Rattle.std.proofs.lemmas.List.Elements.{All-contains}
use Rattle.page_table.proofs.Counting.{false_true}
use Rattle.page_table.proofs.Facts.{Settled, siblings_settled}
use Rattle.page_table.proofs.Following.{All-owed}
use Rattle.page_table.proofs.Under.{All-both, pages_under_is, under_induction}
use Rattle.page_table.proofs.Weights.{All-flat_map}
use Rattle.page_table.specs.Soundness.{BoundsBelow, IsBelow, IsSound, IsWithin}
use Rattle.page_table.specs.Trees.{Falls, Tree, page_at, pages_under, rows_under}
use Rattle.row_version.specs.Entries.{Entry}

module _ {K : Type 0} (is_cover : K → K → Bool) (trans : (a b c : K) → is_cover a b ≡ true → is_cover b c ≡ true → is_cover a c ≡ true) where
  -- what a key that covers the bound covers
  pub within_below : (key : K) (o : Option K) (k : K) → IsBelow is_cover key o → IsWithin is_cover o k → is_cover key k ≡ true
  within_below key None k b w = absurd b
  within_below key (Some bound) k b w = trans key bound k b w

  pub below_below : (key k : K) (o : Option K) → is_cover key k ≡ true → IsBelow is_cover k o → IsBelow is_cover key o
  below_below key k None c b = b
  below_below key k (Some bound) c b = trans key k bound c b

  module _ (t : Tree K) (fan : ℕ) (sound : IsSound is_cover fan t) (key : K) where
    -- the key covers p's cover and, where p is owed, its sibling's
    abbrev Below : ℕ → Type 0
    Below p = IsBelow is_cover key (page_at t p).cover × ((page_at t p).owed ≡ true → All (λ r. IsBelow is_cover key (page_at t r).cover) (option_to_list (page_at t p).right))

    -- PRUNING: every row under (p, counter) has a key that it covers
    abbrev RowsWithin : ℕ → Type 0
    RowsWithin x = All (λ (e : Entry K). is_cover key e.key ≡ true) (page_at t x).rows

    pub under_covered : (p m : ℕ) → p < length t.pages → (m ≡ t.counter) → Below p → All RowsWithin (pages_under t p m)
    under_covered = under_induction t sound.rank sound.ranked (λ p m. (m ≡ t.counter) → Below p → All RowsWithin (pages_under t p m))
        (λ p m l below right em b. subst (λ xs. All RowsWithin xs) (sym (pages_under_is t sound.rank sound.ranked p m l))
        (All-cons RowsWithin p _
        (All-weaker (λ (e : Entry K). IsWithin is_cover (page_at t p).cover e.key) (λ (e : Entry K). is_cover key e.key ≡ true)
        (λ e w. within_below key (page_at t p).cover e.key b.0 w) (page_at t p).rows ((sound.bounded p l).rows))
        (All-append RowsWithin _ _
        (All-flat_map RowsWithin (λ (c : Branch K). pages_under t c.child t.counter) (page_at t p).branches
        (All-both (λ (c : Branch K). (t.counter ≡ t.counter) → Below c.child → All RowsWithin (pages_under t c.child t.counter)) (λ (c : Branch K). Below c.child) _ (λ c f d. f refl d) _ below
        (All-both (λ (c : Branch K). IsWithin is_cover (page_at t p).cover c.key) (λ (c : Branch K). BoundsBelow is_cover t c) (λ (c : Branch K). Below c.child)
        (λ c w d. let k : is_cover key c.key ≡ true = within_below key (page_at t p).cover c.key b.0 w in
        (below_below key c.key _ k d.child, λ o. All-weaker (λ r. IsBelow is_cover c.key (page_at t r).cover) (λ r. IsBelow is_cover key (page_at t r).cover) (λ r v. below_below key c.key _ k v) _ (d.sibling o)))
        (page_at t p).branches ((sound.bounded p l).branches) ((sound.bounded p l).below))))
        (All-flat_map RowsWithin (λ q. pages_under t q m) (followed (page_at t p) m)
        (All-both (λ (r : ℕ). (m ≡ t.counter) → Below r → All RowsWithin (pages_under t r m)) (λ (r : ℕ). Below r) (λ (r : ℕ). All RowsWithin (pages_under t r m)) (λ r f d. f em d) (followed (page_at t p) m) right
        (All-owed (λ r. Below r) (page_at t p) m (omega (arith, em, (sound.shape p l).number))
        (λ o. All-both (λ r. IsBelow is_cover key (page_at t r).cover) (λ r. Settled is_cover t fan sound r) (λ r. Below r) (λ r c d. (c, λ x. absurd (false_true (page_at t r).owed d.2 x))) _ (b.1 o) (siblings_settled is_cover t fan sound p l o))))))))

    pub rows_covered : (p : ℕ) → p < length t.pages → Below p → All (λ (e : Entry K). is_cover key e.key ≡ true) (rows_under t p t.counter)
    rows_covered p l b = All-flat_map (λ (e : Entry K). is_cover key e.key ≡ true) (λ x. (page_at t x).rows) (pages_under t p t.counter) (under_covered p t.counter l refl b)

-- the rows below a branch of a sound tree
pub branch_covers : {K : Type 0} (is_cover : K → K → Bool) (through : (a b c : K) → is_cover a b ≡ true → is_cover b c ≡ true → is_cover a c ≡ true) (t : Tree K) (fan : ℕ) (sound : IsSound is_cover fan t) (p : ℕ) (b : Branch K) →
    p < length t.pages → Contains (page_at t p).branches b → All (λ (e : Entry K). is_cover b.key e.key ≡ true) (rows_under t b.child t.counter)
branch_covers {K} is_cover through t fan sound p b l c =
    let w = All-contains (λ (b : Branch K). BoundsBelow is_cover t b) (page_at t p).branches b ((sound.bounded p l).below) c in
    let f = All-contains (λ (b : Branch K). Falls (length t.pages) sound.rank p b.child) (page_at t p).branches b ((sound.ranked.links p l).down) c in
    rows_covered is_cover through t fan sound b.key b.child f.0 (w.child, w.sibling)
