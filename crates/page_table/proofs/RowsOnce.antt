-- An entry that is placed stands once more below the root.
use Rattle.std.proofs.Common.{ℕ, ◌+◌, ◌*◌, ◌<◌, ◌≡◌, [], ◌∷◌, ◌++◌, length, refl, ap, arith, ◌∙◌, Bool}
use Rattle.page_table.proofs.RowChanges.{rows_placed}
use Rattle.page_table.specs.Soundness.{IsSound}
use Rattle.page_table.specs.Trees.{Tree, after_rows, page_at, pages_under, rows_of_tree}
use Rattle.page_table.specs.Weights.{one_if_equal, weigh}
use Rattle.row_version.specs.Entries.{Entry}

module _ {K : Type 0} (is_cover : K → K → Bool) (t : Tree K) (fan : ℕ) (sound : IsSound is_cover fan t) (f : Entry K → ℕ) where
  pub place_all : (p : ℕ) → p < length t.pages → (e : Entry K) → weigh f (rows_of_tree (after_rows t p ((page_at t p).rows ++ e ∷ []))) ≡ weigh f (rows_of_tree t) + f e
  unfolding after_rows
  place_all p l e =
      rows_placed t sound.rank sound.ranked p l ((page_at t p).rows ++ e ∷ []) f e refl 0 t.counter sound.root_exists
      ∙ (let once : weigh (λ x. one_if_equal x p) (pages_under t 0 t.counter) * f e ≡ 1 * f e = ap (λ n. n * f e) ((sound.reached p l).once) in omega (arith, once))
