-- The weight of the rows that are found, by the entries.
use Rattle.std.proofs.Common.{◌≡◌, ◌+◌, ℕ, Bool, true, false, cond, List, [], ◌∷◌, map, filter, refl, ap, arith}
use Rattle.change_list.specs.declared.item.Row.{Row}
use Rattle.row_version.specs.Entries.{Entry}
use Rattle.page_table.specs.Weights.{weigh}
use Rattle.search.specs.Live.{is_found, live_rows, row_of}

module _ {K : Type 0} where
  -- what a weight of rows gives an entry that is found
  abbrev pub found_weight : (Row K → ℕ) → (K → Bool) → Entry K → ℕ
  found_weight w accepts e = cond (is_found accepts e) (w (row_of e)) 0

  pub weigh_found : (w : Row K → ℕ) (accepts : K → Bool) (es : List (Entry K)) → weigh w (live_rows accepts es) ≡ weigh (found_weight w accepts) es
  weigh_found w accepts [] = refl
  weigh_found w accepts (e ∷ es) = go (is_found accepts e) (weigh_found w accepts es)
    where
      go : (b : Bool) → weigh w (live_rows accepts es) ≡ weigh (found_weight w accepts) es
          → weigh w (map row_of (cond b (e ∷ filter (is_found accepts) es) (filter (is_found accepts) es))) ≡ cond b (w (row_of e)) 0 + weigh (found_weight w accepts) es
      go true h = omega (arith, h)
      go false h = omega (arith, h)

  pub unfound_weight : (w : Row K → ℕ) (accepts : K → Bool) (e : Entry K) → is_found accepts e ≡ false → found_weight w accepts e ≡ 0
  unfound_weight w accepts e h = let f : Bool → ℕ = λ b. cond b (w (row_of e)) 0 in ap f h
