-- The weight of the rows that are seen, by the entries.
use Rattle.std.proofs.Common.{◌≡◌, ◌+◌, ℕ, Bool, true, false, cond, List, [], ◌∷◌, map, filter, refl, ap, arith}
use Rattle.change_list.specs.declared.item.Row.{Row}
use Rattle.row_version.specs.Entries.{Entry}
use Rattle.page_table.specs.Weights.{weigh}
use Rattle.scan.specs.Scanning.{is_seen, seen}
use Rattle.search.specs.Live.{row_of}

module _ {K : Type 0} where
  -- what a weight of rows gives an entry that is seen
  abbrev pub seen_weight : (Row K → ℕ) → (K → Bool) → ℕ → Entry K → ℕ
  seen_weight w wanted s e = cond (is_seen wanted s e) (w (row_of e)) 0

  pub weigh_seen : (w : Row K → ℕ) (wanted : K → Bool) (s : ℕ) (es : List (Entry K)) → weigh w (seen wanted s es) ≡ weigh (seen_weight w wanted s) es
  weigh_seen w wanted s [] = refl
  weigh_seen w wanted s (e ∷ es) = go (is_seen wanted s e) (weigh_seen w wanted s es)
    where
      go : (b : Bool) → weigh w (seen wanted s es) ≡ weigh (seen_weight w wanted s) es
          → weigh w (map row_of (cond b (e ∷ filter (is_seen wanted s) es) (filter (is_seen wanted s) es))) ≡ cond b (w (row_of e)) 0 + weigh (seen_weight w wanted s) es
      go true h = omega (arith, h)
      go false h = omega (arith, h)

  pub unseen_weight : (w : Row K → ℕ) (wanted : K → Bool) (s : ℕ) (e : Entry K) → is_seen wanted s e ≡ false → seen_weight w wanted s e ≡ 0
  unseen_weight w wanted s e h = let f : Bool → ℕ = λ b. cond b (w (row_of e)) 0 in ap f h
