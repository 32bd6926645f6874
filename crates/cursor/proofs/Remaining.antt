-- What remains of a snapshot, in another order.
use Rattle.std.proofs.Common.{◌≡◌, Bool, false, List, [], ◌∷◌, length, inl, inr, ⊎_elim, refl, ap, ◌∙◌, arith}
use Rattle.std.specs.Prelude.{IsPermutation}
use Rattle.std.proofs.lemmas.List.Sorted.{IsPermutation-trans, IsPermutation-append_right, length_permutation}
use Rattle.change_list.specs.declared.write.Write.{Write}
use Rattle.change_list.specs.declared.item.Row.{Row}
use Rattle.change_list.specs.declared.item.Item.{Item}
use Rattle.change_list.specs.Cursors.{CursorState, wanted_by, IsPastRows, Fits}
use Rattle.change_list.proofs.Fitting.{empty_stays}

module _ {K A : Type 0} (matching : A → K → Bool) (commits : List (Write K)) (before : CursorState K A) (items : List (Item K)) (f : Fits matching commits before items) where
  -- the order of what remains doesn't matter, nor whether a scan is under way whose rows remain
  pub fits_arranged : (scanning : Bool) (remaining : List (Row K)) → (IsPastRows matching before → scanning ≡ false) → IsPermutation before.remaining remaining
      → Fits matching commits (record before { scanning = scanning; remaining = remaining }) items
  fits_arranged scanning remaining s p = record {
    rows = f.rows;
    is = f.is;
    each_once = IsPermutation-trans _ _ _ f.each_once (IsPermutation-append_right f.rows _ _ p);
    follower = λ h. let q = f.follower h in record { scanned = s q; none_remaining = empty_stays (wanted_by matching before) before.remaining remaining p q.none_remaining };
    in_order = ⊎_elim
        (λ (h : IsPastRows matching before). inl (record { scanned = s h; none_remaining = empty_stays (wanted_by matching before) before.remaining remaining p h.none_remaining }))
        (λ (h : before.position ≡ before.opened). inr h)
        f.in_order;
    from_opening = f.from_opening;
    within = f.within;
    marks = f.marks;
  }
