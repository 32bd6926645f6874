-- The entries of a map of commits are its live rows, after each of them.
use Rattle.std.proofs.Common.{◌≡◌, ◌+◌, ◌-◌, ◌<◌, ◌≤◌, ℕ, zero, suc, not, List, [], ◌∷◌, ◌++◌, length, take, drop, filter, Some, ◌⊎◌, inl, inr, refl, sym, ap, ◌∙◌, arith, subst, append_assoc}
use Rattle.std.specs.Prelude.{slice_get}
use Rattle.std.proofs.lemmas.List.{append-nil, length-append, length-drop, length-map, length-take-le, take-append-drop, take_all, take_at, take-take}
use Rattle.change_list.specs.declared.item.Row.{Row}
use Rattle.change_list.specs.declared.write.Write.{Write}
use Rattle.change_list.specs.Changes.{IsLegal, MayFollow, is_ended, rows}
use Rattle.change_list.proofs.Lists.{by_pushes, slice_get_before, slice_get_end, slice_get_push, slice_get_within}
use Rattle.change_list.proofs.Made.{made_none}
use Rattle.change_list.proofs.Tracking.{legal_push, legal_taken, take_before}
use Rattle.revisions.specs.declared.change.MapChange.{MapChange}
use Rattle.revisions.specs.declared.entry.MapEntry.{MapEntry}
use Rattle.revisions.specs.Maps.{AreApart, changed, entries_after, entries_at, entries_of, revision_of}
use Rattle.revisions.proofs.Forgetting.{taken_twice}
use Rattle.revisions.proofs.Applying.{apart_changed}
use Rattle.map.specs.Generations.{AreById, IsMapList, KeepsIds, change_of, changes_behind, entries_from, entry_of, map_of}
use Rattle.map.proofs.Entering.{entries_step, changes_push}

module _ {K : Type 0} where
  pub front : (commits : List (Write K)) (write : Write K) → take (length commits) (commits ++ write ∷ []) ≡ commits
  front commits write = take_at commits (write ∷ []) (length commits) refl

  pub legal_front : (commits : List (Write K)) (write : Write K) → IsLegal (commits ++ write ∷ []) → IsLegal commits
  legal_front commits write legal = subst (λ l. IsLegal l) (front commits write) (legal_taken (commits ++ write ∷ []) (length commits) legal)

  pub ids_front : (commits : List (Write K)) (write : Write K) → AreById (commits ++ write ∷ []) → AreById commits
  ids_front commits write ids place other e =
      let w = slice_get_within commits place other e in
      let l : place ≤ length commits = omega (arith, w) in
      subst (λ taken. KeepsIds taken other) (take_before commits write place l) (ids place other (slice_get_before commits (write ∷ []) place w ∙ e))

  pub ids_last : (commits : List (Write K)) (write : Write K) → AreById (commits ++ write ∷ []) → KeepsIds commits write
  ids_last commits write ids = subst (λ taken. KeepsIds taken write) (front commits write) (ids (length commits) write (slice_get_end commits write))

  pub ids_push : (commits : List (Write K)) (write : Write K) → AreById commits → KeepsIds commits write → AreById (commits ++ write ∷ [])
  ids_push commits write ids keeps place other e = elim (slice_get_push commits write other place e) [
    | inl p ↦ let l : place ≤ length commits = omega (arith, p.1) in subst (λ taken. KeepsIds taken other) (sym (take_before commits write place l)) (ids place other p.0)
    | inr p ↦ subst (λ w. KeepsIds (take place (commits ++ write ∷ [])) w) p.1 (subst (λ taken. KeepsIds taken write) (sym (ap (λ n. take n (commits ++ write ∷ [])) p.0 ∙ front commits write)) keeps)
  ]

  pub no_rows : rows {K = K} [] ≡ []
  no_rows = ap (filter (λ (r : Row K). not (is_ended {K = K} [] r.row))) made_none

  -- no two live rows have one id
  pub rows_apart : (commits : List (Write K)) → IsLegal commits → AreById commits → AreApart (entries_from (rows commits))
  rows_apart commits = by_pushes (λ cs. IsLegal cs → AreById cs → AreApart (entries_from (rows cs))) (λ legal ids. subst (λ l. AreApart (entries_from l)) (sym no_rows) tt) more commits
    where
      more : (cs : List (Write K)) (w : Write K) → (IsLegal cs → AreById cs → AreApart (entries_from (rows cs))) → IsLegal (cs ++ w ∷ []) → AreById (cs ++ w ∷ []) → AreApart (entries_from (rows (cs ++ w ∷ [])))
      more cs w before legal ids =
          let l = legal_front cs w legal in
          let keeps = ids_last cs w ids in
          let apart = before l (ids_front cs w ids) in
          subst (λ es. AreApart es) (sym (entries_step cs w l keeps apart)) (apart_changed (entries_from (rows cs)) (change_of cs w) apart)

  pub ids_taken : (commits : List (Write K)) (n : ℕ) → AreById commits → AreById (take n commits)
  ids_taken commits n ids = head (take n commits) (drop n commits) (subst (λ l. AreById l) (sym (take-append-drop n commits)) ids)
    where
      head : (cs more : List (Write K)) → AreById (cs ++ more) → AreById cs
      head cs [] h = subst (λ l. AreById l) (append-nil cs) h
      head cs (c ∷ more) h = ids_front cs c (head (cs ++ c ∷ []) more (subst (λ l. AreById l) (sym (append_assoc cs (c ∷ []) more)) h))

  legal_head : (cs more : List (Write K)) → IsLegal (cs ++ more) → IsLegal cs
  legal_head cs more legal = subst (λ l. IsLegal l) (take_at cs more (length cs) refl) (legal_taken (cs ++ more) (length cs) legal)

  ids_head : (cs more : List (Write K)) → AreById (cs ++ more) → AreById cs
  ids_head cs more ids = subst (λ l. AreById l) (take_at cs more (length cs) refl) (ids_taken (cs ++ more) (length cs) ids)

  -- the entries once further commits have changed them
  pub entries_behind : (before more : List (Write K)) → IsLegal (before ++ more) → AreById (before ++ more) → entries_after (entries_from (rows before)) (changes_behind before more) ≡ entries_from (rows (before ++ more))
  entries_behind before [] legal ids = ap (λ l. entries_from (rows l)) (sym (append-nil before))
  entries_behind before (w ∷ more) legal ids =
      let e = append_assoc before (w ∷ []) more in
      let legal' : IsLegal (before ++ w ∷ [] ++ more) = subst (λ l. IsLegal l) (sym e) legal in
      let ids' : AreById (before ++ w ∷ [] ++ more) = subst (λ l. AreById l) (sym e) ids in
      let one = legal_head (before ++ w ∷ []) more legal' in
      let own = ids_head (before ++ w ∷ []) more ids' in
      let l = legal_front before w one in
      ap (λ es. entries_after es (changes_behind (before ++ w ∷ []) more)) (sym (entries_step before w l (ids_last before w own) (rows_apart before l (ids_front before w own))))
      ∙ entries_behind (before ++ w ∷ []) more legal' ids'
      ∙ ap (λ l. entries_from (rows l)) e

  pub changes_taken : (n : ℕ) (before commits : List (Write K)) → take n (changes_behind before commits) ≡ changes_behind before (take n commits)
  changes_taken zero before commits = refl
  changes_taken (suc n) before [] = refl
  changes_taken (suc n) before (w ∷ commits) = ap (λ l. change_of before w ∷ l) (changes_taken n (before ++ w ∷ []) commits)

  pub changes_dropped : (n : ℕ) (before commits : List (Write K)) → drop n (changes_behind before commits) ≡ changes_behind (before ++ take n commits) (drop n commits)
  changes_dropped zero before commits = ap (λ l. changes_behind l commits) (sym (append-nil before))
  changes_dropped (suc n) before [] = refl
  changes_dropped (suc n) before (w ∷ commits) = changes_dropped n (before ++ w ∷ []) commits ∙ ap (λ l. changes_behind l (drop n commits)) (append_assoc before (w ∷ []) (take n commits))

  pub changes_length : (before commits : List (Write K)) → length (changes_behind before commits) ≡ length commits
  changes_length before [] = refl
  changes_length before (w ∷ commits) = ap suc (changes_length (before ++ w ∷ []) commits)

  module _ (oldest begun : ℕ) (commits : List (Write K)) (list : IsMapList begun commits) where
    pub revision_is : revision_of (map_of oldest begun commits) ≡ oldest + (length commits - begun)
    revision_is = ap (λ n. oldest + n) (changes_length (take begun commits) (drop begun commits) ∙ length-drop begun commits)

    -- the entries after a revision are the rows after its commit
    pub entries_then : (n : ℕ) → oldest ≤ n → entries_at n (map_of oldest begun commits) ≡ entries_from (rows (take (begun + (n - oldest)) commits))
    entries_then n known =
        let k = n - oldest in
        let whole : take begun commits ++ take (n - oldest) (drop begun commits) ≡ take (begun + (n - oldest)) commits = taken_twice begun (n - oldest) commits in
        ap (entries_after (entries_from (rows (take begun commits)))) (changes_taken (n - oldest) (take begun commits) (drop begun commits))
        ∙ entries_behind (take begun commits) (take (n - oldest) (drop begun commits))
        (subst (λ l. IsLegal l) (sym whole) (legal_taken commits (begun + (n - oldest)) list.legal)) (subst (λ l. AreById l) (sym whole) (ids_taken commits (begun + (n - oldest)) list.by_id))
        ∙ ap (λ l. entries_from (rows l)) whole

    pub entries_now : entries_of (map_of oldest begun commits) ≡ entries_from (rows commits)
    entries_now =
        let whole = take-append-drop begun commits in
        entries_behind (take begun commits) (drop begun commits) (subst (λ l. IsLegal l) (sym whole) list.legal) (subst (λ l. AreById l) (sym whole) list.by_id)
        ∙ ap (λ l. entries_from (rows l)) whole

    pub entries_apart : AreApart (entries_of (map_of oldest begun commits))
    entries_apart = subst (λ es. AreApart es) (sym entries_now) (rows_apart commits list.legal list.by_id)

    pub entries_counted : length (entries_of (map_of oldest begun commits)) ≡ length (rows commits)
    entries_counted = ap length entries_now ∙ length-map (rows commits) entry_of

    pub list_push : (write : Write K) → MayFollow commits write → KeepsIds commits write → IsMapList begun (commits ++ write ∷ [])
    list_push write follows keeps = record {
      legal = legal_push commits write list.legal follows;
      begins = omega (arith, list.begins, length-append commits (write ∷ []));
      by_id = ids_push commits write list.by_id keeps;
    }
