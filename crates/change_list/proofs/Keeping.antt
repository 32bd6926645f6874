-- Commits as a list keeps them, and the rows that they make.
use Rattle.std.proofs.Common.{◌≡◌, ◌-◌, ◌≤◌, ℕ, Bool, true, false, List, [], ◌∷◌, ◌++◌, length, take, drop, Option, Some, None, inl, inr, refl, sym, ap, ◌∙◌, arith, subst}
use Rattle.std.specs.Prelude.{slice_get, nat_eq, option_map}
use Rattle.std.proofs.lemmas.List.{length-map, map-append, take-append-drop, take_at}
use Rattle.std.proofs.lemmas.Bool.{ne_eqb}
use Rattle.std.proofs.lemmas.Option.{slice_get-map}
use Rattle.change_list.specs.declared.write.Write.{Write}
use Rattle.change_list.specs.declared.write.Write.TheVariants.{Insert, Delete}
use Rattle.change_list.specs.declared.write.Status.TheVariants.{Live}
use Rattle.change_list.specs.declared.recorded.Recorded.{Recorded}
use Rattle.change_list.specs.declared.recorded.Recorded.TheVariants as recorded
use Rattle.change_list.specs.Changes.{commit_at, makes, moved, row_at, status_of, MayFollow, IsLegal, IsTracked}
use Rattle.change_list.specs.Roomy.{flags_with}
use Rattle.change_list.specs.Records.{FindsKept, HasOrigin, HasTagOf, IsKept, IsKeptAt, KeepsWrite, inserted_tag, origin_of, write_of, writes_of}
use Rattle.change_list.proofs.Lists.{slice_get_before, slice_get_push, slice_get_within}
use Rattle.change_list.proofs.Made.{number_of_commit, row_of_insert, row_of_move, row_of_delete}
use Rattle.change_list.proofs.Tracking.{legal_push, live_commit, take_before, tracked_push}

module _ {K : Type 0} where
  -- a commit that stands among the first of a list stands in it
  pub commit_taken : (commits : List (Write K)) (place n : ℕ) (write : Write K) → commit_at (take place commits) n ≡ Some write → commit_at commits n ≡ Some write
  commit_taken commits place n write h =
      let w = number_of_commit (take place commits) n write h in
      let z : nat_eq n 0 ≡ false = search (arith, w.0) in
      let b = slice_get_within (take place commits) (n - 1) write w.2 in
      rw z (ap (λ c. slice_get c (n - 1)) (sym (take-append-drop place commits)) ∙ slice_get_before (take place commits) (drop place commits) (n - 1) b ∙ w.2)

  -- the commit with a number is found where it is kept
  pub found_kept : (kept : List (Recorded K)) (n : ℕ) (found : Option (Recorded K)) → IsKept kept → (n ≡ 0 → ⊥) → found ≡ slice_get kept (n - 1) → FindsKept (writes_of kept) n found
  found_kept kept n found is d e = by_kept found e
    where
      z : nat_eq n 0 ≡ false
      z = ne_eqb n 0 d

      there : commit_at (writes_of kept) n ≡ option_map write_of (slice_get kept (n - 1))
      there = rw z (slice_get-map write_of kept (n - 1))

      by_kept : (o : Option (Recorded K)) → o ≡ slice_get kept (n - 1) → FindsKept (writes_of kept) n o
      by_kept None e = there ∙ ap (option_map write_of) (sym e)
      by_kept (Some r) e = record { is = there ∙ ap (option_map write_of) (sym e); origin = is.origins (n - 1) r (sym e) }

  pub none_at_zero : (commits : List (Write K)) (n : ℕ) → nat_eq n 0 ≡ true → FindsKept commits n None
  none_at_zero commits n z = rw z refl

  module _ (commits : List (Write K)) (n : ℕ) where
    -- the row of a move has the tag of its insert
    pub moved_row : (key : K) (row origin : ℕ) (tag : ℕ) → IsKeptAt commits n (recorded.Move key row origin) → Some tag ≡ inserted_tag (commit_at commits origin)
        → Some (record { row = n; key = key; tag = tag }) ≡ row_at commits n
    moved_row key row origin tag is told =
        let made = row_of_move commits n row key is.origin.found is.is is.origin.is_row in
        let insert = commit_taken commits (n - 1) origin (Insert is.origin.key is.origin.found.tag) is.origin.inserted in
        let t : Some tag ≡ Some is.origin.found.tag = told ∙ ap inserted_tag insert in
        let same : tag ≡ is.origin.found.tag = cc in
        ap (λ x. Some (record { row = n; key = key; tag = x })) same ∙ sym made

    pub moved_has_tag : (key : K) (row origin : ℕ) → IsKeptAt commits n (recorded.Move key row origin) → None ≡ inserted_tag (commit_at commits origin) → ⊥
    moved_has_tag key row origin is told =
        let insert = commit_taken commits (n - 1) origin (Insert is.origin.key is.origin.found.tag) is.origin.inserted in
        let t : None ≡ Some is.origin.found.tag = told ∙ ap inserted_tag insert in
        cc

    pub inserted_row : (key : K) (tag : ℕ) → IsKeptAt commits n (recorded.Insert key tag) → Some (record { row = n; key = key; tag = tag }) ≡ row_at commits n
    inserted_row key tag is = sym (row_of_insert commits n key tag is.is)

    pub no_row_of_delete : (row : ℕ) → IsKeptAt commits n (recorded.Delete row) → None ≡ row_at commits n
    no_row_of_delete row is = sym (row_of_delete commits n row is.is)

    -- the insert whose tag a live row has
    pub live_origin : status_of commits n ≡ Live → (r : Recorded K) → IsKeptAt commits n r → HasTagOf commits n (origin_of n r)
    live_origin live (recorded.Insert key tag) is = record {
      found = record { row = n; key = key; tag = tag };
      is_row = row_of_insert commits n key tag is.is;
      key = key;
      inserted = is.is;
    }
    live_origin live (recorded.Delete row) is =
        let l = live_commit commits n live in
        let c : Some (Delete row) ≡ Some l.write = sym is.is ∙ l.is in
        let d : Delete row ≡ l.write = cc in
        let m : false ≡ true = ap makes d ∙ l.makes_it in
        absurd (cc)
    live_origin live (recorded.Move key row origin) is = record {
      found = moved n key is.origin.found;
      is_row = row_of_move commits n row key is.origin.found is.is is.origin.is_row;
      key = is.origin.key;
      inserted = commit_taken commits (n - 1) origin (Insert is.origin.key is.origin.found.tag) is.origin.inserted;
    }

    pub live_is_kept : status_of commits n ≡ Live → commit_at commits n ≡ None → ⊥
    live_is_kept live none = let l = live_commit commits n live in let c : None ≡ Some l.write = sym none ∙ l.is in absurd (cc)

  -- with a commit more
  pub kept_push : (kept : List (Recorded K)) (write : Write K) (r : Recorded K) → IsKept kept → MayFollow (writes_of kept) write → KeepsWrite (writes_of kept) write r → IsKept (kept ++ r ∷ [])
  kept_push kept write r is follows keeps = record {
    legal = subst (λ cs. IsLegal cs) (sym writes) (legal_push (writes_of kept) write is.legal follows);
    origins = λ place x e. elim (slice_get_push kept r x place e) [
      | inl p ↦
          let l : place ≤ length (writes_of kept) = omega (arith, p.1, lengths) in
          subst (λ cs. HasOrigin cs x) (sym (ap (take place) writes ∙ take_before (writes_of kept) write place l)) (is.origins place x p.0)
      | inr p ↦
          let n : place ≡ length (writes_of kept) = omega (arith, p.0, lengths) in
          let t : take place (writes_of (kept ++ r ∷ [])) ≡ writes_of kept = ap (take place) writes ∙ rw n (take_at (writes_of kept) (write ∷ []) (length (writes_of kept)) refl) in
          subst (λ y. HasOrigin (take place (writes_of (kept ++ r ∷ []))) y) p.1 (subst (λ cs. HasOrigin cs r) (sym t) keeps.origin)
    ];
  }
    where
      writes : writes_of (kept ++ r ∷ []) ≡ writes_of kept ++ write ∷ []
      writes = map-append write_of kept (r ∷ []) ∙ ap (λ w. writes_of kept ++ w ∷ []) keeps.is

      lengths : length (writes_of kept) ≡ length kept
      lengths = length-map kept write_of

  pub writes_push : (kept : List (Recorded K)) (write : Write K) (r : Recorded K) → write_of r ≡ write → writes_of (kept ++ r ∷ []) ≡ writes_of kept ++ write ∷ []
  writes_push kept write r is = map-append write_of kept (r ∷ []) ∙ ap (λ w. writes_of kept ++ w ∷ []) is

  pub tracked_kept : (kept longer : List (Recorded K)) (write : Write K) (r : Recorded K) (ended flags : List Bool) → KeepsWrite (writes_of kept) write r → IsTracked (writes_of kept) ended → MayFollow (writes_of kept) write
      → longer ≡ kept ++ r ∷ [] → flags ≡ flags_with ended write → IsTracked (writes_of longer) flags
  tracked_kept kept longer write r ended flags keeps t follows e l =
      subst (λ ls. IsTracked (writes_of longer) ls) (sym l)
      (subst (λ cs. IsTracked cs (flags_with ended write)) (sym (ap writes_of e ∙ writes_push kept write r keeps.is)) (tracked_push (writes_of kept) ended write t follows))
