-- Where the cursors of a store stand, by those of its world.
use Rattle.std.proofs.Common.{◌≡◌, ◌+◌, ◌<◌, ◌≤◌, inl, inr, ℕ, Bool, true, List, length, map, get_or, Some, refl, sym, ap, subst, ◌∙◌, arith}
use Rattle.std.specs.Prelude.{slice_get, option_map}
use Rattle.std.proofs.lemmas.Bool.{cases_lt}
use Rattle.std.proofs.lemmas.List.Elements.{All-get_or}
use Rattle.std.proofs.lemmas.Option.{slice_get-get_or, slice_get-map}
use Rattle.key_class.specs.Rules.{Rules}
use Rattle.mailbox.specs.Outlets.{Rule}
use Rattle.change_list.proofs.Lists.{slice_get_within}
use Rattle.collector.specs.Horizons.{IsHorizon}
use Rattle.cursor.specs.OpenCursors.{OpenCursor, is_scanning, shown}
use Rattle.writes.proofs.HorizonFacts.{horizon_unique}
use Rattle.world.specs.States as world
use Rattle.store.specs.Stats.{KeepsDead, horizon_in, standing_of}
use Rattle.store.specs.Worlds.{store_state}
use Rattle.store.proofs.Sweeping.{shown_horizon}

module _ {K A : Type 0} (rules : Rules K A) (rule : Rule) (s : world.State K A) where
  -- the horizon that a store shows is that of its world
  pub horizon_is : (least : ℕ) → IsHorizon (length s.commits) s.cursors least → least ≡ horizon_in (store_state rules rule s)
  horizon_is least is = horizon_unique (length s.commits) s.cursors least (horizon_in (store_state rules rule s)) is (shown_horizon rules rule s.search.tree (length s.commits) s.cursors)

  module _ (place : ℕ) (k : OpenCursor K A) (is : k ≡ get_or s.cursors place k) (within : place < length s.cursors) where
    found : slice_get s.cursors place ≡ Some k
    found = slice_get-get_or s.cursors place k within ∙ ap Some (sym is)

    pub shown_at : slice_get (map (shown rules rule s.search.tree) s.cursors) place ≡ Some (shown rules rule s.search.tree k)
    shown_at = slice_get-map (shown rules rule s.search.tree) s.cursors place ∙ ap (option_map (shown rules rule s.search.tree)) found

    pub stands_at : option_map (standing_of (length s.commits)) (slice_get (map (shown rules rule s.search.tree) s.cursors) place) ≡ Some (standing_of (length s.commits) (shown rules rule s.search.tree k))
    stands_at = ap (option_map (standing_of (length s.commits))) shown_at

    pub position_within : (covers : K → K → Bool) → world.IsSoundWorld covers s → k.position ≤ length s.commits
    position_within covers sound =
        let P : OpenCursor K A → Type 0 = λ c. world.IsAtWork s.search.tree s.commits c in
        (subst P (sym is) (All-get_or P s.cursors place k within sound.at_work)).within

    pub keeps_dead : (least : ℕ) → IsHorizon (length s.commits) s.cursors least → is_scanning k.stack ≡ true → k.opened ≡ least → (least ≡ length s.commits → ⊥) → KeepsDead (store_state rules rule s) k.serial
    keeps_dead least horizon scanning opened behind = record {
      place = place;
      cursor = shown rules rule s.search.tree k;
      is = shown_at;
      serial_is = refl;
      scanning = scanning;
      first = opened ∙ horizon_is least horizon;
      behind = omega (arith, opened, horizon.within, behind);
    }

module _ {K A : Type 0} (cursors : List (OpenCursor K A)) (least : ℕ) where
  -- none of the first cursors has pages left to visit and that opening
  abbrev pub NoneBefore : ℕ → Type 0
  NoneBefore count = (at : ℕ) (k : OpenCursor K A) → at < count → slice_get cursors at ≡ Some k → is_scanning k.stack ≡ true → k.opened ≡ least → ⊥

  -- one cursor more
  pub none_more : (count : ℕ) (k : OpenCursor K A) → k ≡ get_or cursors count k → count < length cursors → (is_scanning k.stack ≡ true → k.opened ≡ least → ⊥) → NoneBefore count → NoneBefore (count + 1)
  none_more count k is within other none at c l found scanning opened = elim (cases_lt at count) [
    | inl before ↦ none at c before found scanning opened
    | inr past ↦
        let here : at ≡ count = omega (arith, l, past) in
        let same : Some c ≡ Some k = sym found ∙ ap (slice_get cursors) here ∙ slice_get-get_or cursors count k within ∙ ap Some (sym is) in
        let equal : c ≡ k = cc in
        other (ap (λ (x : OpenCursor K A). is_scanning x.stack) (sym equal) ∙ scanning) (ap (λ (x : OpenCursor K A). x.opened) (sym equal) ∙ opened)
  ]

  -- where not all commits are before the horizon, a cursor has it
  pub some_scans : (commits count : ℕ) → IsHorizon commits cursors least → (least ≡ commits → ⊥) → length cursors ≤ count → NoneBefore count → ⊥
  some_scans commits count horizon behind all none = elim horizon.reached [
    | inl end ↦ behind end
    | inr scan ↦ none scan.at scan.cursor (omega (arith, slice_get_within cursors scan.at scan.cursor scan.is, all)) scan.is scan.scanning scan.opened_is
  ]
