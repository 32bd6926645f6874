-- Every change of an event keeps a world sound.
use Rattle.std.proofs.Common.{◌≡◌, ◌+◌, ◌<◌, ◌≤◌, ℕ, true, Bool, map, filter, List, [], ◌∷◌, ◌++◌, length, Some, None, refl, sym, arith, subst, All, length-append}
use Rattle.std.proofs.lemmas.List.{length-map}
use Rattle.std.proofs.lemmas.List.Elements.{All-nil}
use Rattle.std.proofs.lemmas.List.Sums.{length-filter, count_by-le-length}
use Rattle.change_list.specs.declared.config.Config.{Config}
use Rattle.change_list.specs.Configs.{IsWithinLimits}
use Rattle.change_list.specs.declared.write.Write.TheVariants.{Insert, Delete, Move}
use Rattle.change_list.specs.declared.write.Status.TheVariants.{Live}
use Rattle.change_list.specs.declared.item.Row.{Row}
use Rattle.change_list.specs.Changes.{row_at, status_of}
use Rattle.change_list.proofs.Tracking.{legal_push}
use Rattle.row_version.specs.Entries.{Entry, marked, is_needed}
use Rattle.page_table.specs.Trees.{Tree, page_at, after_rows, new_tree}
use Rattle.page_table.specs.Weights.{weigh}
use Rattle.split.specs.SearchTrees.{SearchTree}
use Rattle.split.specs.SearchTrees.{IsSearchTree, with_tree}
use Rattle.split.proofs.Potential.{few_pages, new_potential, rows_potential}
use Rattle.split.proofs.Done.{IsDone}
use Rattle.split.proofs.MoveDone.{leaf_within, moved, move_potential}
use Rattle.split.proofs.RowsDone.{buried}
use Rattle.split.specs.Tests.{PlacePasses, is_leaf}
use Rattle.change_list.proofs.Made.{row_found}
use Rattle.std.proofs.Common.{Result, Ok, Err}
use Rattle.std.specs.Prelude.{OnOk, OnErr}
use Rattle.key_class.specs.declared.refusal.Refusal.{Refusal}
use Rattle.split.proofs.NewSearchTree.{new_search_tree}
use Rattle.scan.proofs.Agreement.{new_agrees, keeps_agrees, place_agrees, bury_agrees, remade_agrees, sweep_agrees}
use Rattle.scan.specs.Agreement.{is_row}
use Rattle.page_table.specs.LeafChanges.{after_bury, after_move, after_place, after_sweep}
use Rattle.scan.proofs.Scans.{keeps_stack, rows_length, rows_stack}
use Rattle.scan.proofs.Opening.{open_stack}
use Rattle.cursor.specs.OpenCursors.{OpenCursor}
use Rattle.descent.specs.Finders.{OpenFinder, IsSeeking}
use Rattle.descent.proofs.Seeking.{seeking_beside, seeking_moved, seeking_placed, seeking_buried, seeking_swept}
use Rattle.world.specs.Serials.{without, Rise}
use Rattle.world.specs.States.{State, new_state, with_pages, with_cursor, IsAtWork, HasFinders, IsSoundWorld}
use Rattle.world.proofs.FinderLists.{finders_kept, finders_without}
use Rattle.world.proofs.Serials.{rise_push, rise_put, rise_without, all_put, all_push, all_without, length_put, length_without}

module _ {K A : Type 0} (is_cover : K → K → Bool) where
  all_kept : (P Q : OpenCursor K A → Type 0) → ((k : OpenCursor K A) → P k → Q k) → (ks : List (OpenCursor K A)) → All P ks → All Q ks
  all_kept P Q h ks a = λ i d l. h _ (a i d l)

  module _ (old : State K A) (s : IsSoundWorld is_cover old) where
    -- a step that moves entries and changes none
    pub moved_sound : (tree : Tree K) → IsDone is_cover old.search.tree tree old.search.fan old.search.least old.search.limit → IsSoundWorld is_cover (with_pages old tree)
    moved_sound tree d = record {
      tree = d.inv;
      legal = s.legal;
      agrees = keeps_agrees old.search.tree tree old.commits d.kept d.moved s.agrees;
      at_work = all_kept (λ k. IsAtWork old.search.tree old.commits k) (λ k. IsAtWork tree old.commits k) (λ k h. record { stack = keeps_stack old.search.tree tree k.stack d.kept h.stack; from_opening = h.from_opening; within = h.within }) old.cursors s.at_work;
      serials = s.serials;
      grown = omega (arith, s.grown, d.no_higher);
      few_commits = s.few_commits;
      commit_limit = s.commit_limit;
      few_cursors = s.few_cursors;
      last_serial = s.last_serial;
      finders = finders_kept old.search.tree old.commits old.finders old.last_finder s.finders tree old.commits (λ k h. seeking_moved old.search.tree old.commits k tree d.kept h);
    }

    -- a call that makes such a step, or is refused
    pub call_sound : {X : Type 0} (result : Result X Refusal) (search : SearchTree K) (tree : Tree K) → OnOk result (search ≡ with_tree old.search tree) → OnErr result (search ≡ old.search)
        → OnOk result (IsDone is_cover old.search.tree tree old.search.fan old.search.least old.search.limit) → IsSoundWorld is_cover (record old { search = search })
    call_sound (Ok x) search tree made same d = subst (λ t. IsSoundWorld is_cover (record old { search = t })) (sym made) (moved_sound tree d)
    call_sound (Err why) search tree made same d = subst (λ t. IsSoundWorld is_cover (record old { search = t })) (sym same) s

    -- a commit whose row goes to a leaf
    pub placed_sound : (p : ℕ) → p < length old.search.tree.pages → (key : K) (tag : ℕ) → length old.commits < old.limit
        → IsSearchTree is_cover (after_rows old.search.tree p ((page_at old.search.tree p).rows ++ (record { key = key; row = length old.commits + 1; tag = tag; died = None }) ∷ [])) old.search.fan old.search.least old.search.limit
        → IsSoundWorld is_cover (record old {
          search = record old.search { tree = after_rows old.search.tree p ((page_at old.search.tree p).rows ++ (record { key = key; row = length old.commits + 1; tag = tag; died = None }) ∷ []) };
          commits = old.commits ++ Insert key tag ∷ [];
        })
    placed_sound p l key tag room sound =
        let rows : List (Entry K) = (page_at old.search.tree p).rows ++ (record { key = key; row = length old.commits + 1; tag = tag; died = None }) ∷ [] in
        let n : length (old.commits ++ Insert key tag ∷ []) ≡ length old.commits + 1 = length-append old.commits (Insert key tag ∷ []) in
        record {
          tree = sound;
          legal = legal_push old.commits (Insert key tag) s.legal tt;
          agrees = place_agrees is_cover old.search.tree old.search.fan s.tree.sound old.commits s.legal s.agrees p l key tag;
          at_work = all_kept (λ k. IsAtWork old.search.tree old.commits k) (λ k. IsAtWork (after_rows old.search.tree p rows) (old.commits ++ Insert key tag ∷ []) k) (λ k h. record { stack = rows_stack old.search.tree p rows k.stack h.stack; from_opening = h.from_opening; within = omega (arith, h.within, n) }) old.cursors s.at_work;
          serials = s.serials;
          grown = omega (arith, s.grown, n, rows_potential old.search.fan old.search.tree p rows 1 l (omega (arith, length-append (page_at old.search.tree p).rows ((record { key = key; row = length old.commits + 1; tag = tag; died = None }) ∷ []))));
          few_commits = omega (arith, n, room);
          commit_limit = s.commit_limit;
          few_cursors = s.few_cursors;
          last_serial = s.last_serial;
          finders = finders_kept old.search.tree old.commits old.finders old.last_finder s.finders (after_rows old.search.tree p rows) (old.commits ++ Insert key tag ∷ [])
              (λ k h. seeking_placed is_cover old.search.fan old.search.tree s.tree.sound old.commits k h p l key tag);
        }

    -- a commit that deletes a row where it stands
    pub buried_sound : (p : ℕ) → p < length old.search.tree.pages → (row : ℕ) → status_of old.commits row ≡ Live → 1 ≤ weigh (is_row row) (page_at old.search.tree p).rows → length old.commits < old.limit
        → IsSearchTree is_cover (after_bury old.search.tree p row (length old.commits + 1)) old.search.fan old.search.least old.search.limit
        → (f : ℕ) → IsSoundWorld is_cover (record old {
          search = record old.search { tree = after_bury old.search.tree p row (length old.commits + 1) };
          commits = old.commits ++ Delete row ∷ [];
          finders = without (λ k. k.serial) f old.finders;
        })
    buried_sound p l row live there room sound f =
        let rows : List (Entry K) = map (marked row (length old.commits + 1)) (page_at old.search.tree p).rows in
        let n : length (old.commits ++ Delete row ∷ []) ≡ length old.commits + 1 = length-append old.commits (Delete row ∷ []) in
        let kept = finders_kept old.search.tree old.commits old.finders old.last_finder s.finders (after_rows old.search.tree p rows) (old.commits ++ Delete row ∷ [])
        (λ k h. seeking_buried is_cover old.search.fan old.search.tree s.tree.sound old.commits k h p l row (Delete row)) in
        record {
          tree = sound;
          legal = legal_push old.commits (Delete row) s.legal live;
          agrees = bury_agrees is_cover old.search.tree old.search.fan s.tree.sound old.commits s.legal s.agrees p l row live there;
          at_work = all_kept (λ k. IsAtWork old.search.tree old.commits k) (λ k. IsAtWork (after_rows old.search.tree p rows) (old.commits ++ Delete row ∷ []) k) (λ k h. record { stack = rows_stack old.search.tree p rows k.stack h.stack; from_opening = h.from_opening; within = omega (arith, h.within, n) }) old.cursors s.at_work;
          serials = s.serials;
          grown = omega (arith, s.grown, n, rows_potential old.search.fan old.search.tree p rows 0 l (omega (arith, length-map (page_at old.search.tree p).rows (marked row (length old.commits + 1)))));
          few_commits = omega (arith, n, room);
          commit_limit = s.commit_limit;
          few_cursors = s.few_cursors;
          last_serial = s.last_serial;
          finders = finders_without (after_rows old.search.tree p rows) (old.commits ++ Delete row ∷ []) old.finders old.last_finder kept f;
        }

    -- a commit that moves a row from where it stands to a leaf that takes it
    pub row_moved_sound : (p : ℕ) → p < length old.search.tree.pages → is_leaf old.search.tree p ≡ true → (row : ℕ) → status_of old.commits row ≡ Live → 1 ≤ weigh (is_row row) (page_at old.search.tree p).rows
        → length old.commits < old.limit → (leaf : ℕ) (key : K) (r : Row K) → row_at old.commits row ≡ Some r → PlacePasses is_cover old.search leaf key
        → (f : ℕ) → IsSoundWorld is_cover (record old {
          search = record old.search { tree = after_move old.search.tree p row (length old.commits + 1) leaf (record { key = key; row = length old.commits + 1; tag = r.tag; died = None }) };
          commits = old.commits ++ Move row key ∷ [];
          finders = without (λ k. k.serial) f old.finders;
        })
    row_moved_sound p l here row live there room leaf key r found passes f =
        let number : ℕ = length old.commits + 1 in
        let entry : Entry K = record { key = key; row = length old.commits + 1; tag = r.tag; died = None } in
        let dead : Tree K = after_bury old.search.tree p row (length old.commits + 1) in
        let rows : List (Entry K) = map (marked row (length old.commits + 1)) (page_at old.search.tree p).rows in
        let n : length (old.commits ++ Move row key ∷ []) ≡ length old.commits + 1 = length-append old.commits (Move row key ∷ []) in
        let same : length dead.pages ≡ length old.search.tree.pages = rows_length old.search.tree p rows in
        let tree : IsSearchTree is_cover dead old.search.fan old.search.least old.search.limit = buried is_cover old.search.tree old.search.fan old.search.least old.search.limit s.tree p here row (length old.commits + 1) in
        let leaf_there : leaf < length old.search.tree.pages = leaf_within is_cover old.search leaf key passes in
        let k : leaf < length dead.pages = omega (arith, leaf_there, same) in
        let kept = finders_kept old.search.tree old.commits old.finders old.last_finder s.finders (after_place dead leaf entry) (old.commits ++ Move row key ∷ [])
        (λ k h. seeking_beside is_cover old.search.fan dead tree.sound (old.commits ++ Move row key ∷ []) k (seeking_buried is_cover old.search.fan old.search.tree s.tree.sound old.commits k h p l row (Move row key)) leaf
        (omega (arith, leaf_there, same)) entry (λ e. let w = row_found old.commits k.row (record { row = k.row; key = k.key; tag = h.made.0 }) h.made.1 in omega (arith, e, w.2))) in
        record {
          tree = moved is_cover old.search.tree old.search.fan old.search.least old.search.limit s.tree p row (length old.commits + 1) leaf entry here passes;
          legal = legal_push old.commits (Move row key) s.legal live;
          agrees = remade_agrees is_cover dead old.search.fan tree.sound old.commits s.legal row live (bury_agrees is_cover old.search.tree old.search.fan s.tree.sound old.commits s.legal s.agrees p l row live there) key r found leaf k;
          at_work = all_kept (λ k. IsAtWork old.search.tree old.commits k) (λ k. IsAtWork (after_place dead leaf entry) (old.commits ++ Move row key ∷ []) k) (λ k h. record {
            stack = rows_stack dead leaf ((page_at dead leaf).rows ++ entry ∷ []) k.stack (rows_stack old.search.tree p rows k.stack h.stack);
            from_opening = h.from_opening;
            within = omega (arith, h.within, n);
          }) old.cursors s.at_work;
          serials = s.serials;
          grown = omega (arith, s.grown, n, move_potential old.search.fan old.search.tree p row (length old.commits + 1) leaf entry l leaf_there);
          few_commits = omega (arith, n, room);
          commit_limit = s.commit_limit;
          few_cursors = s.few_cursors;
          last_serial = s.last_serial;
          finders = finders_without (after_place dead leaf entry) (old.commits ++ Move row key ∷ []) old.finders old.last_finder kept f;
        }

    -- a leaf without the dead that nobody needs
    pub swept_sound : (p : ℕ) → p < length old.search.tree.pages → (horizon : ℕ) → IsSearchTree is_cover (after_sweep old.search.tree p horizon) old.search.fan old.search.least old.search.limit
        → IsSoundWorld is_cover (with_pages old (after_sweep old.search.tree p horizon))
    swept_sound p l horizon sound =
        let rows : List (Entry K) = filter (is_needed horizon) (page_at old.search.tree p).rows in
        record {
          tree = sound;
          legal = s.legal;
          agrees = sweep_agrees is_cover old.search.tree old.search.fan s.tree.sound old.commits s.agrees p l horizon;
          at_work = all_kept (λ k. IsAtWork old.search.tree old.commits k) (λ k. IsAtWork (after_rows old.search.tree p rows) old.commits k) (λ k h. record { stack = rows_stack old.search.tree p rows k.stack h.stack; from_opening = h.from_opening; within = h.within }) old.cursors s.at_work;
          serials = s.serials;
          grown = omega (arith, s.grown, rows_potential old.search.fan old.search.tree p rows 0 l (omega (arith, length-filter (is_needed horizon) (page_at old.search.tree p).rows, count_by-le-length (is_needed horizon) (page_at old.search.tree p).rows)));
          few_commits = s.few_commits;
          commit_limit = s.commit_limit;
          few_cursors = s.few_cursors;
          last_serial = s.last_serial;
          finders = finders_kept old.search.tree old.commits old.finders old.last_finder s.finders (after_rows old.search.tree p rows) old.commits
              (λ k h. seeking_swept is_cover old.search.fan old.search.tree s.tree.sound old.commits k h p l s.agrees horizon);
        }

    -- other finders
    pub sought_sound : (ks : List (OpenFinder K)) (last : ℕ) → HasFinders old.search.tree old.commits ks last → IsSoundWorld is_cover (record old { finders = ks; last_finder = last })
    sought_sound ks last h = record {
      tree = s.tree;
      legal = s.legal;
      agrees = s.agrees;
      at_work = s.at_work;
      serials = s.serials;
      grown = s.grown;
      few_commits = s.few_commits;
      commit_limit = s.commit_limit;
      few_cursors = s.few_cursors;
      last_serial = s.last_serial;
      finders = h;
    }

    pub opened_sound : (k : OpenCursor K A) → k.serial ≡ old.last + 1 → IsAtWork old.search.tree old.commits k → length old.cursors < 256 → old.last < 4294967295
        → IsSoundWorld is_cover (record old { cursors = old.cursors ++ k ∷ []; last = old.last + 1 })
    opened_sound k e h few given = record {
      tree = s.tree;
      legal = s.legal;
      agrees = s.agrees;
      at_work = all_push (λ x. x.serial) (λ k. IsAtWork old.search.tree old.commits k) k old.cursors h s.at_work;
      serials = subst (λ n. Rise (λ x. x.serial) 0 n (old.cursors ++ k ∷ [])) e (rise_push (λ x. x.serial) 0 old.last old.cursors k (omega (arith, e)) s.serials);
      grown = s.grown;
      few_commits = s.few_commits;
      commit_limit = s.commit_limit;
      few_cursors = omega (arith, few, length-append old.cursors (k ∷ []));
      last_serial = omega (arith, given);
      finders = s.finders;
    }

    pub turned_sound : (k : OpenCursor K A) → IsAtWork old.search.tree old.commits k → IsSoundWorld is_cover (with_cursor old k)
    turned_sound k h = record {
      tree = s.tree;
      legal = s.legal;
      agrees = s.agrees;
      at_work = all_put (λ x. x.serial) (λ k. IsAtWork old.search.tree old.commits k) k old.cursors h s.at_work;
      serials = rise_put (λ x. x.serial) k 0 old.last old.cursors s.serials;
      grown = s.grown;
      few_commits = s.few_commits;
      commit_limit = s.commit_limit;
      few_cursors = omega (arith, s.few_cursors, length_put (λ (x : OpenCursor K A). x.serial) k old.cursors);
      last_serial = s.last_serial;
      finders = s.finders;
    }

    pub closed_sound : (c : ℕ) → IsSoundWorld is_cover (record old { cursors = without (λ x. x.serial) c old.cursors })
    closed_sound c = record {
      tree = s.tree;
      legal = s.legal;
      agrees = s.agrees;
      at_work = all_without (λ x. x.serial) (λ k. IsAtWork old.search.tree old.commits k) c old.cursors s.at_work;
      serials = rise_without (λ x. x.serial) c 0 old.last old.cursors s.serials;
      grown = s.grown;
      few_commits = s.few_commits;
      commit_limit = s.commit_limit;
      few_cursors = omega (arith, s.few_cursors, length_without (λ (x : OpenCursor K A). x.serial) c old.cursors);
      last_serial = s.last_serial;
      finders = s.finders;
    }

-- a new world is sound
pub new_sound_world : {K A : Type 0} (is_cover : K → K → Bool) (config : Config) → IsWithinLimits config → IsSoundWorld is_cover (new_state {K = K} {A = A} config)
new_sound_world {K} is_cover config limits = record {
  tree = new_search_tree is_cover new_tree config.fan config.least config.pages refl limits.fan.below limits.least.above limits.least.below limits.pages.above limits.pages.below;
  legal = λ place write h. absurd (cc);
  agrees = new_agrees;
  at_work = All-nil (λ k. IsAtWork new_tree [] k);
  serials = omega arith;
  grown = new_potential K config.fan (omega (arith, limits.fan.above));
  few_commits = omega arith;
  commit_limit = limits.commits.below;
  few_cursors = omega arith;
  last_serial = omega arith;
  finders = record { seeking = All-nil (λ k. IsSeeking new_tree [] k); serials = omega arith; few = omega arith; last_serial = omega arith };
}

-- there is at most one page more than there were commits
pub grown_pages : {K A : Type 0} (is_cover : K → K → Bool) (s : State K A) → IsSoundWorld is_cover s → length s.search.tree.pages ≤ length s.commits + 1
grown_pages is_cover s inv = omega (arith, few_pages s.search.fan s.search.tree, inv.grown)

-- a cursor at the present commits whose scan begins at the root
pub fresh_at_work : {K A : Type 0} (is_cover : K → K → Bool) (s : State K A) → IsSoundWorld is_cover s → (k : OpenCursor K A) (opened counter : ℕ) → opened ≡ length s.commits → counter ≡ s.search.tree.counter
    → k.stack ≡ (record { page = 0; memo = counter }) ∷ [] → k.opened ≡ opened → k.position ≡ opened → IsAtWork s.search.tree s.commits k
fresh_at_work is_cover s inv k opened counter o c stack e p = record {
  stack = rw (stack, c) (open_stack is_cover s.search.tree s.search.fan inv.tree.sound);
  from_opening = omega (arith, e, p);
  within = omega (arith, p, o);
}
