-- What the events of pages leave of the tree.
use Rattle.std.proofs.Common.{◌≡◌, ℕ, Bool, List, [], ◌∷◌, ◌++◌, Some, None, Ok, Err, Result}
use Rattle.std.specs.Prelude.{OnOk, OnErr}
use Rattle.key_class.specs.declared.sides.Side.{Side}
use Rattle.key_class.specs.declared.refusal.Refusal.{Refusal}
use Rattle.row_version.specs.Entries.{Entry}
use Rattle.page_table.specs.Trees.{page_at, after_rows}
use Rattle.key_class.specs.Rules.{KeyLaws}
use Rattle.split.specs.SearchTrees.{SearchTree, IsSearchTree, with_tree}
use Rattle.split.specs.Steps.{after_split, after_post, after_grow, after_enlarge}
use Rattle.split.specs.Tests.{first_failing, place_tests, enlarge_tests, split_tests, post_tests, grow_tests}
use Rattle.split.proofs.EnlargeDone.{enlarge_done}
use Rattle.split.proofs.SplitDone.{split_done}
use Rattle.split.proofs.GrowDone.{grow_done}
use Rattle.split.proofs.PostDone.{post_done}
use Rattle.split.proofs.RowsDone.{placed, placeable}
use Rattle.world.specs.States.{State, IsSoundWorld}
use Rattle.world.proofs.Sounding.{call_sound}

-- what holds where a call was made
pub on_ok : {X : Type 0} {P Q : Type 0} (result : Result X Refusal) → (P → Q) → OnOk result P → OnOk result Q
on_ok (Ok x) f p = f p
on_ok (Err why) f p = tt

module _ {K A : Type 0} (is_cover : K → K → Bool) (union : K → K → K) (laws : KeyLaws is_cover union) (old : State K A) (inv : IsSoundWorld is_cover old) where
  module _ (result : Result (Unit {0}) Refusal) (search : SearchTree K) (same : OnErr result (search ≡ old.search)) where
    pub enlarged_sound : (page child : ℕ) (key : K) → OnOk result (first_failing (enlarge_tests is_cover old.search page child key) ≡ None)
        → OnOk result (search ≡ with_tree old.search (after_enlarge union old.search.tree page child key)) → IsSoundWorld is_cover (record old { search = search })
    enlarged_sound page child key passed made = call_sound is_cover old inv result search (after_enlarge union old.search.tree page child key) made same
        (on_ok result (λ p. enlarge_done is_cover old.search inv.tree page child key p union laws) passed)

    pub posted_sound : (page child : ℕ) → OnOk result (first_failing (post_tests old.search page child) ≡ None)
        → OnOk result ((sibling : ℕ) × ((page_at old.search.tree child).right ≡ Some sibling) × (search ≡ with_tree old.search (after_post old.search.tree page child sibling))) → IsSoundWorld is_cover (record old { search = search })
    posted_sound page child passed made = go result same passed made
      where
        go : (result : Result (Unit {0}) Refusal) → OnErr result (search ≡ old.search) → OnOk result (first_failing (post_tests old.search page child) ≡ None)
            → OnOk result ((sibling : ℕ) × ((page_at old.search.tree child).right ≡ Some sibling) × (search ≡ with_tree old.search (after_post old.search.tree page child sibling))) → IsSoundWorld is_cover (record old { search = search })
        go (Ok x) s p m = call_sound is_cover old inv (Ok x) search (after_post old.search.tree page child m.0) m.2 s (post_done is_cover old.search inv.tree page child p m.0 m.1 union laws)
        go (Err why) s p m = call_sound is_cover old inv {X = Unit {0}} (Err why) search old.search.tree tt s tt

  pub split_sound : (result : Result ℕ Refusal) (search : SearchTree K) → OnErr result (search ≡ old.search) → (page : ℕ) (sides : List Side) → OnOk result (first_failing (split_tests old.search page sides) ≡ None)
      → OnOk result (search ≡ with_tree old.search (after_split union old.search.tree page sides)) → IsSoundWorld is_cover (record old { search = search })
  split_sound result search same page sides passed made = call_sound is_cover old inv result search (after_split union old.search.tree page sides) made same
      (on_ok result (λ p. split_done is_cover old.search inv.tree page sides p union laws) passed)

  pub grown_sound : (result : Result (ℕ × ℕ) Refusal) (search : SearchTree K) → OnErr result (search ≡ old.search) → (sides : List Side) → OnOk result (first_failing (grow_tests old.search sides) ≡ None)
      → OnOk result (search ≡ with_tree old.search (after_grow union old.search.tree sides)) → IsSoundWorld is_cover (record old { search = search })
  grown_sound result search same sides passed made = call_sound is_cover old inv result search (after_grow union old.search.tree sides) made same
      (on_ok result (λ p. grow_done is_cover old.search inv.tree sides p union laws) passed)

-- the tree with one row more
pub placed_tree : {K : Type 0} (is_cover : K → K → Bool) (s : SearchTree K) → IsSearchTree is_cover s.tree s.fan s.least s.limit → (page : ℕ) (key : K) → first_failing (place_tests is_cover s page key) ≡ None
    → (entry : Entry K) → entry.key ≡ key → IsSearchTree is_cover (after_rows s.tree page ((page_at s.tree page).rows ++ entry ∷ [])) s.fan s.least s.limit
placed_tree is_cover s inv page key passed entry is =
    let p = placeable is_cover s page key passed in
    placed is_cover s.tree s.fan s.least s.limit inv page p.here entry p.room (rw is p.covered)
