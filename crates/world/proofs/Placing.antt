-- The event that places a row.
use Rattle.std.proofs.Common.{◌≡◌, ◌+◌, ◌<◌, ◌≤◌, ℕ, true, false, List, [], ◌∷◌, ◌++◌, length, Some, None, inl, inr, refl, sym, ◌∙◌, arith}
use Rattle.std.specs.Prelude.{nat_le, nat_lt, nat_eq}
use Rattle.key_class.specs.Rules.{Rules}
use Rattle.mailbox.specs.Outlets.{Rule}
use Rattle.key_class.specs.declared.refusal.Refusal.{Refusal}
use Rattle.key_class.specs.declared.refusal.Refusal.TheVariants as refusal
use Rattle.std.proofs.lemmas.Bool.{and_parts}
use Rattle.change_list.specs.declared.write.Write.{Write}
use Rattle.change_list.specs.declared.write.Write.TheVariants.{Insert}
use Rattle.row_version.specs.Entries.{Entry}
use Rattle.page_table.specs.Trees.{page_at, after_rows}
use Rattle.split.specs.SearchTrees.{SearchTree, with_tree}
use Rattle.split.specs.Tests.{first_failing, place_tests}
use Rattle.split.proofs.RowsDone.{placeable}
use Rattle.world.specs.declared.event.Event.TheVariants as event
use Rattle.world.specs.declared.reply.Reply.TheVariants as reply
use Rattle.world.specs.Stamps.{Stamp}
use Rattle.world.specs.States.{State, IsNextStamp, IsSoundWorld}
use Rattle.world.specs.Steps.{tests, IsRefused, IsCarriedOut}
use Rattle.world.proofs.Sounding.{placed_sound}
use Rattle.world.proofs.PageSteps.{placed_tree}
use Rattle.world.proofs.Refusing.{failing_first, failing_later, fails_at, passes_at, passed_first, passed_at}

module _ {K A : Type 0} (rules : Rules K A) (rule : Rule) (old : State K A) (page : ℕ) (key : K) (tag : ℕ) where
  pub place_passed : first_failing (place_tests rules.is_cover old.search page key) ≡ None → length old.commits < old.limit → first_failing (tests rules rule old (event.Place page key tag)) ≡ None
  place_passed h room =
      let t : nat_le old.limit (length old.commits) ≡ false = search (arith, room) in
      failing_later (place_tests rules.is_cover old.search page key) ((nat_le old.limit (length old.commits), refusal.CommitsFull) ∷ []) h ∙ passes_at _ refusal.CommitsFull [] t

module _ {K A : Type 0} (rules : Rules K A) (rule : Rule) (old : State K A) (page : ℕ) (key : K) (tag : ℕ) where
  pub place_refused : (new : State K A) (why : Refusal) → new ≡ old → first_failing (place_tests rules.is_cover old.search page key) ≡ Some why → IsRefused rules rule old (event.Place page key tag) why new
  place_refused new why same h = record {
    cause = inl (failing_first (place_tests rules.is_cover old.search page key) ((nat_le old.limit (length old.commits), refusal.CommitsFull) ∷ []) why h);
    unchanged = same;
  }

  pub place_full : first_failing (place_tests rules.is_cover old.search page key) ≡ None → old.limit ≤ length old.commits → IsRefused rules rule old (event.Place page key tag) refusal.CommitsFull old
  place_full h full =
      let t : nat_le old.limit (length old.commits) ≡ true = search (arith, full) in
      record {
        cause = inl (failing_later (place_tests rules.is_cover old.search page key) ((nat_le old.limit (length old.commits), refusal.CommitsFull) ∷ []) h ∙ fails_at _ refusal.CommitsFull [] t);
        unchanged = refl;
      }

  pub place_wanting : (new : State K A) (why : Refusal) → new ≡ old → first_failing (place_tests rules.is_cover old.search page key) ≡ None → length old.commits < old.limit → why ≡ refusal.OutOfMemory
      → IsRefused rules rule old (event.Place page key tag) why new
  place_wanting new why same h room m = record { cause = inr (place_passed rules rule old page key tag h room, m); unchanged = same }

module _ {K A : Type 0} (rules : Rules K A) (rule : Rule) (old : State K A) (page : ℕ) (key : K) (tag : ℕ) (passed : first_failing (place_tests rules.is_cover old.search page key) ≡ None) where
  pub page_exists : page < length old.search.tree.pages
  page_exists =
      let here = (placeable rules.is_cover old.search page key passed).here in
      let both = and_parts (nat_lt page (length old.search.tree.pages)) (nat_eq (page_at old.search.tree page).level 0) here in
      search (arith, both.0)

  module _ (search' : SearchTree K) (commits : List (Write K)) (entry : Entry K) (is : entry ≡ record { key = key; row = length old.commits + 1; tag = tag; died = None })
      (placed : search' ≡ with_tree old.search (after_rows old.search.tree page ((page_at old.search.tree page).rows ++ entry ∷ []))) (pushed : commits ≡ old.commits ++ Insert key tag ∷ [])
      (room : length old.commits < old.limit) where
    pub place_sound : IsSoundWorld rules.is_cover old → IsSoundWorld rules.is_cover (record { search = search'; limit = old.limit; commits = commits; cursors = old.cursors; last = old.last; finders = old.finders; last_finder = old.last_finder })
    place_sound s = rw (placed, pushed, is) (placed_sound rules.is_cover old s page page_exists key tag room (placed_tree rules.is_cover old.search s.tree page key passed _ refl))

    pub place_done : (E : Type 0) (seat : ℕ) (stamp : Stamp K) → IsNextStamp old seat (Insert key tag) stamp
        → IsCarriedOut {E = E} rules rule seat old (event.Place page key tag) (reply.Committed stamp) (record { search = search'; limit = old.limit; commits = commits; cursors = old.cursors; last = old.last; finders = old.finders; last_finder = old.last_finder })
    place_done E seat stamp stamped = record {
      passed = place_passed rules rule old page key tag passed room;
      change = record { stamped = stamped; after = rw (placed, pushed, is) refl };
    }

-- where the tests of a placing pass there is room for a commit
pub place_room : {K A : Type 0} (rules : Rules K A) (rule : Rule) (old : State K A) (page : ℕ) (key : K) (tag : ℕ) → first_failing (place_tests rules.is_cover old.search page key ++ (nat_le old.limit (length old.commits), refusal.CommitsFull) ∷ []) ≡ None → length old.commits < old.limit
place_room rules rule old page key tag h =
    let first = passed_first (place_tests rules.is_cover old.search page key) ((nat_le old.limit (length old.commits), refusal.CommitsFull) ∷ []) h in
    let last = sym (failing_later (place_tests rules.is_cover old.search page key) ((nat_le old.limit (length old.commits), refusal.CommitsFull) ∷ []) first) ∙ h in
    let test = (passed_at (nat_le old.limit (length old.commits)) refusal.CommitsFull [] last).0 in
    search (arith, test)
