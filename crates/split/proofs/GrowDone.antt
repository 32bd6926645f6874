-- A growth whose tests pass keeps the tree sound and its rows.
use Rattle.std.proofs.Common.{◌≡◌, ℕ, ◌+◌, ◌<◌, ◌≤◌, Bool, ◌&&◌, leb, eqb, List, length, None, count_by, sym, subst, arith}
use Rattle.std.proofs.lemmas.Bool.{ltb-false, leb-true, eqb-true, and_parts}
use Rattle.key_class.specs.Splits.{is_left, is_right}
use Rattle.key_class.specs.declared.sides.Side.{Side}
use Rattle.node.specs.Pages.{entries_of}
use Rattle.page_table.specs.Weights.{Same}
use Rattle.page_table.specs.Trees.{Tree, page_at, rows_under}
use Rattle.key_class.specs.Rules.{KeyLaws}
use Rattle.page_table.specs.Keeping.{StandsIn}
use Rattle.page_table.proofs.Entries.{entries_stay}
use Rattle.split.specs.SearchTrees.{SearchTree, IsSearchTree}
use Rattle.split.specs.Steps.{after_grow, SidesPart}
use Rattle.split.specs.Tests.{first_failing, grow_tests, parts_well}
use Rattle.split.proofs.Passing.{all_pass, not_false}
use Rattle.split.proofs.Halves.{halves}
use Rattle.split.proofs.Grow.{grow-length}
use Rattle.split.proofs.GrowRows.{grow_rows, can_grow}
use Rattle.split.proofs.GrowSound.{grow_sound}
use Rattle.split.proofs.StepsKeep.{grow_keeps, grow_entries}
use Rattle.split.proofs.Potential.{grow_potential}
use Rattle.split.proofs.Done.{IsDone, done_as}

module _ {K : Type 0} (is_cover : K → K → Bool) (s : SearchTree K) (inv : IsSearchTree is_cover s.tree s.fan s.least s.limit) (sides : List Side) (passed : first_failing (grow_tests s sides) ≡ None) where
  -- what the tests say, in their order
  pub record Passed : Type 0 where
    pub full : s.fan ≤ entries_of (page_at s.tree 0)
    pub one_a_place : length sides ≡ entries_of (page_at s.tree 0)
    pub enough_left : s.least ≤ count_by is_left sides
    pub enough_right : s.least ≤ count_by is_right sides
    pub room : length s.tree.pages + 2 ≤ s.limit

  pub all_passed : Passed
  all_passed =
      let h = all_pass (grow_tests s sides) passed in
      let parts = and_parts (eqb (length sides) (entries_of (page_at s.tree 0))) (leb s.least (count_by is_left sides) && leb s.least (count_by is_right sides)) (not_false (parts_well s.least (page_at s.tree 0) sides) h.1.0) in
      let both = and_parts (leb s.least (count_by is_left sides)) (leb s.least (count_by is_right sides)) parts.1 in
      record {
        full = ltb-false (entries_of (page_at s.tree 0)) s.fan h.0;
        one_a_place = eqb-true (length sides) (entries_of (page_at s.tree 0)) parts.0;
        enough_left = leb-true s.least (count_by is_left sides) both.0;
        enough_right = leb-true s.least (count_by is_right sides) both.1;
        room = ltb-false s.limit (length s.tree.pages + 2) h.1.1.0;
      }

  part : SidesPart (page_at s.tree 0) sides
  part =
      let d = all_passed in
      halves s.tree s.fan (page_at s.tree 0) sides (inv.sound.shape 0 inv.sound.root_exists) d.one_a_place (omega (arith, inv.two_least, d.enough_left)) (omega (arith, inv.two_least, d.enough_right))

  pub grow_done : (union : K → K → K) → KeyLaws is_cover union → IsDone is_cover s.tree (after_grow union s.tree sides) s.fan s.least s.limit
  grow_done union laws = record {
    inv = record {
      sound = grow_sound is_cover union laws s.tree s.fan inv.sound (omega (arith, inv.two_least, inv.two_parts)) sides part;
      two_least = inv.two_least;
      two_parts = inv.two_parts;
      fan_limit = inv.fan_limit;
      page_limit = inv.page_limit;
      within = let d = all_passed in omega (arith, grow-length union s.tree sides, d.room);
    };
    kept = grow_keeps is_cover union s.tree s.fan inv.sound sides part;
    moved = grow_entries is_cover union s.tree s.fan inv.sound sides part (λ e. StandsIn s.tree e) (entries_stay s.tree);
    no_higher = let d = all_passed in grow_potential union s.tree s.fan s.least inv.two_least sides is_cover inv.sound part inv.two_parts d.full d.one_a_place d.enough_left d.enough_right;
  }

  -- at every memo
  pub grow_same : (union : K → K → K) (q m : ℕ) → q < length s.tree.pages → Same (rows_under (after_grow union s.tree sides) q m) (rows_under s.tree q m)
  grow_same union q m l = grow_rows union s.tree inv.sound.rank inv.sound.ranked sides (can_grow is_cover union s.tree s.fan sides inv.sound part) q m l

module _ {K : Type 0} (is_cover : K → K → Bool) (union : K → K → K) (table table' : Tree K) (fan least limit : ℕ) (old : SearchTree K) (view : record { tree = table; fan = fan; least = least; limit = limit } ≡ old)
    (inv : IsSearchTree is_cover table fan least limit) (sides : List Side) (passed : first_failing (grow_tests old sides) ≡ None) (made : table' ≡ after_grow union table sides) where
  passed_here : first_failing (grow_tests (record { tree = table; fan = fan; least = least; limit = limit }) sides) ≡ None
  passed_here = subst (λ s. first_failing (grow_tests s sides) ≡ None) (sym view) passed

  pub grow_finished : KeyLaws is_cover union → IsDone is_cover old.tree table' fan least limit
  grow_finished laws = done_as is_cover table (after_grow union table sides) table' old fan least limit view made (grow_done is_cover (record { tree = table; fan = fan; least = least; limit = limit }) inv sides passed_here union laws)

  pub grow_finished_same : (q m : ℕ) → q < length old.tree.pages → Same (rows_under table' q m) (rows_under old.tree q m)
  grow_finished_same = subst (λ s. (q m : ℕ) → q < length s.tree.pages → Same (rows_under table' q m) (rows_under s.tree q m)) view
      (subst (λ t. (q m : ℕ) → q < length table.pages → Same (rows_under t q m) (rows_under table q m)) (sym made) (grow_same is_cover (record { tree = table; fan = fan; least = least; limit = limit }) inv sides passed_here union))
