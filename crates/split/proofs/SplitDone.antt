-- A split whose tests pass keeps the tree sound and its rows.
use Rattle.std.proofs.Common.{◌≡◌, ℕ, ◌<◌, ◌≤◌, Bool, true, false, ◌&&◌, leb, eqb, List, length, None, count_by, sym, subst, arith}
use Rattle.std.proofs.lemmas.Bool.{ltb-false, leb-false, eqb-false, leb-true, eqb-true, and_parts}
use Rattle.key_class.specs.Splits.{is_left, is_right}
use Rattle.key_class.specs.declared.sides.Side.{Side}
use Rattle.node.specs.Pages.{entries_of}
use Rattle.page_table.specs.Weights.{Same}
use Rattle.page_table.specs.Trees.{Tree, page_at, rows_under}
use Rattle.key_class.specs.Rules.{KeyLaws}
use Rattle.page_table.specs.Keeping.{StandsIn}
use Rattle.page_table.proofs.Entries.{entries_stay}
use Rattle.split.specs.SearchTrees.{SearchTree, IsSearchTree}
use Rattle.split.specs.Steps.{after_split, CanSplit, SidesPart}
use Rattle.split.specs.Tests.{first_failing, split_tests, parts_well}
use Rattle.split.proofs.Passing.{all_pass, not_false, or_false}
use Rattle.split.proofs.Halves.{halves}
use Rattle.split.proofs.Split.{split-length}
use Rattle.split.proofs.SplitUnder.{split_rows}
use Rattle.split.proofs.SplitSound.{split_sound}
use Rattle.split.proofs.StepsKeep.{split_keeps, split_entries}
use Rattle.split.proofs.Potential.{split_potential}
use Rattle.split.proofs.Done.{IsDone, done_as}

module _ {K : Type 0} (is_cover : K → K → Bool) (s : SearchTree K) (inv : IsSearchTree is_cover s.tree s.fan s.least s.limit) (p : ℕ) (sides : List Side) (passed : first_failing (split_tests s p sides) ≡ None) where
  -- what the tests say, in their order
  pub record Passed : Type 0 where
    pub not_root : (p ≡ 0) → ⊥
    pub exists : p < length s.tree.pages
    pub not_owed : (page_at s.tree p).owed ≡ false
    pub hung : (page_at s.tree p).hung ≡ true
    pub full : s.fan ≤ entries_of (page_at s.tree p)
    pub one_a_place : length sides ≡ entries_of (page_at s.tree p)
    pub enough_left : s.least ≤ count_by is_left sides
    pub enough_right : s.least ≤ count_by is_right sides
    pub room : length s.tree.pages < s.limit

  pub all_passed : Passed
  all_passed =
      let h = all_pass (split_tests s p sides) passed in
      let here = or_false (eqb p 0) (leb (length s.tree.pages) p) h.0 in
      let parts = and_parts (eqb (length sides) (entries_of (page_at s.tree p))) (leb s.least (count_by is_left sides) && leb s.least (count_by is_right sides)) (not_false (parts_well s.least (page_at s.tree p) sides) h.1.1.1.1.0) in
      let both = and_parts (leb s.least (count_by is_left sides)) (leb s.least (count_by is_right sides)) parts.1 in
      record {
        not_root = eqb-false p 0 here.0;
        exists = leb-false (length s.tree.pages) p here.1;
        not_owed = h.1.0;
        hung = not_false (page_at s.tree p).hung h.1.1.0;
        full = ltb-false (entries_of (page_at s.tree p)) s.fan h.1.1.1.0;
        one_a_place = eqb-true (length sides) (entries_of (page_at s.tree p)) parts.0;
        enough_left = leb-true s.least (count_by is_left sides) both.0;
        enough_right = leb-true s.least (count_by is_right sides) both.1;
        room = leb-false s.limit (length s.tree.pages) h.1.1.1.1.1.0;
      }

  can : CanSplit s.tree p sides
  can =
      let d = all_passed in
      let part : SidesPart (page_at s.tree p) sides = halves s.tree s.fan (page_at s.tree p) sides (inv.sound.shape p d.exists) d.one_a_place (omega (arith, inv.two_least, d.enough_left)) (omega (arith, inv.two_least, d.enough_right)) in
      record { not_root = d.not_root; exists = d.exists; not_owed = d.not_owed; hung = d.hung; some_left = part.some_left; some_right = part.some_right }

  pub split_done : (union : K → K → K) → KeyLaws is_cover union → IsDone is_cover s.tree (after_split union s.tree p sides) s.fan s.least s.limit
  split_done union laws = record {
    inv = record {
      sound = split_sound is_cover union laws s.tree s.fan inv.sound p sides can;
      two_least = inv.two_least;
      two_parts = inv.two_parts;
      fan_limit = inv.fan_limit;
      page_limit = inv.page_limit;
      within = let d = all_passed in omega (arith, split-length union s.tree p sides, d.room);
    };
    kept = split_keeps is_cover union s.tree s.fan inv.sound p sides can;
    moved = split_entries is_cover union s.tree s.fan inv.sound p sides can (λ e. StandsIn s.tree e) (entries_stay s.tree);
    no_higher = let d = all_passed in split_potential union s.tree s.fan s.least inv.two_least sides p d.exists (inv.sound.shape p d.exists) d.full d.one_a_place d.enough_left d.enough_right;
  }

  -- at every memo
  pub split_same : (union : K → K → K) (q m : ℕ) → q < length s.tree.pages → Same (rows_under (after_split union s.tree p sides) q m) (rows_under s.tree q m)
  split_same union q m l = let d = can in split_rows union s.tree inv.sound.rank inv.sound.ranked p sides d.exists d.not_owed q m l

module _ {K : Type 0} (is_cover : K → K → Bool) (union : K → K → K) (table table' : Tree K) (fan least limit : ℕ) (old : SearchTree K) (view : record { tree = table; fan = fan; least = least; limit = limit } ≡ old)
    (inv : IsSearchTree is_cover table fan least limit) (p : ℕ) (sides : List Side) (passed : first_failing (split_tests old p sides) ≡ None) (made : table' ≡ after_split union table p sides) where
  passed_here : first_failing (split_tests (record { tree = table; fan = fan; least = least; limit = limit }) p sides) ≡ None
  passed_here = subst (λ s. first_failing (split_tests s p sides) ≡ None) (sym view) passed

  pub split_finished : KeyLaws is_cover union → IsDone is_cover old.tree table' fan least limit
  split_finished laws = done_as is_cover table (after_split union table p sides) table' old fan least limit view made (split_done is_cover (record { tree = table; fan = fan; least = least; limit = limit }) inv p sides passed_here union laws)

  pub split_finished_same : (q m : ℕ) → q < length old.tree.pages → Same (rows_under table' q m) (rows_under old.tree q m)
  split_finished_same = subst (λ s. (q m : ℕ) → q < length s.tree.pages → Same (rows_under table' q m) (rows_under s.tree q m)) view
      (subst (λ t. (q m : ℕ) → q < length table.pages → Same (rows_under t q m) (rows_under table q m)) (sym made) (split_same is_cover (record { tree = table; fan = fan; least = least; limit = limit }) inv p sides passed_here union))
