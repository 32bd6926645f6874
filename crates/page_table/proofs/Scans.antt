-- A scan's visit of a sound tree loses no row that matches.
use Rattle.std.proofs.Common.{ℕ, ◌+◌, ◌<◌, ◌≡◌, length, refl, Bool, true, false}
use Rattle.std.proofs.lemmas.List.Elements.{All-weaker}
use Rattle.node.specs.declared.branch.Branch.{Branch}
use Rattle.page_table.proofs.Counting.{false_true}
use Rattle.page_table.proofs.Pruning.{rows_covered}
use Rattle.page_table.proofs.Under.{All-both}
use Rattle.page_table.proofs.Visits.{visit_rows}
use Rattle.page_table.proofs.Weights.{weigh-none}
use Rattle.page_table.specs.Soundness.{BoundsBelow, IsSound}
use Rattle.page_table.specs.Stacks.{pushed, rows_left}
use Rattle.page_table.specs.Trees.{Falls, Tree, page_at, rows_under}
use Rattle.page_table.specs.Weights.{weigh}
use Rattle.row_version.specs.Entries.{Entry}

module _ {K : Type 0} (is_cover : K → K → Bool) (trans : (a b c : K) → is_cover a b ≡ true → is_cover b c ≡ true → is_cover a c ≡ true) (matches consistent : K → Bool)
    (prunes : (bound k : K) → is_cover bound k ≡ true → matches k ≡ true → consistent bound ≡ true) (t : Tree K) (fan : ℕ) (sound : IsSound is_cover fan t) where
  wanted : Branch K → Bool
  wanted b = consistent b.key

  unwanted : (f : Entry K → ℕ) → ((e : Entry K) → matches e.key ≡ false → f e ≡ 0) → (b : Branch K) → b.child < length t.pages → BoundsBelow is_cover t b →
      consistent b.key ≡ false → weigh f (rows_under t b.child t.counter) ≡ 0
  unwanted f quiet b l w off = weigh-none f (rows_under t b.child t.counter)
      (All-weaker (λ (e : Entry K). is_cover b.key e.key ≡ true) (λ (e : Entry K). f e ≡ 0) (λ e c. by_case e c (matches e.key) refl) _
      (rows_covered is_cover trans t fan sound b.key b.child l (w.child, w.sibling)))
    where
      by_case : (e : Entry K) → is_cover b.key e.key ≡ true → (x : Bool) → matches e.key ≡ x → f e ≡ 0
      by_case e c true m = absurd (false_true (consistent b.key) off (prunes b.key e.key c m))
      by_case e c false m = quiet e m

  pub scan_visit : (f : Entry K → ℕ) → ((e : Entry K) → matches e.key ≡ false → f e ≡ 0) → (p m : ℕ) → p < length t.pages →
      weigh f (rows_under t p m) ≡ weigh f (page_at t p).rows + weigh f (rows_left t (pushed t (λ b. consistent b.key) p m))
  scan_visit f quiet p m l = visit_rows t sound.rank sound.ranked (λ b. consistent b.key) p m l f
      (All-both (λ (b : Branch K). Falls (length t.pages) sound.rank p b.child) (λ (b : Branch K). BoundsBelow is_cover t b) (λ (b : Branch K). consistent b.key ≡ false → weigh f (rows_under t b.child t.counter) ≡ 0)
      (λ b d w off. unwanted f quiet b d.0 w off) (page_at t p).branches ((sound.ranked.links p l).down) ((sound.bounded p l).below))
