use Rattle.std.proofs.Common.{◌≡◌, ◌↔◌, ℕ, ◌<◌, ◌≤◌, slice_index_or}
use Rattle.set_class.specs.Sets.{IsElementOf}
use Rattle.set_class.proofs.elements.Elements.new.Given as goal

abbrev pub invariant-loop-number : goal.invariant-loop-number
invariant-loop-number l = record {
  taken : (e : ℕ) → IsElementOf l.set e ↔ ((k : ℕ) × (k < l.number-index) × (slice_index_or l.numbers k e ≡ e));
  small : (k : ℕ) → k < l.number-index → slice_index_or l.numbers k 0 ≤ 127;
}
