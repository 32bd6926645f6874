use Rattle.std.proofs.Common.{◌≡◌, ◌++◌, map, drop}
use Rattle.node.specs.Pages.{keys_of}
use Rattle.descent.proofs.step.keys_of.Given as goal

abbrev pub invariant-loop-place : goal.invariant-loop-place
invariant-loop-place g l = l.keys.items ++ map (λ e. e.key) (drop l.place l.page.rows) ≡ map (λ e. e.key) l.page.rows

abbrev pub invariant-loop-place-2 : goal.invariant-loop-place-2
invariant-loop-place-2 g l = l.keys.items ++ map (λ b. b.key) (drop l.place l.page.branches) ≡ keys_of l.page.rows l.page.branches
