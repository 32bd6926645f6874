use Rattle.std.proofs.Common.{◌≡◌, ℕ, ◌+◌, min, take, ap, sym, ◌∙◌, arith}
use Rattle.std.specs.Prelude.{sum_by}
use Rattle.std.proofs.lemmas.List.Sums.{sum_by_more}
use Rattle.feed.specs.Reaches.{greatest_size}
use Rattle.feed.proofs.queries.total_size.Goals as goal

-- what is cut off a sum may be cut off before
capped : (sum total size greatest : ℕ) → total ≡ min sum greatest → min (total + size) greatest ≡ min (sum + size) greatest
capped sum total size greatest h = omega (arith, h)

pub loop-key-preserved : goal.loop-key-preserved
loop-key-preserved g c =
    let size_of = g.C.KeyClass.rules.size_of in
    let keys = c.args.keys.now in
    let i = c.loop-key.key-index in
    let key = c.key-item.result in
    let more = sum_by_more size_of keys i key c.loop-key-test.true in
    let size : c.size.result ≡ size_of key = c.size.ensures in
    c.saturating_add-total.ensures
    ∙ capped (sum_by size_of (take i keys)) c.loop-key.total c.size.result greatest_size c.loop-key.invariant
    ∙ ap (λ n. min n greatest_size) (ap (λ n. sum_by size_of (take i keys) + n) (size ∙ ap size_of c.key-item.is) ∙ sym more)
