use Rattle.std.proofs.Common.{rules, arith, ◌≡◌, ◌++◌, ◌∷◌, [], subst, sym}
use Rattle.key_class.specs.Queries.{query_of}
use Rattle.interval_class.specs.Intervals.{interval_rules}
use Rattle.storm.specs.Looking.{TellsSight, TellsSights}
use Rattle.storm.proofs.Judging.{all_told, one_told}
use Rattle.storm.proofs.outcome.sights_of.Goals as goal

pub loop-looks-preserved : goal.loop-looks-preserved
loop-looks-preserved c =
    let query = query_of c.args.query.now in
    let commits = c.args.commits.now in
    let lookers = c.args.lookers.now in
    let judged = c.in_ok-verdict.ensures in
    let told = c.in_ok-verdict.verdict in
    let fate : TellsSight interval_rules query commits c.looks-item.result told =
    (rw (c.as_view.ensures, c.as_slice.ensures.value) at judged.whole, rw c.as_slice.ensures.value at judged.no_snapshot) in
    let items : c.push.new.self.items ≡ c.loop-looks.verdicts.items ++ told ∷ [] = search rules in
    λ rest left.
    subst (λ l. TellsSights interval_rules query commits lookers (l ++ rest)) (sym items)
    (one_told (TellsSight interval_rules query commits) lookers c.loop-looks.looks-index c.loop-looks.verdicts.items c.looks-item.result told (omega (arith, c.loop-looks-test.true)) c.looks-item.is fate c.loop-looks.invariant rest left)

pub returns-clause-told : goal.returns-clause-told
returns-clause-told c =
    all_told (TellsSight interval_rules (query_of c.args.query.now) c.args.commits.now) c.args.lookers.now c.loop-looks.looks-index c.loop-looks.verdicts.items (omega (arith, c.loop-looks-test.false)) c.loop-looks.invariant
