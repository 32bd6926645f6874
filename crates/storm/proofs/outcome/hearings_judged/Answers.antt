use Rattle.std.proofs.Common.{rules, arith, ◌≡◌, ◌++◌, ◌∷◌, [], subst, sym}
use Rattle.storm.specs.Hearing.{TellsHearing, TellsHearings}
use Rattle.storm.proofs.Judging.{all_told, one_told}
use Rattle.storm.proofs.outcome.hearings_judged.Goals as goal

pub loop-hearing-preserved : goal.loop-hearing-preserved
loop-hearing-preserved c =
    let commits = c.args.commits.now in
    let hearings = c.args.hearings.now in
    let told = c.in_ok-verdict.verdict in
    let fate : TellsHearing commits c.hearing-item.result told = rw c.as_view.ensures at c.in_ok-verdict.ensures.told in
    let items : c.push.new.self.items ≡ c.loop-hearing.verdicts.items ++ told ∷ [] = search rules in
    λ rest left.
    subst (λ l. TellsHearings commits hearings (l ++ rest)) (sym items)
    (one_told (TellsHearing commits) hearings c.loop-hearing.hearing-index c.loop-hearing.verdicts.items c.hearing-item.result told (omega (arith, c.loop-hearing-test.true)) c.hearing-item.is fate c.loop-hearing.invariant rest left)

pub returns-clause-told : goal.returns-clause-told
returns-clause-told c =
    all_told (TellsHearing c.args.commits.now) c.args.hearings.now c.loop-hearing.hearing-index c.loop-hearing.verdicts.items (omega (arith, c.loop-hearing-test.false)) c.loop-hearing.invariant
