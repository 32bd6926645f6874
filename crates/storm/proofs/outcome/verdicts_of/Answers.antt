use Rattle.std.proofs.Common.{rules, arith, Some, ◌≡◌, ◌++◌, ◌∷◌, [], subst, sym}
use Rattle.key_class.specs.Queries.{query_of}
use Rattle.interval_class.specs.Intervals.{interval_rules}
use Rattle.storm.specs.Judging.{TellsFate, TellsFates}
use Rattle.storm.proofs.Judging.{all_told, one_told}
use Rattle.storm.proofs.outcome.verdicts_of.Goals.{in-None, in-Some+in_ok-verdict-in-Some}
use Rattle.storm.proofs.outcome.verdicts_of.Goals as goal

pub loop-reading-preserved : goal.loop-reading-preserved
loop-reading-preserved c =
    let query = query_of c.args.query.now in
    let commits = c.args.commits.now in
    let readings = c.args.readings.now in
    let fate : TellsFate interval_rules query commits c.reading-item.result c.match-reading.verdict = elim c.match-reading.branch [
      | in-None w ↦ subst (λ r. TellsFate interval_rules query commits r c.match-reading.verdict) (sym w.in-None.is) w.verdict-is
      | in-Some+in_ok-verdict-in-Some w ↦
          let judged = w.in_ok-verdict-in-Some in
          subst (λ r. TellsFate interval_rules query commits r c.match-reading.verdict) (sym w.in-Some.is)
          (subst (λ v. TellsFate interval_rules query commits (Some w.in-Some.reading) v) (sym w.verdict-is)
          (rw w.as_view.ensures at judged.ensures.whole, judged.ensures.no_receipt))
    ] in
    let items : c.push.new.self.items ≡ c.loop-reading.verdicts.items ++ c.match-reading.verdict ∷ [] = search rules in
    λ rest left.
    subst (λ l. TellsFates interval_rules query commits readings (l ++ rest)) (sym items)
    (one_told (TellsFate interval_rules query commits) readings c.loop-reading.reading-index c.loop-reading.verdicts.items c.reading-item.result c.match-reading.verdict (omega (arith, c.loop-reading-test.true)) c.reading-item.is fate c.loop-reading.invariant rest left)

pub returns-clause-told : goal.returns-clause-told
returns-clause-told c =
    all_told (TellsFate interval_rules (query_of c.args.query.now) c.args.commits.now) c.args.readings.now c.loop-reading.reading-index c.loop-reading.verdicts.items (omega (arith, c.loop-reading-test.false)) c.loop-reading.invariant
