use Rattle.std.proofs.Common.{◌≡◌, rules, ◌≤◌, ◌+◌, ◌++◌, max, ap, refl, sym, ◌∙◌, arith}
use Rattle.key_class.specs.Queries.{query_of}
use Rattle.key_class.specs.Rules.{satisfies}
use Rattle.change_list.specs.Changes.{changes}
use Rattle.feed.specs.Asking.{under}
use Rattle.feed.specs.Numberings.{commit_of}
use Rattle.feed.proofs.Giving.{passed_none, passed_one, passed_other}
use Rattle.feed.proofs.registration.tell_since.Goals as goal
use Rattle.feed.proofs.registration.tell_since.Goals.{in-Some+in_ok-push, in_default}

pub loop-revision-init : goal.loop-revision-init
loop-revision-init g c =
    let s = c.args.registration.now in
    let wanted = satisfies g.C.KeyClass.rules (query_of s.query) in
    let first : commit_of c.args.numbering s.from ≡ commit_of c.args.numbering c.max-revision.result = omega (arith, c.max-revision.ensures) in
    record {
      within = omega (arith, c.max-revision.ensures);
      told = passed_none wanted c.args.serial (commit_of c.args.numbering s.from) c.args.snapshot.now c.args.told.now.items
          ∙ ap (λ n. c.args.told.now.items ++ under c.args.serial (changes wanted (commit_of c.args.numbering s.from) n c.args.snapshot.now)) first;
    }

pub loop-revision-preserved : goal.loop-revision-preserved
loop-revision-preserved g c =
    let s = c.args.registration.now in
    let numbering = c.args.numbering in
    let wanted = satisfies g.C.KeyClass.rules (query_of s.query) in
    let commits = c.args.snapshot.now in
    let old = c.args.told.now.items in
    let revision = c.loop-revision.revision in
    let begin = commit_of numbering s.from in
    let item = rw (c.list.ensures, c.place_after-place.ensures.is) at c.change_item.ensures in
    let reached : max s.from numbering.oldest ≤ revision = omega (arith, c.max-revision.ensures, c.loop-revision.auto.revision) in
    let behind : begin ≤ commit_of numbering revision = omega (arith, reached) in
    let next : commit_of numbering revision + 1 ≡ commit_of numbering (revision + 1) = omega (arith, reached) in
    let further : revision + 1 ≤ max (max s.from numbering.oldest) c.args.upto = omega (arith, c.loop-revision-test.true) in
    elim c.match-change_item.branch [
      | in-Some+in_ok-push w ↦
          record {
            within = further;
            told = rw (w.told-is) (passed_one wanted c.args.serial begin commits old (commit_of numbering revision) c.loop-revision.told.items _ w.in-Some.item behind c.loop-revision.invariant.told (search rules) (sym item ∙ w.in-Some.is)
                ∙ ap (λ n. old ++ under c.args.serial (changes wanted begin n commits)) next);
          }
      | in_default w ↦
          record {
            within = further;
            told = rw (w.told-is) (passed_other wanted c.args.serial begin commits old (commit_of numbering revision) c.loop-revision.told.items _ behind c.loop-revision.invariant.told refl (sym item ∙ w.in_default.is)
                ∙ ap (λ n. old ++ under c.args.serial (changes wanted begin n commits)) next);
          }
    ]

pub returns-clause-ok : goal.returns-clause-ok
returns-clause-ok g c =
    let s = c.args.registration.now in
    let numbering = c.args.numbering in
    let reached : max s.from numbering.oldest ≤ c.loop-revision.revision = omega (arith, c.max-revision.ensures, c.loop-revision.auto.revision) in
    let end : commit_of numbering c.loop-revision.revision ≡ commit_of numbering (max s.from c.args.upto) = omega (arith, reached, c.loop-revision.invariant.within, c.loop-revision-test.false) in
    c.loop-revision.invariant.told
    ∙ ap (λ n. c.args.told.now.items ++ under c.args.serial (changes (satisfies g.C.KeyClass.rules (query_of s.query)) (commit_of numbering s.from) n c.args.snapshot.now)) end
