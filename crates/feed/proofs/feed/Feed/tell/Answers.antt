use Rattle.std.proofs.Common.{◌+◌, ◌≤◌, arith}
use Rattle.feed.specs.Asking.{due_at, due_upto}
use Rattle.feed.proofs.Giving.{due_more, into_join}
use Rattle.feed.proofs.feed.Feed.tell.Goals as goal

pub loop-revision-preserved : goal.loop-revision-preserved
loop-revision-preserved g c =
    let rules = g.C.KeyClass.rules in
    let commits = c.args.snapshot.now in
    let numbering = c.args.numbering in
    let revision = c.loop-revision.revision in
    let known : numbering.oldest ≤ revision = omega (arith, c.loop-revision.auto.revision, c.max-revision.ensures) in
    into_join c.args.self.now (due_upto rules numbering commits revision) (due_at rules numbering commits revision) (due_upto rules numbering commits (revision + 1)) c.args.told.now.items c.loop-revision.told.items c.tell_commit.new.told.items
    c.loop-revision.invariant c.in_ok-tell_commit.ensures.ok (λ s. due_more rules numbering commits revision s known)
