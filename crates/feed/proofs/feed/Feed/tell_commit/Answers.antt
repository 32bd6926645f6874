use Rattle.std.proofs.Common.{◌≤◌, arith, sym, subst}
use Rattle.std.proofs.lemmas.Result.{on_ok_weaker}
use Rattle.feed.specs.Asking.{GivesInto, due_at}
use Rattle.feed.proofs.Dues.{commit_gives}
use Rattle.feed.proofs.feed.Feed.tell_commit.Goals as goal

pub returns-clause-ok : goal.returns-clause-ok
returns-clause-ok g c =
    let feed = c.self.inside in
    let rules = g.C.KeyClass.rules in
    let reached : c.args.self.now.upto ≤ c.args.revision = omega (arith, c.requires.further) in
    let further : feed.upto ≤ c.args.revision = subst (λ f. f.upto ≤ c.args.revision) (sym c.self.view_is) reached in
    on_ok_weaker c.tell_commit.result
    (λ told.
    subst (λ f. GivesInto (due_at rules c.args.numbering c.args.snapshot.now c.args.revision) f c.args.told.now.items c.tell_commit.new.told.items) c.self.view_is
    (commit_gives rules c.args.numbering c.args.snapshot.now feed.topics feed.upto feed.passed feed.last c.args.revision feed.registrations.entries c.self.invariant further c.args.told.now.items c.tell_commit.new.told.items told))
    c.tell_commit.ensures.ok
