use Rattle.std.proofs.Common.{◌≡◌, ◌+◌, ◌≤◌, ◌++◌, max, min, length, arith, sym, ap, ◌∙◌, subst}
use Rattle.feed.specs.Asking.{Gives, due_upto}
use Rattle.feed.specs.Feeds.{AdvancesBy, acknowledged}
use Rattle.feed.specs.Numberings.{last_revision}
use Rattle.feed.proofs.Advancing.{advances}
use Rattle.feed.proofs.feed.Feed.poll_from.Goals as goal

pub returns-clause-ok : goal.returns-clause-ok
returns-clause-ok g c =
    let feed = c.self.inside in
    let rules = g.C.KeyClass.rules in
    let commits = c.args.snapshot.now in
    let numbering = c.args.numbering in
    let registrations = feed.registrations.entries in
    let later = c.min-upto.result in
    let told = c.in_ok-tell.ensures.ok in
    let first : c.max-first.result ≡ max numbering.oldest feed.upto = omega (arith, c.max-first.ensures) in
    let last : c.last_revision-last.result ≡ last_revision numbering commits = c.last_revision-last.ensures in
    let further : feed.upto ≤ later = omega (arith, first, c.min-upto.ensures, c.saturating_add.ensures, c.if-self-last.false, c.last_revision-last.type_inv) in
    let upto : later ≡ min (max numbering.oldest feed.upto + c.args.most) (last_revision numbering commits) = omega (arith, first, last, c.min-upto.ensures, c.saturating_add.ensures, c.if-self-last.false, c.last_revision-last.type_inv) in
    record {
      given = told.given;
      is = c.in_ok-extend_from_slice.ensures.items ∙ ap (λ l. c.args.into.now.items ++ l) (c.deref.ensures.value ∙ told.is ∙ ap (λ l. l ++ told.given) c.new-told.ensures.items);
      advances = subst (λ f. AdvancesBy rules numbering f commits c.args.most told.given (acknowledged later f)) c.self.view_is
          (advances rules numbering commits feed.upto feed.passed feed.last c.args.most later registrations told.given c.requires upto
          (subst (λ f. Gives (due_upto rules numbering commits later) f told.given) (sym c.self.view_is) told.gives));
    }
