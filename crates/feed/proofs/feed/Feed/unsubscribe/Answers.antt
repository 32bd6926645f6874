use Rattle.std.proofs.Common.{◌≡◌, None, Some, refl, sym, ap, ◌∙◌, subst}
use Rattle.world.specs.Serials.{member, without}
use Rattle.feed.specs.Feeds.{subscription_of, without_subscription}
use Rattle.feed.specs.Holding.{IsHolding, feed_state, serial_of, shown}
use Rattle.feed.proofs.Entries.{member_found, member_missing, removed_member}
use Rattle.feed.proofs.Keeping.{holding_without, none_shown, one_shown, state_without}
use Rattle.feed.proofs.feed.Feed.unsubscribe.Goals as goal

pub returns-in_default-clause-none : goal.returns-in_default-clause-none
returns-in_default-clause-none g c =
    let feed = c.self.inside in
    let entries = feed.registrations.entries in
    let none : member serial_of c.args.serial entries ≡ None = member_missing c.args.serial entries (sym c.remove.ensures.value ∙ c.in_default.is) in
    (λ is. subst (λ f. subscription_of f c.args.serial ≡ None) c.self.view_is (none_shown feed.upto feed.passed feed.last c.args.serial entries none), λ is. refl)

pub invariant_of-self-2 : goal.invariant_of-self-2
invariant_of-self-2 g c =
    let feed = c.self.inside in
    let entries = feed.registrations.entries in
    let gone = c.in-Some.gone in
    let found : member serial_of c.args.serial entries ≡ Some (c.args.serial, gone) = member_found c.args.serial entries gone (sym c.remove.ensures.value ∙ c.in-Some.is) in
    let left : c.remove.new.self.entries ≡ without serial_of c.args.serial entries = c.remove.ensures.entries ∙ removed_member c.args.serial 0 feed.last entries c.self.invariant.rise in
    subst (λ l. IsHolding c.leave.new.self feed.passed feed.last l) (sym left)
    (holding_without feed.topics feed.passed feed.last entries c.self.invariant c.leave.new.self c.args.serial (c.args.serial, gone) found c.leave.ensures)

pub returns-clause-ok : goal.returns-clause-ok
returns-clause-ok g c =
    let feed = c.self.inside in
    let entries = feed.registrations.entries in
    let left : c.remove.new.self.entries ≡ without serial_of c.args.serial entries = c.remove.ensures.entries ∙ removed_member c.args.serial 0 feed.last entries c.self.invariant.rise in
    ap (feed_state feed.upto feed.passed feed.last) left ∙ state_without feed.upto feed.passed feed.last c.args.serial entries ∙ ap (λ f. without_subscription f c.args.serial) c.self.view_is

pub returns-clause-none : goal.returns-clause-none
returns-clause-none g c =
    let feed = c.self.inside in
    let entries = feed.registrations.entries in
    let gone = c.in-Some.gone in
    let found : member serial_of c.args.serial entries ≡ Some (c.args.serial, gone) = member_found c.args.serial entries gone (sym c.remove.ensures.value ∙ c.in-Some.is) in
    let open_one : subscription_of c.args.self.now c.args.serial ≡ Some (shown feed.upto feed.passed (c.args.serial, gone)) =
    subst (λ f. subscription_of f c.args.serial ≡ Some (shown feed.upto feed.passed (c.args.serial, gone))) c.self.view_is (one_shown feed.upto feed.passed feed.last c.args.serial entries (c.args.serial, gone) found) in
    (λ is. absurd (cc), λ none. let t : Some (shown feed.upto feed.passed (c.args.serial, gone)) ≡ None = sym open_one ∙ none in absurd (cc))
