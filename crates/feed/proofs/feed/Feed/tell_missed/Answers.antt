use Rattle.std.proofs.Common.{◌≡◌, ◌+◌, ◌<◌, ◌++◌, ℕ, List, [], None, Some, max, arith, sym, ap, ◌∙◌, subst, append_assoc}
use Rattle.std.specs.Option.{option_copied}
use Rattle.std.proofs.lemmas.List.{append-nil}
use Rattle.key_class.specs.Queries.{query_of}
use Rattle.key_class.specs.Rules.{satisfies}
use Rattle.change_list.specs.Changes.{changes}
use Rattle.change_list.specs.declared.item.Item.{Item}
use Rattle.world.specs.Serials.{member}
use Rattle.feed.specs.declared.registration.Registration.{Registration}
use Rattle.feed.specs.Asking.{GivesInto, due_upto, under}
use Rattle.feed.specs.Holding.{serial_of, shown}
use Rattle.feed.specs.Numberings.{commit_of}
use Rattle.feed.proofs.Advancing.{TellsUpto, tells_all, tells_next, tells_nobody, tells_none}
use Rattle.feed.proofs.Dues.{all_missed, missed_gives, nothing_missed}
use Rattle.feed.proofs.Entries.{member_found, member_missing}
use Rattle.feed.proofs.feed.Feed.tell_missed.Goals as goal
use Rattle.feed.proofs.feed.Feed.tell_missed.Goals.{in-Some+in_ok-tell_since, in_default}

pub loop-passed-init : goal.loop-passed-init
loop-passed-init g c =
    let feed = c.self.inside in
    let rules = g.C.KeyClass.rules in
    let commits = c.args.snapshot.now in
    record {
      given = [];
      is = sym (append-nil c.args.told.now.items);
      tells = tells_none (λ s. due_upto rules c.args.numbering commits feed.upto (shown feed.upto feed.passed s)) feed.registrations.entries feed.passed (λ serial within. nothing_missed rules c.args.numbering commits feed.upto feed.passed feed.last feed.registrations.entries serial within);
    }

pub loop-passed-preserved : goal.loop-passed-preserved
loop-passed-preserved g c =
    let feed = c.self.inside in
    let rules = g.C.KeyClass.rules in
    let commits = c.args.snapshot.now in
    let entries = feed.registrations.entries in
    let n = c.loop-passed.passed in
    let given = c.loop-passed.invariant.given in
    let missed : ℕ × Registration g.row.C-Atom.Denot → List (Item g.row.C-Key.Denot) = λ s. due_upto rules c.args.numbering commits feed.upto (shown feed.upto feed.passed s) in
    elim c.match-get.branch [
      | in-Some+in_ok-tell_since w ↦
          let x = w.in-Some.registration.now in
          let found : member serial_of (n + 1) entries ≡ Some (n + 1, x) = member_found (n + 1) entries x (sym c.get.ensures.value ∙ ap option_copied w.in-Some.is) in
          let more = under (n + 1) (changes (satisfies rules (query_of x.query)) (commit_of c.args.numbering x.from) (commit_of c.args.numbering (max x.from feed.upto)) commits) in
          let behind : feed.passed < n + 1 = omega (arith, c.loop-passed.auto.passed) in
          rw (w.told-is) (record {
            given = given ++ more;
            is = w.in_ok-tell_since.ensures.ok ∙ ap (λ l. l ++ more) c.loop-passed.invariant.is ∙ append_assoc c.args.told.now.items given more;
            tells = subst (λ items. TellsUpto missed entries (n + 1) (given ++ under (n + 1) items)) (all_missed rules c.args.numbering commits feed.upto feed.passed feed.last entries (n + 1, x) behind)
                (tells_next missed entries n given (n + 1, x) c.loop-passed.invariant.tells found);
          })
      | in_default w ↦
          let none : member serial_of (n + 1) entries ≡ None = member_missing (n + 1) entries (sym c.get.ensures.value ∙ ap option_copied w.in_default.is) in
          rw (w.told-is) (record { given = given; is = c.loop-passed.invariant.is; tells = tells_nobody missed entries n given c.loop-passed.invariant.tells none })
    ]

pub returns-clause-ok : goal.returns-clause-ok
returns-clause-ok g c =
    let feed = c.self.inside in
    let rules = g.C.KeyClass.rules in
    let commits = c.args.snapshot.now in
    let entries = feed.registrations.entries in
    let missed : ℕ × Registration g.row.C-Atom.Denot → List (Item g.row.C-Key.Denot) = λ s. due_upto rules c.args.numbering commits feed.upto (shown feed.upto feed.passed s) in
    subst (λ f. GivesInto (due_upto rules c.args.numbering commits f.upto) f c.args.told.now.items c.loop-passed.told.items) c.self.view_is
    (record {
      given = c.loop-passed.invariant.given;
      is = c.loop-passed.invariant.is;
      gives = missed_gives rules c.args.numbering commits feed.upto feed.passed feed.last entries c.loop-passed.invariant.given
          (tells_all missed entries c.loop-passed.passed feed.last c.loop-passed.invariant.given c.self.invariant.rise c.loop-passed-test.false c.loop-passed.invariant.tells);
    })
