use Rattle.std.proofs.Common.{◌≡◌, ◌+◌, [], Some, None, refl, sym, ap, ◌∙◌, subst}
use Rattle.std.specs.Option.{option_copied}
use Rattle.std.specs.Prelude.{slice_index_or}
use Rattle.std.proofs.lemmas.List.{append-nil}
use Rattle.std.proofs.lemmas.Result.{on_ok_weaker}
use Rattle.key_class.specs.Queries.{query_of}
use Rattle.feed.specs.Asking.{due_to}
use Rattle.feed.specs.Hearing.{heard}
use Rattle.feed.specs.Listening.{begin_of, item_to}
use Rattle.feed.specs.Holding.{topic_state}
use Rattle.feed.specs.Numberings.{commit_of}
use Rattle.feed.proofs.Giving.{listener_due, nothing_due}
use Rattle.feed.proofs.Hearing.{none_heard, none_shown, one_heard, some_shown}
use Rattle.feed.proofs.Slots.{both_ok, states}
use Rattle.feed.proofs.topics.Topics.tell_topic.Goals as goal

pub returns-in_default-clause-ok : goal.returns-in_default-clause-ok
returns-in_default-clause-ok g c =
    let slots = c.self.inside.topics.slots in
    let number = c.args.number in
    let empty : slice_index_or slots number None ≡ None = sym c.get.ensures ∙ ap option_copied c.in_default.is in
    record {
      given = [];
      is = sym (append-nil c.args.told.now.items);
      gives = λ numbering commits of serial.
          sym (ap (due_to g.C.KeyClass.rules numbering commits c.args.revision) (subst (λ o. heard o number serial ≡ None) c.self.view_is (none_heard (states slots) number serial (none_shown slots number empty))));
    }

pub returns-in_default-item-clause-ok : goal.returns-in_default-item-clause-ok
returns-in_default-item-clause-ok g c =
    let slots = c.self.inside.topics.slots in
    let number = c.args.number in
    let t = c.in-Some.topic.now in
    let there : slice_index_or slots number None ≡ Some t = sym c.get.ensures ∙ ap option_copied c.in-Some.is in
    record {
      given = [];
      is = sym (append-nil c.args.told.now.items);
      gives = λ numbering commits of serial.
          sym (ap (due_to g.C.KeyClass.rules numbering commits c.args.revision) (ap (λ o. heard o number serial) (sym c.self.view_is) ∙ one_heard (states slots) number serial (topic_state t) (some_shown slots number t there))
          ∙ nothing_due g.C.KeyClass.rules numbering commits c.args.revision (query_of t.query) (begin_of t.listeners serial) (sym (c.item.ensures commits (commit_of numbering c.args.revision) of) ∙ c.in_default-item.is));
    }

pub returns-clause-ok : goal.returns-clause-ok
returns-clause-ok g c =
    let slots = c.self.inside.topics.slots in
    let number = c.args.number in
    let t = c.in-Some.topic.now in
    let item = c.in-Some-item.item in
    let there : slice_index_or slots number None ≡ Some t = sym c.get.ensures ∙ ap option_copied c.in-Some.is in
    on_ok_weaker c.tell.result
    (λ told. record {
      given = item_to (c.args.revision + 1) item t.listeners;
      is = told.0;
      gives = λ numbering commits of serial.
          told.1 serial
          ∙ listener_due g.C.KeyClass.rules numbering commits c.args.revision (query_of t.query) (c.args.revision + 1) refl item (begin_of t.listeners serial) (sym (c.item.ensures commits (commit_of numbering c.args.revision) of) ∙ c.in-Some-item.is)
          ∙ sym (ap (due_to g.C.KeyClass.rules numbering commits c.args.revision) (ap (λ o. heard o number serial) (sym c.self.view_is) ∙ one_heard (states slots) number serial (topic_state t) (some_shown slots number t there)));
    })
    (both_ok _ _ c.tell.result c.tell.ensures.ok c.tell.ensures.once)
