use Rattle.std.proofs.Common.{◌≡◌, ◌++◌, [], Ok, Err, length, map, sym, ap, ◌∙◌, subst}
use Rattle.std.proofs.lemmas.Result.{err_from_is_err_and}
use Rattle.key_class.specs.declared.refusal.Refusal.TheVariants.{Compacted, FromFuture}
use Rattle.feed.specs.Feeds.{AdvancesByInto, acknowledged}
use Rattle.map.specs.Items.{AreWithin}
use Rattle.map.specs.Kept.{MapView}
use Rattle.map.specs.MapFeeds.{Tells}
use Rattle.map.proofs.Telling.{ahead_is, as_due, behind_is, given_within, needed_none, tells}
use Rattle.map.proofs.map_snapshot.MapSnapshot.poll.Goals as goal

pub returns-in_err-upto-clause-future : goal.returns-in_err-upto-clause-future
returns-in_err-upto-clause-future g c =
    let s = c.self.inside in
    let ahead = ahead_is g.C.KeyClass.rules s.numbering s.snapshot c.self.invariant.list c.args.feed.now c.args.self.now.map (ap (λ (v : MapView _). v.map) c.self.view_is) in
    let future = c.in_err-upto.ensures.future in
    let p = err_from_is_err_and c.from_residual.result c.from_residual.ensures.1 in
    rw (p.1, p.2) (λ e. ahead.0 (future.0 e), λ a. future.1 (ahead.1 a))

pub returns-in_err-upto-clause-compacted : goal.returns-in_err-upto-clause-compacted
returns-in_err-upto-clause-compacted g c =
    let s = c.self.inside in
    let behind = behind_is g.C.KeyClass.rules s.numbering s.snapshot c.self.invariant.list c.args.feed.now c.args.self.now.map (ap (λ (v : MapView _). v.map) c.self.view_is) in
    let compacted = c.in_err-upto.ensures.compacted in
    let p = err_from_is_err_and c.from_residual.result c.from_residual.ensures.1 in
    rw (p.1, p.2) (λ e. behind.0 (compacted.0 e), λ b. compacted.1 (behind.1 b))

pub told_items-requires-clause-numbers : goal.told_items-requires-clause-numbers
told_items-requires-clause-numbers g c =
    let s = c.self.inside in
    let rules = g.C.KeyClass.rules in
    let feed = c.args.feed.now in
    let upto = c.in_ok-upto.upto in
    let items = c.poll_from.new.into.items in
    let into = subst (λ old. AdvancesByInto rules s.numbering feed s.snapshot c.args.most old items (acknowledged upto feed)) c.new-given.ensures.items c.in_ok-upto.ensures.ok in
    subst (λ l. AreWithin (length s.snapshot) (map (λ g. g.1) l)) (sym (c.deref.ensures.value ∙ into.is))
    (given_within rules s.numbering s.snapshot c.self.invariant.list feed c.args.most into.given upto into.advances)

pub returns-in_err-told-clause-future : goal.returns-in_err-told-clause-future
returns-in_err-told-clause-future g c =
    let s = c.self.inside in
    let ahead = ahead_is g.C.KeyClass.rules s.numbering s.snapshot c.self.invariant.list c.args.feed.now c.args.self.now.map (ap (λ (v : MapView _). v.map) c.self.view_is) in
    let p = err_from_is_err_and c.from_residual-in_err-told.result c.from_residual-in_err-told.ensures.1 in
    let memory = p.2 in (
      λ e. let other : Err p.0 ≡ Err FromFuture = sym p.1 ∙ e in absurd (cc),
      λ a. let none : Ok c.in_ok-upto.upto ≡ Err FromFuture = c.in_ok-upto.ensures.future.1 (ahead.1 a) in absurd (cc),
    )

pub returns-in_err-extend_from_slice-clause-future : goal.returns-in_err-extend_from_slice-clause-future
returns-in_err-extend_from_slice-clause-future g c =
    let s = c.self.inside in
    let ahead = ahead_is g.C.KeyClass.rules s.numbering s.snapshot c.self.invariant.list c.args.feed.now c.args.self.now.map (ap (λ (v : MapView _). v.map) c.self.view_is) in
    let p = err_from_is_err_and c.from_residual-in_err-extend_from_slice.result c.from_residual-in_err-extend_from_slice.ensures.1 in
    let memory = p.2 in (
      λ e. let other : Err p.0 ≡ Err FromFuture = sym p.1 ∙ e in absurd (cc),
      λ a. let none : Ok c.in_ok-upto.upto ≡ Err FromFuture = c.in_ok-upto.ensures.future.1 (ahead.1 a) in absurd (cc),
    )

pub returns-clause-ok : goal.returns-clause-ok
returns-clause-ok g c =
    let s = c.self.inside in
    let rules = g.C.KeyClass.rules in
    let feed = c.args.feed.now in
    let upto = c.in_ok-upto.upto in
    let items = c.poll_from.new.into.items in
    let told = as_due rules s.numbering s.snapshot c.self.invariant.list in
    let into = subst (λ old. AdvancesByInto rules s.numbering feed s.snapshot c.args.most old items (acknowledged upto feed)) c.new-given.ensures.items c.in_ok-upto.ensures.ok in
    let none = needed_none rules s.numbering s.snapshot c.self.invariant.list feed
    (λ l. let no : Ok upto ≡ Err FromFuture = c.in_ok-upto.ensures.future.1 l in absurd (cc))
    (λ k. let no : Ok upto ≡ Err Compacted = c.in_ok-upto.ensures.compacted.1 k in absurd (cc)) in
    record {
      told = map told into.given;
      is = c.in_ok-extend_from_slice.ensures.items ∙ ap (λ l. c.args.into.now.items ++ l) (c.deref-2.ensures.value ∙ c.in_ok-told.ensures ∙ ap (map told) (c.deref.ensures.value ∙ into.is));
      tells = subst (λ m. Tells rules feed m c.args.most (map told into.given) upto) (ap (λ (v : MapView _). v.map) c.self.view_is)
          (tells rules s.numbering s.snapshot c.self.invariant.list feed c.args.most into.given upto into.advances (record { begun = c.self.invariant.list.begins; range = c.self.invariant.few }) none);
    }

pub returns-clause-future : goal.returns-clause-future
returns-clause-future g c =
    let s = c.self.inside in
    let ahead = ahead_is g.C.KeyClass.rules s.numbering s.snapshot c.self.invariant.list c.args.feed.now c.args.self.now.map (ap (λ (v : MapView _). v.map) c.self.view_is) in (
      λ e. absurd (cc),
      λ a. let none : Ok c.in_ok-upto.upto ≡ Err FromFuture = c.in_ok-upto.ensures.future.1 (ahead.1 a) in absurd (cc),
    )
