use Rattle.std.proofs.Common.{◌≡◌, ℕ, true, false, List, Result, Ok, Err, refl, sym, ap, ◌∙◌, arith, inl, inr}
use Rattle.std.specs.Prelude.{IfErr}
use Rattle.std.proofs.lemmas.Result.{on_ok_weaker}
use Rattle.key_class.specs.Refusals.{IsEither}
use Rattle.key_class.specs.declared.refusal.Refusal.{Refusal}
use Rattle.key_class.specs.declared.refusal.Refusal.TheVariants.{Compacted, FromFuture, OutOfMemory}
use Rattle.feed.specs.Feeds.{RefusesAdvance}
use Rattle.feed.proofs.Advancing.{none_needed, own_into}
use Rattle.feed.proofs.feed.Feed.advance.Goals as goal

-- one reason less
other_reasons : (r : Result ℕ Refusal) → IfErr r RefusesAdvance → (r ≡ Err Compacted → ⊥) → IfErr r (IsEither FromFuture OutOfMemory)
other_reasons (Ok upto) why not_compacted = tt
other_reasons (Err refusal) why not_compacted = elim why [
  | inl future ↦ inl future
  | inr rest ↦ elim rest [
    | inl compacted ↦ absurd (not_compacted (ap Err compacted))
    | inr memory ↦ inr memory
  ]
]

pub returns-clause-ok : goal.returns-clause-ok
returns-clause-ok g c =
    on_ok_weaker c.advance_from.result
    (λ into. own_into g.C.KeyClass.rules _ refl refl c.args.self.now c.args.snapshot.now c.args.most c.args.into.now.items c.advance_from.new.into.items c.advance_from.new.self into)
    c.advance_from.ensures.ok

pub returns-clause-refusals : goal.returns-clause-refusals
returns-clause-refusals g c =
    other_reasons c.advance_from.result c.advance_from.ensures.refusals
    (λ is.
    let needed = (c.advance_from.ensures.compacted.0 is).needed in
    let t : true ≡ false = sym needed ∙ none_needed c.args.self.now.subscriptions in
    absurd (cc))
