use Rattle.std.proofs.Common.{◌≡◌, ◌<◌, Some, None, refl, sym, ap, ◌∙◌, arith, length, subst}
use Rattle.std.specs.Option.{option_copied}
use Rattle.std.specs.Prelude.{IsSome, slice_index_or}
use Rattle.slab.proofs.SlabLemmas.{ContainsKey-within}
use Rattle.feed.proofs.AskedStill.{next_enrolled, next_nothing}
use Rattle.feed.proofs.topics.planted.Goals as goal
use Rattle.feed.proofs.topics.planted.Goals.{in-Some+in_ok-enrol, in_default}

pub loop-number-preserved : goal.loop-number-preserved
loop-number-preserved g c =
    let reach_of = g.C.Reach.reach_of in
    let size_of = g.C.KeyClass.rules.size_of in
    let slots = c.args.topics.now.slots in
    let n = c.loop-number.number in
    let commits = c.loop-number.tree.commits in
    let always = c.loop-number.always.keys in
    elim c.match-get.branch [
      | in-Some+in_ok-enrol w ↦
          let there : slice_index_or slots n None ≡ Some w.in-Some.topic.now = sym c.get.ensures ∙ ap option_copied w.in-Some.is in
          rw (w.tree-is, w.always-is) (record {
            legal = w.enrol.ensures.tends.legal;
            asked = next_enrolled reach_of size_of commits w.enrol.new.tree.commits always w.enrol.new.always.keys slots n w.in-Some.topic.now c.loop-number.invariant.asked w.enrol.ensures.tends there w.in_ok-enrol.ensures.ok;
          })
      | in_default w ↦
          let nothing : slice_index_or slots n None ≡ None = sym c.get.ensures ∙ ap option_copied w.in_default.is in
          rw (w.tree-is, w.always-is) (record { legal = c.loop-number.invariant.legal; asked = next_nothing reach_of size_of commits always slots n c.loop-number.invariant.asked nothing })
    ]

pub returns : goal.returns
returns g c = record {
  legal = c.loop-number.invariant.legal;
  asked = λ number t is.
      let within : number < length c.args.topics.now.slots = ContainsKey-within c.args.topics.now number (subst (λ o. IsSome o) (sym is) refl) in
      c.loop-number.invariant.asked number t (omega (arith, within, c.capacity-number-end.ensures.slots, c.loop-number-test.false)) is;
}
