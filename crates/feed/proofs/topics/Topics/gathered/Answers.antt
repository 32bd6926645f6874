use Rattle.std.proofs.Common.{◌≡◌, ◌++◌, subst, ap, ◌∙◌}
use Rattle.std.specs.Prelude.{IsPermutation}
use Rattle.std.proofs.lemmas.List.Sorted.{IsPermutation-append, IsPermutation-refl, IsPermutation-trans}
use Rattle.feed.specs.Asking.{AreAllConcerned}
use Rattle.feed.specs.Planting.{tags_at}
use Rattle.feed.proofs.Asked.{all_concerned}
use Rattle.feed.proofs.topics.Topics.gathered.Goals as goal

pub returns-clause-all : goal.returns-clause-all
returns-clause-all g c commits place of =
    let topics = c.self.inside in
    let rules = g.C.KeyClass.rules in
    let change = c.args.change.now in
    let tree = topics.tree.commits in
    let always = topics.always.keys in
    let numbers = c.find_tags-2.new.tags.items in
    let tags = tags_at rules g.C.Reach.overlap_with tree in
    let asked : c.push_all.new.into.items ≡ always = c.in_ok-push_all.ensures.ok ∙ ap (λ l. l ++ always) c.new-numbers.ensures.items in
    let first : IsPermutation c.find_tags.new.tags.items (always ++ tags change.ended) =
    subst (λ l. IsPermutation c.find_tags.new.tags.items (l ++ tags change.ended)) asked c.in_ok-find_tags.ensures.ok in
    let all : IsPermutation numbers ((always ++ tags change.ended) ++ tags change.made) =
    IsPermutation-trans numbers _ _ c.in_ok-find_tags-2.ensures.ok (IsPermutation-append _ _ (tags change.made) (tags change.made) first (IsPermutation-refl (tags change.made))) in
    subst (λ o. AreAllConcerned rules commits o place numbers) c.self.view_is
    (all_concerned rules g.C.Reach.reach_of g.C.Reach.overlap_with g.met.C.Reach.reaches commits tree place always numbers topics.topics.slots change of c.self.invariant all)
