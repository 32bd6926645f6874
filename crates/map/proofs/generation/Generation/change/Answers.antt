use Rattle.std.proofs.Common.{Some, take, drop, sym, ap, ◌∙◌, arith}
use Rattle.std.specs.Prelude.{option_map, slice_get}
use Rattle.std.proofs.lemmas.List.{length-drop}
use Rattle.revisions.specs.Maps.{MapState}
use Rattle.revisions.specs.declared.change.MapChange.TheVariants.{Put, Remove}
use Rattle.map.specs.Generations.{change_of, changes_behind}
use Rattle.map.proofs.Faithful.{changes_length}
use Rattle.map.proofs.Reading.{change_is, past_end}
use Rattle.map.proofs.generation.Generation.change.Goals as goal

pub returns-then-place-left : goal.returns-then-place-left
returns-then-place-left g c =
    let s = c.self.inside in
    let commits = s.store.commits in
    let none = past_end (changes_behind (take s.begun commits) (drop s.begun commits)) c.args.place (omega (arith, c.if-place-left.true, c.commits.ensures.number, changes_length (take s.begun commits) (drop s.begun commits), length-drop s.begun commits)) in
    sym none ∙ ap (λ (m : MapState _). slice_get m.changes c.args.place) c.self.view_is

pub returns-in-Some-Insert : goal.returns-in-Some-Insert
returns-in-Some-Insert g c =
    let s = c.self.inside in
    let commits = s.store.commits in
    let told = change_is s.oldest s.begun commits c.self.invariant.list c.args.place ∙ ap (option_map (change_of commits)) (sym c.commit.ensures ∙ c.in-Some-Insert.is) ∙ ap (λ w. Some (change_of commits w)) c.in-Some-Insert.field-0-is in
    sym told ∙ ap (λ (m : MapState _). slice_get m.changes c.args.place) c.self.view_is

pub returns-in-Some-Delete : goal.returns-in-Some-Delete
returns-in-Some-Delete g c =
    let s = c.self.inside in
    let commits = s.store.commits in
    let told = change_is s.oldest s.begun commits c.self.invariant.list c.args.place ∙ ap (option_map (change_of commits)) (sym c.commit.ensures ∙ c.in-Some-Delete.is) ∙ ap (λ w. Some (change_of commits w)) c.in-Some-Delete.field-0-is in
    ap (λ n. Some (Remove n)) c.id_of.ensures ∙ sym told ∙ ap (λ (m : MapState _). slice_get m.changes c.args.place) c.self.view_is

pub returns-in-Some-Move : goal.returns-in-Some-Move
returns-in-Some-Move g c =
    let s = c.self.inside in
    let commits = s.store.commits in
    let told = change_is s.oldest s.begun commits c.self.invariant.list c.args.place ∙ ap (option_map (change_of commits)) (sym c.commit.ensures ∙ c.in-Some-Move.is) ∙ ap (λ w. Some (change_of commits w)) c.in-Some-Move.field-0-is in
    ap (λ n. Some (Put n c.in-Some-Move.key)) c.id_of-in-Some-Move.ensures ∙ sym told ∙ ap (λ (m : MapState _). slice_get m.changes c.args.place) c.self.view_is

pub returns-in-None : goal.returns-in-None
returns-in-None g c =
    let s = c.self.inside in
    let commits = s.store.commits in
    let told = change_is s.oldest s.begun commits c.self.invariant.list c.args.place ∙ ap (option_map (change_of commits)) (sym c.commit.ensures ∙ c.in-None.is) in
    sym told ∙ ap (λ (m : MapState _). slice_get m.changes c.args.place) c.self.view_is
