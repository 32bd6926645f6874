use Rattle.std.proofs.Common.{◌≡◌, ◌+◌, ◌++◌, ◌∷◌, [], length, sym, ap, ◌∙◌, subst, arith}
use Rattle.std.proofs.lemmas.List.{length-append}
use Rattle.change_list.specs.declared.write.Write.TheVariants.{Insert}
use Rattle.revisions.specs.Maps.{MapState, has_id, restored}
use Rattle.map.specs.Generations.{IsGeneration, TellsRows, map_of}
use Rattle.map.proofs.Finding.{absent_row, added, begun_whole, generation_added}
use Rattle.map.proofs.Numbering.{one_more_inserted, rows_few}
use Rattle.map.proofs.generation.Generation.add.Goals as goal

pub insert_row-requires-clause-absent : goal.insert_row-requires-clause-absent
insert_row-requires-clause-absent g c =
    let s = c.self.inside in
    let none = ap (λ (m : MapState _). m.changes) c.self.view_is ∙ c.requires.unchanged in
    absent_row s.oldest s.begun s.len s.store.commits s.numbers c.self.invariant none c.args.entry.id (ap (λ (m : MapState _). has_id c.args.entry.id m.first) c.self.view_is ∙ c.requires.absent)

pub invariant_of-self-2 : goal.invariant_of-self-2
invariant_of-self-2 g c =
    let s = c.self.inside in
    let e = c.args.entry in
    let commits = s.store.commits in
    let none = ap (λ (m : MapState _). m.changes) c.self.view_is ∙ c.requires.unchanged in
    let absent = absent_row s.oldest s.begun s.len commits s.numbers c.self.invariant none e.id (ap (λ (m : MapState _). has_id e.id m.first) c.self.view_is ∙ c.requires.absent) in
    let made = c.in_ok-insert_row.ensures.ok in
    let whole = begun_whole s.oldest s.begun s.len commits s.numbers c.self.invariant none in
    let n : c.commits-self-inside.result ≡ s.begun + 1 = omega (arith, c.commits-self-inside.ensures.number, ap length made, length-append commits (Insert e.key e.id ∷ []), whole) in
    subst (λ k. IsGeneration s.oldest k (s.len + 1) c.insert_row.new.store.commits c.insert_row.new.numbers) (sym n)
    (subst (λ l. IsGeneration s.oldest (s.begun + 1) (s.len + 1) l c.insert_row.new.numbers) (sym made)
    (generation_added s.oldest s.begun s.len commits s.numbers c.self.invariant e.id e.key absent none c.insert_row.new.numbers (subst (λ l. TellsRows c.insert_row.new.numbers l) made c.in_ok-insert_row.ensures.told)))

pub overflow_add-self : goal.overflow_add-self
overflow_add-self g c =
    let s = c.self.inside in
    let commits = s.store.commits in
    let made = c.in_ok-insert_row.ensures.ok in
    let more = one_more_inserted commits c.args.entry.key c.args.entry.id c.self.invariant.list.legal in
    let few = rows_few (commits ++ Insert c.args.entry.key c.args.entry.id ∷ []) in
    omega (arith, c.self.invariant.counted, more, few, ap length made, c.in_ok-insert_row.ensures.few)

pub returns-clause-ok : goal.returns-clause-ok
returns-clause-ok g c =
    let s = c.self.inside in
    let e = c.args.entry in
    let commits = s.store.commits in
    let none = ap (λ (m : MapState _). m.changes) c.self.view_is ∙ c.requires.unchanged in
    let absent = absent_row s.oldest s.begun s.len commits s.numbers c.self.invariant none e.id (ap (λ (m : MapState _). has_id e.id m.first) c.self.view_is ∙ c.requires.absent) in
    let made = c.in_ok-insert_row.ensures.ok in
    let whole = begun_whole s.oldest s.begun s.len commits s.numbers c.self.invariant none in
    let n : c.commits-self-inside.result ≡ s.begun + 1 = omega (arith, c.commits-self-inside.ensures.number, ap length made, length-append commits (Insert e.key e.id ∷ []), whole) in
    ap (λ k. map_of s.oldest k c.insert_row.new.store.commits) n ∙ ap (map_of s.oldest (s.begun + 1)) made
    ∙ added s.oldest s.begun s.len commits s.numbers c.self.invariant e.id e.key absent none
    ∙ ap (λ (m : MapState _). restored m.oldest (m.first ++ e ∷ [])) c.self.view_is
