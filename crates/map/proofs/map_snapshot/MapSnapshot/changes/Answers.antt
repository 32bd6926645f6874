use Rattle.std.proofs.Common.{◌≡◌, ◌+◌, ◌-◌, ◌≤◌, ◌++◌, length, map, sym, ap, ◌∙◌, subst, arith}
use Rattle.key_class.specs.Queries.{query_of}
use Rattle.key_class.specs.Rules.{satisfies}
use Rattle.snapshot.specs.Snapshots.{Appends}
use Rattle.revisions.specs.Maps.{revision_of}
use Rattle.map.specs.Kept.{MapView}
use Rattle.map.specs.Items.{AreWithin, map_item}
use Rattle.map.specs.Snapshots.{AppendsItems}
use Rattle.map.proofs.Faithful.{revision_is}
use Rattle.map.proofs.Found.{all_within, appended}
use Rattle.map.proofs.map_snapshot.MapSnapshot.changes.Goals as goal

pub overflow_add-first : goal.overflow_add-first
overflow_add-first g c =
    let s = c.self.inside in let viewed = ap (λ (v : MapView _). v.map) c.self.view_is in
    let last : c.revision.result ≡ s.numbering.oldest + (length s.snapshot - s.numbering.begun) = c.revision.ensures ∙ ap revision_of (sym viewed) ∙ revision_is s.numbering.oldest s.numbering.begun s.snapshot c.self.invariant.list in
    omega (arith, last, c.if-from-revision.false, c.commits-last.ensures.number, c.commits-last.type_inv, c.self.invariant.list.begins)

pub map_items-requires-clause-numbers : goal.map_items-requires-clause-numbers
map_items-requires-clause-numbers g c =
    let s = c.self.inside in let viewed = ap (λ (v : MapView _). v.map) c.self.view_is in
    let rules = g.C.KeyClass.rules in
    let query = c.args.query.now in
    let items = c.changes.new.into.items in
    let appends = subst (λ old. Appends rules query (s.numbering.begun + (c.args.from - s.numbering.oldest)) c.args.most s.snapshot old items c.in-Ok.upto) c.new-items.ensures.items c.in-Ok.ensures.ok in
    subst (λ is. AreWithin (length s.snapshot) is) (sym c.deref.ensures.value) (all_within rules query s.numbering.oldest s.numbering.begun s.snapshot c.self.invariant.list c.args.from c.args.most c.in-Ok.upto items appends)

pub returns-clause-ok : goal.returns-clause-ok
returns-clause-ok g c =
    let s = c.self.inside in let viewed = ap (λ (v : MapView _). v.map) c.self.view_is in
    let rules = g.C.KeyClass.rules in
    let query = c.args.query.now in
    let items = c.changes.new.into.items in
    let old = c.args.into.now.items in
    let new = c.extend_from_slice.new.self.items in
    let appends = subst (λ old. Appends rules query (s.numbering.begun + (c.args.from - s.numbering.oldest)) c.args.most s.snapshot old items c.in-Ok.upto) c.new-items.ensures.items c.in-Ok.ensures.ok in
    let known : s.numbering.oldest ≤ c.args.from = omega (arith, c.if-from-self.false) in
    let given : new ≡ old ++ map (map_item s.numbering.oldest s.numbering.begun s.snapshot) items = c.in_ok-extend_from_slice.ensures.items ∙ ap (λ l. old ++ l) (c.deref-2.ensures.value ∙ c.in_ok-given.ensures ∙ ap (map (map_item s.numbering.oldest s.numbering.begun s.snapshot)) c.deref.ensures.value) in
    subst (λ m. AppendsItems (satisfies rules (query_of query)) c.args.from c.args.most m old new (s.numbering.oldest + (c.in-Ok.upto - s.numbering.begun))) viewed
    (appended rules query s.numbering.oldest s.numbering.begun s.snapshot c.self.invariant.list c.args.from c.args.most c.in-Ok.upto items appends known old new given)
