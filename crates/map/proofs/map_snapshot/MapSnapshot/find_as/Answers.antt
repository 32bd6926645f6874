use Rattle.std.proofs.Common.{◌≡◌, ◌<◌, ◌^◌, rules, length, refl, sym, ap, subst, ◌∙◌}
use Rattle.std.proofs.lemmas.Simd.{map-map}
use Rattle.std.specs.Prelude.{IsPermutation}
use Rattle.key_class.specs.Rules.{satisfies}
use Rattle.scan.proofs.Arranged.{same_rows_arranged}
use Rattle.search.proofs.Filling.{FilledBy, filled_by}
use Rattle.search.specs.Fills.{written_over}
use Rattle.snapshot.proofs.Taken.{surely}
use Rattle.snapshot.specs.Finds.{live_after}
use Rattle.snapshot.specs.Snapshots.{found_in}
use Rattle.map.specs.Kept.{MapView}
use Rattle.map.specs.Generations.{entries_from, entry_of}
use Rattle.map.specs.Snapshots.{found_in_map}
use Rattle.map.proofs.Found.{found_arranged, found_number}
use Rattle.map.proofs.map_snapshot.MapSnapshot.find_as.Goals as goal

pub returns-clause-ok : goal.returns-clause-ok
returns-clause-ok g c =
    let s = c.self.inside in let viewed = ap (λ (v : MapView _). v.map) c.self.view_is in
    let rules_of = g.C.KeyClass.rules in
    let query = c.args.query.now in
    let commits = s.snapshot in
    let before = c.args.into.now in
    let called = c.search-never_stops in
    let new = called.new.sink in
    let all = live_after (satisfies rules_of c.in_ok-query.query) commits in
    let same : all ≡ found_in rules_of query commits = ap (λ q. live_after (satisfies rules_of q) commits) c.in_ok-query.ensures.ok in
    let taken = surely called.result called.ensures.all called.ensures.why in
    let n = c.total.ensures.total in
    let form = g.F.Form.form_of in
    let by : FilledBy (λ r. form (entry_of r)) all before new.places.now new.found = filled_by (λ r. form (entry_of r)) all before _ new refl refl refl (subst (λ m. m < 2 ^ 64) n c.total.ensures.within) called.ensures.few taken in
    let is : new.places.now ≡ c.into-1.given.0 = search rules in
    let arranged = found_arranged rules_of query s.numbering.oldest s.numbering.begun commits c.self.invariant.list by.given (subst (λ l. IsPermutation by.given l) same (same_rows_arranged g.C.Key.PartialEq.eq g.met.C.KeyClass.lawful.equal_keys_are_same by.given all by.same)) in
    record {
      given = entries_from by.given;
      arranged = subst (λ m. IsPermutation (entries_from by.given) (found_in_map rules_of query m)) viewed arranged;
      is = sym is ∙ by.is ∙ ap (λ l. written_over l before) (sym (map-map form entry_of by.given));
      counted = n ∙ by.counted ∙ ap length same ∙ found_number rules_of query s.numbering.oldest s.numbering.begun commits c.self.invariant.list ∙ ap (λ m. length (found_in_map rules_of query m)) viewed;
    }
