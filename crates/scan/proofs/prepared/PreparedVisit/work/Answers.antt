use Rattle.std.proofs.Common.{ap, ap₂, ◌∙◌}
use Rattle.key_class.specs.Queries.{query_of, consistent_with_query, matches_query}
use Rattle.scan.specs.Prepared.{wanted_children}
use Rattle.scan.specs.Scanning.{seen}
use Rattle.scan.proofs.prepared.PreparedVisit.work.Goals as goal

pub invariant_of-self : goal.invariant_of-self
invariant_of-self g c = record {
  noted = c.in_ok-rows.ensures.seen ∙ ap₂ (λ q rows. seen (matches_query g.C.KeyClass.rules.is_match (query_of q)) c.self.inside.opened rows) c.deref.ensures (c.rows.ensures ∙ ap (λ p. p.rows) c.get-page.ensures);
  further = c.in_ok-children.ensures ∙ ap₂ (λ q branches. wanted_children (consistent_with_query g.C.KeyClass.rules.is_consistent (query_of q)) branches) c.deref-2.ensures (c.branches.ensures ∙ ap (λ p. p.branches) c.get-page.ensures);
}
