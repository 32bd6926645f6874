use Rattle.std.proofs.Common.{sym, ap, ◌∙◌}
use Rattle.revisions.specs.Maps.{entries_of, key_at}
use Rattle.map.proofs.Finding.{never_none, no_key, the_key}
use Rattle.map.proofs.generation.Generation.get.Goals as goal

pub returns-in_default : goal.returns-in_default
returns-in_default g c =
    let s = c.self.inside in
    let none = sym c.get.ensures ∙ c.in_default.is in
    sym (no_key s.oldest s.begun s.len s.store.commits s.numbers c.self.invariant c.args.id none) ∙ ap (λ m. key_at c.args.id (entries_of m)) c.self.view_is

pub returns-in_default-row : goal.returns-in_default-row
returns-in_default-row g c =
    let s = c.self.inside in
    let at = sym c.get.ensures ∙ c.in-Some.is in
    absurd (never_none s.oldest s.begun s.len s.store.commits s.numbers c.self.invariant c.args.id c.in-Some.number at c.row.result c.row.ensures c.in_default-row.is)

pub returns : goal.returns
returns g c =
    let s = c.self.inside in
    let at = sym c.get.ensures ∙ c.in-Some.is in
    the_key s.oldest s.begun s.len s.store.commits s.numbers c.self.invariant c.args.id c.in-Some.number at c.row.result c.in-Some-row.row c.row.ensures c.in-Some-row.is ∙ ap (λ m. key_at c.args.id (entries_of m)) c.self.view_is
