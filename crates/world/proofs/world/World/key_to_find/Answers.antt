use Rattle.std.proofs.Common.{◌≡◌, Some, sym, ap, ◌∙◌}
use Rattle.change_list.specs.Changes.{row_at, status_of}
use Rattle.change_list.proofs.Made.{has_key}
use Rattle.world.proofs.FinderSteps.{alive_from, find_full, find_passes}
use Rattle.world.proofs.world.World.key_to_find.Goals as goal

pub returns-then-is_full_of_finders : goal.returns-then-is_full_of_finders
returns-then-is_full_of_finders g c =
    let state = c.args.self.now in
    let found : row_at state.commits c.args.row ≡ Some c.in-Some.found = ap (λ s. row_at s.commits c.args.row) (sym c.self.view_is) ∙ sym c.row.ensures ∙ c.in-Some.is in
    let alive = alive_from state.commits c.args.row c.in-Some.found found (λ e. c.in_default-status.not-Dead (c.status.ensures ∙ ap (λ s. status_of s.commits c.args.row) c.self.view_is ∙ e)) in
    record { passed = tt; made = tt; refused = find_full state c.args.row c.in-Some.found found alive (sym c.is_full_of_finders.ensures ∙ c.if-is_full_of_finders.true) }

pub returns : goal.returns
returns g c =
    let state = c.args.self.now in
    let found : row_at state.commits c.args.row ≡ Some c.in-Some.found = ap (λ s. row_at s.commits c.args.row) (sym c.self.view_is) ∙ sym c.row.ensures ∙ c.in-Some.is in
    let alive = alive_from state.commits c.args.row c.in-Some.found found (λ e. c.in_default-status.not-Dead (c.status.ensures ∙ ap (λ s. status_of s.commits c.args.row) c.self.view_is ∙ e)) in
    record {
      passed = find_passes state c.args.row c.in-Some.found found alive (sym c.is_full_of_finders.ensures ∙ c.if-is_full_of_finders.false);
      made = has_key state.commits c.args.row c.in-Some.found found;
      refused = tt;
    }
