use Rattle.page_table.proofs.Pruning.{branch_covers}
use Rattle.page_table.proofs.Scans.{scan_visit}
use Rattle.page_table.proofs.Stacks.{visit_work, pushed_stack}
use Rattle.page_table.proofs.laws.visits_lose_nothing.Goals as goal

pub returns : goal.returns
returns g c = record {
  pruned = λ t fan sound p b l h. branch_covers g.C.KeyClass.rules.is_cover g.met.C.KeyClass.lawful.bounds.through t fan sound p b l h;
  rows = λ t fan sound wanted consistent prunes weight none p m l. scan_visit g.C.KeyClass.rules.is_cover g.met.C.KeyClass.lawful.bounds.through wanted consistent prunes t fan sound weight none p m l;
  work = λ t fan sound wanted rest item l. visit_work t sound.rank sound.ranked wanted rest item l;
  stack = λ t fan sound wanted p m l k. pushed_stack t sound.rank sound.ranked wanted p m l k;
}
