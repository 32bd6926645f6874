use Rattle.page_table.proofs.Stacks.{stack_kept, stack_stays}
use Rattle.page_table.proofs.RowChanges.{rows_kept, rows_sound}
use Rattle.page_table.proofs.laws.traversals_survive_steps.Goals as goal

pub returns : goal.returns
returns g c = record {
  stacks = λ t t' keeps items stack. (stack_stays t t' keeps.pages keeps.counter items stack, λ f. stack_kept t t' f (λ q m l k. keeps.under q m l k f) items stack);
  leaves = λ t fan sound leaf rows weight l e q m k. rows_kept t sound.rank sound.ranked leaf l rows weight e q m k;
  sound = λ t fan leaf rows sound l level fits within. rows_sound g.C.KeyClass.rules.is_cover t fan sound leaf l rows level fits within;
}
