use Rattle.std.proofs.Common.{map, filter, [], ◌∷◌, ◌++◌}
use Rattle.page_table.specs.Trees.{page_at}
use Rattle.row_version.specs.Entries.{is_needed, marked}
use Rattle.scan.proofs.Scans.{bury_find, keeps_find, keeps_stack, place_find, rows_stack, sweep_find}
use Rattle.scan.proofs.laws.scans_survive_steps.Goals as goal

pub returns : goal.returns
returns g c = record {
  moved = λ t t' s stack keeps is_stack. record { exists = keeps_stack t t' stack keeps is_stack; rows = λ wanted. keeps_find wanted s t stack t' keeps is_stack };
  placed = λ t fan p s stack entry sound is_stack l late. record {
    exists = rows_stack t p ((page_at t p).rows ++ entry ∷ []) stack is_stack;
    rows = λ wanted. place_find wanted s t stack is_stack g.C.KeyClass.rules.is_cover fan sound p l entry late;
  };
  buried = λ t fan p s row n stack commits sound agrees is_stack l late live. record {
    exists = rows_stack t p (map (marked row n) (page_at t p).rows) stack is_stack;
    rows = λ wanted. bury_find wanted s t stack is_stack g.C.KeyClass.rules.is_cover fan sound p l commits agrees row n late live;
  };
  swept = λ t fan p s horizon stack sound is_stack l under. record {
    exists = rows_stack t p (filter (is_needed horizon) (page_at t p).rows) stack is_stack;
    rows = λ wanted. sweep_find wanted s t stack is_stack g.C.KeyClass.rules.is_cover fan sound p l horizon under;
  };
}
