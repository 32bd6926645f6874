use Rattle.scan.proofs.Finders.{begin_finder, bury_finder, finder_open, keeps_finder, place_finder, sweep_finder}
use Rattle.scan.proofs.laws.finders_survive_steps.Goals as goal

pub returns : goal.returns
returns g c = record {
  unfinished = λ t row find. finder_open row t find;
  begun = λ t fan row commits sound agrees live. begin_finder g.C.KeyClass.rules.is_cover t fan sound commits agrees row live;
  moved = λ t t' row stack keeps find. keeps_finder row t stack t' keeps find;
  placed = λ t fan p row stack entry sound l other find. place_finder row t stack find g.C.KeyClass.rules.is_cover fan sound p l entry other;
  buried = λ t fan p row other n stack sound l find. bury_finder row t stack find g.C.KeyClass.rules.is_cover fan sound p l other n;
  swept = λ t fan p row horizon stack commits sound agrees live l find. sweep_finder row t stack find g.C.KeyClass.rules.is_cover fan sound p l commits agrees live horizon;
}
