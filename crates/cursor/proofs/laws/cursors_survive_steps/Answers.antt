use Rattle.cursor.proofs.Turning.{same_fits, commit_fits}
use Rattle.cursor.proofs.laws.cursors_survive_steps.Goals as goal

pub returns-clause-steps : goal.returns-clause-steps
returns-clause-steps g c = λ t t' commits k items s f.
    same_fits g.C.KeyClass.rules g.O.Outlet.rule g.met.C.KeyClass.lawful t t' commits k items s f

pub returns-clause-commits : goal.returns-clause-commits
returns-clause-commits g c = λ t commits write k items f.
    commit_fits g.C.KeyClass.rules g.O.Outlet.rule t commits write k items f
