use Rattle.std.proofs.Common.{refl}
use Rattle.cursor.proofs.Turning.{new_follower_fits}
use Rattle.cursor.proofs.cursor.Cursor.following.Goals as goal

pub returns-clause-fits : goal.returns-clause-fits
returns-clause-fits g c = new_follower_fits g.C.KeyClass.rules g.O.Outlet.rule c.begin.result _ c.begin.ensures refl refl refl c.empty.ensures
