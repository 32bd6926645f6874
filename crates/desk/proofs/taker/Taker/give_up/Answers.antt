use Rattle.desk.proofs.taker.Taker.give_up.Goals as goal

pub returns : goal.returns
returns g c = rw (← c.self.view_is) (record { visit = c.close_cursor.ensures.visit })
