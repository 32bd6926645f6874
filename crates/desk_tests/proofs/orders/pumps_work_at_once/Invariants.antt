use Rattle.desk_tests.proofs.orders.pumps_work_at_once.Given as goal

abbrev pub ghosts-one_seat-L-Ledger : goal.ghosts-one_seat-L-Ledger
ghosts-one_seat-L-Ledger g a = record { name = a.blank.name; parts = a.blank.parts }

abbrev pub ghosts-one_seat-L-Naming : goal.ghosts-one_seat-L-Naming
ghosts-one_seat-L-Naming g a = record { history = a.history }
