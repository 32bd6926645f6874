use Rattle.desk_tests.proofs.desks.play.Given as goal

abbrev pub ghosts-at_a_desk-L-Ledger : goal.ghosts-at_a_desk-L-Ledger
ghosts-at_a_desk-L-Ledger g a = record { name = a.blank.name; parts = a.blank.parts }

abbrev pub ghosts-at_a_desk-L-Naming : goal.ghosts-at_a_desk-L-Naming
ghosts-at_a_desk-L-Naming g a = record { history = a.history }
