use Rattle.desk_tests.proofs.threads.stamps_of_four_threads_are_the_commits.Given as goal

abbrev pub ghosts-five_seats-L-Ledger : goal.ghosts-five_seats-L-Ledger
ghosts-five_seats-L-Ledger g a = record { name = a.blank.name; parts = a.blank.parts }

abbrev pub ghosts-five_seats-L-Naming : goal.ghosts-five_seats-L-Naming
ghosts-five_seats-L-Naming g a = record { history = a.history }
