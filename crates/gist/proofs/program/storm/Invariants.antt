use Rattle.gist.proofs.program.storm.Given as goal

abbrev pub ghosts-run_storm-L-Ledger : goal.ghosts-run_storm-L-Ledger
ghosts-run_storm-L-Ledger g a = record { name = a.blank.name; parts = a.blank.parts }

abbrev pub ghosts-run_storm-L-Naming : goal.ghosts-run_storm-L-Naming
ghosts-run_storm-L-Naming g a = record { history = a.history }
