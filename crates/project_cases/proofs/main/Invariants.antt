use Rattle.project_cases.proofs.main.Given as goal

abbrev pub ghosts-run_all : goal.ghosts-run_all
ghosts-run_all g a = record { name = a.blank.name; parts = a.blank.parts }
