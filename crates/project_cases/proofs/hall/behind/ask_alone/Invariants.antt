use Rattle.project_cases.proofs.hall.behind.ask_alone.Given as goal

abbrev pub ghosts-ask_apart : goal.ghosts-ask_apart
ghosts-ask_apart g a = record { name = a.blank.name; parts = a.blank.parts }
