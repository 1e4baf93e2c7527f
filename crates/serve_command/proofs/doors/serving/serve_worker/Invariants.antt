use Rattle.serve_command.proofs.doors.serving.serve_worker.Given as goal

abbrev pub ghosts-serve_pass : goal.ghosts-serve_pass
ghosts-serve_pass g a = record { name = a.blank.name; parts = a.blank.parts }
