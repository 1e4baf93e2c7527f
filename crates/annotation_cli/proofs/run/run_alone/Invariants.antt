use Rattle.annotation_cli.proofs.run.run_alone.Given as goal

abbrev pub ghosts-perform_counted : goal.ghosts-perform_counted
ghosts-perform_counted a c = record { name = c.blank.name; parts = c.blank.parts }
