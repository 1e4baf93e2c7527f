use Rattle.serve_command.proofs.serving.serving.serve_named.Given as goal

abbrev pub ghosts-serve_disk : goal.ghosts-serve_disk
ghosts-serve_disk g a = record { given = g.D.Disk.Disk.faultless a.disk }
