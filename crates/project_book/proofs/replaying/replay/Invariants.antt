use Rattle.project_book.proofs.replaying.replay.Given as goal

abbrev pub ghosts-replay_counted : goal.ghosts-replay_counted
ghosts-replay_counted a = record { name = a.blank.name; parts = a.blank.parts }
