use Rattle.std.proofs.Common.{[], ◌++◌, sym}
use Rattle.serve_command.proofs.doors.serving.serve_one.Goals as goal

pub returns-clause-continues : goal.returns-clause-continues
returns-clause-continues g c =
    let told = c.connections_tell_one_history.ensures.history _ _ _ _ _ _ _ _ [] c.serve_link-ending.ensures.session c.requires.legal in
    record { badge = c.serve_link-ending.ensures.badge; seen = (told.others, sym told.grown); mine = (told.own ++ told.made, sym told.mine) }
