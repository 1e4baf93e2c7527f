use Rattle.project_commands.proofs.AloneLemmas.{serves_book}
use Rattle.project_commands.proofs.sessions.serve_alone.Goals as goal

pub returns-clause-served : goal.returns-clause-served
returns-clause-served g c =
    let now = c.serve-done.new.visitor in
    serves_book g.K.Keeper.faults g.K.Keeper.faultless _ _ now.book _ now.began now.room _ _ _ _ _ _ c.new-visitor.ensures.book c.new-visitor.ensures.visiting c.serve-done.ensures.badge c.into_book.ensures c.serve-done.ensures.told
