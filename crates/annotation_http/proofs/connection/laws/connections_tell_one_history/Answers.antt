use Rattle.annotation_http.proofs.ConnectionProofs.HistoryLemmas.{connection_tells_one_history}
use Rattle.annotation_http.proofs.ConnectionProofs.TalkLemmas.{ended_quiet}
use Rattle.annotation_http.proofs.connection.laws.connections_tell_one_history.Goals as goal

pub returns-clause-history : goal.returns-clause-history
returns-clause-history g c = λ start old new left now before written end more told legal. connection_tells_one_history _ start old new left now before written end more told legal

pub returns-clause-quiet : goal.returns-clause-quiet
returns-clause-quiet g c = λ start old new left now before written end told f. ended_quiet _ _ _ _ _ _ _ _ end told.session.ends f
