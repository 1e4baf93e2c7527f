use Rattle.annotation_http.proofs.ConnectionProofs.HistoryLemmas.{tells_one_history}
use Rattle.annotation_http.proofs.connection.laws.messages_tell_one_history.Goals as goal

pub returns : goal.returns
returns c = λ old new more messages answers legal run. tells_one_history old new more messages answers legal run
