use Rattle.annotation_http.proofs.ExchangesProofs.HoldLemmas.{stays_open}
use Rattle.annotation_http.proofs.exchanges.laws.held_desks_stay_open.Goals as goal

pub returns : goal.returns
returns c = λ seen more mine held legal all within open_on. stays_open seen more mine held legal all within open_on
