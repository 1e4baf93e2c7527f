use Rattle.annotation_http.proofs.ExchangesProofs.HoldLemmas.{row_stays, step_under}
use Rattle.annotation_http.proofs.exchanges.laws.only_commits_under_its_hold_change_a_layer.Goals as goal

pub returns-clause-step : goal.returns-clause-step
returns-clause-step c = λ s caller who asked happened place doc is. step_under s caller who asked happened place doc is

pub returns-clause-history : goal.returns-clause-history
returns-clause-history c = λ seen more doc hold who legal all low none out. row_stays seen more doc hold who legal all low none out
