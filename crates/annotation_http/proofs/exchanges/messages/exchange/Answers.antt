use Rattle.annotation_http.proofs.ExchangesProofs.CarriedLemmas.{given_badge, given_legal, given_room}
use Rattle.annotation_http.proofs.ExchangesProofs.OpenLemmas.{given_open}
use Rattle.annotation_http.proofs.exchanges.messages.exchange.Goals as goal

pub returns-clause-legal : goal.returns-clause-legal
returns-clause-legal g c = given_legal _ _ _ _ _ _ _ c.requires.legal c.at_path.ensures.served

pub returns-clause-room : goal.returns-clause-room
returns-clause-room g c = given_room _ _ _ _ _ _ _ c.at_path.ensures.served

pub returns-clause-badge : goal.returns-clause-badge
returns-clause-badge g c = given_badge _ _ _ _ _ _ _ c.at_path.ensures.served

pub returns-clause-open_desk : goal.returns-clause-open_desk
returns-clause-open_desk g c = λ open_on. given_open _ _ _ _ _ _ _ c.requires.legal c.keeps.ensures c.at_path.ensures.served open_on
