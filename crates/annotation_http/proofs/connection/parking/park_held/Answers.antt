use Rattle.annotation_http.specs.Exchanges.Connections.{holding_of}
use Rattle.annotation_http.proofs.ConnectionProofs.ParkLemmas.{moved_park}
use Rattle.annotation_http.proofs.connection.parking.park_held.Goals as goal

pub returns-clause-parked : goal.returns-clause-parked
returns-clause-parked g c = moved_park _ _ (holding_of c.args.held) _ _ _ _ _ c.into_scripts-scripts.ensures.done c.into_scripts-scripts.ensures.undone c.ask-reply.ensures.visited c.ask-reply.ensures.faultless
