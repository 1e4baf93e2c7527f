use Rattle.http_wire.proofs.MessageLemmas.{stop_unique}
use Rattle.http_wire.proofs.message.bytes_determine_stop.Goals as goal

pub returns : goal.returns
returns c = stop_unique
