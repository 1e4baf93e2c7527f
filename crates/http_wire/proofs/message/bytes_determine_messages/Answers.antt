use Rattle.http_wire.proofs.MessageLemmas.{messages_unique, stops_agree}
use Rattle.http_wire.proofs.message.bytes_determine_messages.Goals as goal

pub returns-clause-messages : goal.returns-clause-messages
returns-clause-messages c = messages_unique

pub returns-clause-stop : goal.returns-clause-stop
returns-clause-stop c = stops_agree
