use Rattle.command_bytes.proofs.IdLemmas.{made_id}
use Rattle.command_bytes.proofs.id_bytes.id_with.Goals as goal

pub returns : goal.returns
returns c = made_id c.args.kind c.args.number c.new.result c.new.ensures.within c.new.ensures.parts
