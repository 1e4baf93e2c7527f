use Rattle.std.proofs.Common.{length}
use Rattle.layer_undo.proofs.TrailLemmas.{trail_of}
use Rattle.layer_undo.proofs.replay.carry_out_back.Goals as goal

pub returns-in-Ok-clause-trail : goal.returns-in-Ok-clause-trail
returns-in-Ok-clause-trail c =
    let work = c.args.work.now in
    trail_of work.conf (length work.text) work.layer c.args.command.now c.in-Ok.back (record { layer = c.carry_out_back.new.self.layer; made = c.in-Ok.field-0-0.made }) c.in-Ok.ensures.done c.in-Ok.ensures.back
