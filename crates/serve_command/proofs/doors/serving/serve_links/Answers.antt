use Rattle.serve_command.proofs.DoorsProofs.WorkerLemmas.{continues_self, continues_through}
use Rattle.serve_command.proofs.doors.serving.serve_links.Goals as goal

pub loop-init : goal.loop-init
loop-init g c = record { continues = continues_self _; legal = c.requires }

pub loop-preserved : goal.loop-preserved
loop-preserved g c = record {
  continues = continues_through _ _ _ c.loop.invariant.continues c.serve_one.ensures.continues;
  legal = c.serve_one.ensures.legal;
}
