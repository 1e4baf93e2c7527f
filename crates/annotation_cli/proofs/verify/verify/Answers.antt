use Rattle.std.proofs.Common.{inr, refl}
use Rattle.program_inputs.specs.declared.trouble.Trouble.TheVariants.{FileFailed, ReadFault}
use Rattle.program_inputs.proofs.Troubles.{not_err, tells_none}
use Rattle.annotation_cli.proofs.verify.verify.Goals as goal

pub returns-clause-told : goal.returns-clause-told
returns-clause-told g c = inr record { layer = c.in_ok-layer.layer; files = c.in_ok-layer.ensures.told; counts = c.tell_counts.ensures.told }

pub returns-clause-folder : goal.returns-clause-folder
returns-clause-folder g c = tells_none FileFailed c.tell_counts.result _ _ c.tell_counts.ensures.no_file (c.in_ok-layer.ensures.cause.still (not_err refl))

pub returns-clause-read : goal.returns-clause-read
returns-clause-read g c = tells_none ReadFault c.tell_counts.result _ _ c.tell_counts.ensures.no_read c.tell_counts.ensures.apart.read_faults
