use Rattle.std.proofs.Common.{inr, refl}
use Rattle.program_inputs.specs.declared.trouble.Trouble.TheVariants.{FileFailed, ReadFault}
use Rattle.program_inputs.proofs.Troubles.{not_err, tells_none}
use Rattle.annotation_cli.proofs.columns_in.columns_in.Goals as goal

pub write_layer-requires : goal.write_layer-requires
write_layer-requires g c = c.in_ok-shown.ensures.told.columns_are.shown.well_formed

pub returns-clause-told : goal.returns-clause-told
returns-clause-told g c =
    let shown = c.in_ok-shown.shown in
    inr record { conf = shown.conf; text = shown.text; layer = shown.layer; files = c.in_ok-shown.ensures.told; lines = c.write_layer.ensures.told }

pub returns-clause-folder : goal.returns-clause-folder
returns-clause-folder g c = tells_none FileFailed c.write_layer.result _ _ c.write_layer.ensures.no_file (c.in_ok-shown.ensures.cause.still (not_err refl))

pub returns-clause-read : goal.returns-clause-read
returns-clause-read g c = tells_none ReadFault c.write_layer.result _ _ c.write_layer.ensures.no_read c.write_layer.ensures.apart.read_faults
