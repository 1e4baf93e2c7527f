use Rattle.std.proofs.Common.{Some, ap, sym, ◌∙◌, subst}
use Rattle.program_inputs.specs.ProjectFiles.ProjectFiles.{NotOpened}
use Rattle.serve_command.proofs.ServingProofs.FileLemmas.{refusal_of}
use Rattle.serve_command.proofs.serving.project.open_in.Goals as goal

pub returns-clause-refused : goal.returns-clause-refused
returns-clause-refused g c =
    let holds = g.E.Disk.holds c.args.disk in
    subst (NotOpened holds) (sym c.open_trouble.ensures)
    (refusal_of c.as_slice.result.now holds c.in-Err-open.fault (λ file held. c.in-Ok.ensures.entries file held ∙ ap Some (sym c.as_slice.ensures.value)) c.in-Err-open.ensures.refused)
