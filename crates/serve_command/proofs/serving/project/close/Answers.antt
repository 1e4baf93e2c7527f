use Rattle.std.proofs.Common.{◌≡◌, ap, sym, ◌∙◌, subst}
use Rattle.std.specs.Prelude.{IfSome}
use Rattle.std.specs.Option.{option_map}
use Rattle.project_journal.specs.Settled.{doubt_by, kept_in}
use Rattle.project_journal.specs.declared.journal.Journal.{Journal}
use Rattle.project_machine.specs.History.{encoded}
use Rattle.program_inputs.specs.ProjectFiles.ProjectFiles.{IsFileOf}
use Rattle.serve_command.proofs.ServingProofs.FileLemmas.{certain_of, left_of}
use Rattle.serve_command.proofs.serving.project.close.Goals as goal

pub returns-clause-certain : goal.returns-clause-certain
returns-clause-certain g c = λ given.
    let journal = c.into_keeper-journal.result in
    let holds = g.E.Disk.holds in
    let log = c.args.book.log in
    let doubt = doubt_by (holds journal.disk) journal.gate journal.mending in
    let kept = subst (λ (j : Journal _ _). IfSome (option_map (kept_in j.gate) (holds j.disk)) (λ told. told ≡ encoded log)) (sym (c.into_keeper-journal.ensures.same ∙ c.into_keeper.ensures)) c.keeps.ensures.kept.entries in
    let left = left_of journal.gate doubt log (holds journal.disk) kept (λ entries file kept held. c.into_disk.ensures.opens entries file kept (ap holds c.into_disk.ensures.disk ∙ held)) in
    subst (λ disk. IsFileOf (holds disk) log) (sym c.into_disk.ensures.disk)
    (certain_of doubt log (holds journal.disk) (c.keeps-2.ensures.certain (c.into_keeper-journal.ensures.sure given)) left)
