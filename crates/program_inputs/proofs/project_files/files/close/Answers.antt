use Rattle.std.proofs.Common.{◌≡◌, ℕ, Bool, List, Some, ap, sym, ◌∙◌, subst}
use Rattle.std.specs.Option.{option_map}
use Rattle.project_journal.specs.JournalFile.{opened}
use Rattle.project_journal.specs.Journals.{disk_of}
use Rattle.project_journal.specs.Keeper.{IsKeptOrDoubt}
use Rattle.project_journal.specs.Settled.{doubt_by, kept_in}
use Rattle.project_journal.specs.declared.journal.Journal.{Journal}
use Rattle.program_inputs.specs.ProjectFiles.ProjectFiles.{IsFileOf}
use Rattle.program_inputs.proofs.ProjectFilesProofs.FileLemmas.{file_of}
use Rattle.program_inputs.proofs.project_files.files.close.Goals as goal

pub returns-clause-file : goal.returns-clause-file
returns-clause-file g c = λ none.
    let keeper = c.args.book.keeper in
    let holds = g.E.Disk.holds in
    let opens = subst (λ (j : Journal _ _). (entries : List (List ℕ)) (file : List ℕ) → option_map (kept_in j.gate) (holds j.disk) ≡ Some entries → holds j.disk ≡ Some file
    → IsKeptOrDoubt entries (doubt_by (holds j.disk) j.gate j.mending) (opened file)) c.into_keeper-journal.ensures
    (λ entries file kept held. c.into_disk.ensures.opens entries file kept (ap holds c.into_disk.ensures.disk ∙ held)) in
    subst (λ disk. IsFileOf (holds disk) c.args.book.log) (sym (c.into_disk.ensures.disk ∙ ap disk_of c.into_keeper-journal.ensures))
    (file_of keeper.gate _ c.args.book.log (holds keeper.disk) c.keeps.ensures.kept.entries opens none)

pub returns-clause-certain : goal.returns-clause-certain
returns-clause-certain g c = λ sure.
    let keeper = c.args.book.keeper in
    returns-clause-file g c (ap (λ (mending : Bool). doubt_by (g.E.Disk.holds keeper.disk) keeper.gate mending) sure.1)
