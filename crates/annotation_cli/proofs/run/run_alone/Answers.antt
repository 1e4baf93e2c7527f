use Rattle.std.proofs.Common.{map, string_bytes, Err, inr, refl, subst, sym}
use Rattle.program_inputs.specs.declared.trouble.Trouble.TheVariants.{Memory}
use Rattle.program_inputs.proofs.Troubles.{not_err}
use Rattle.command_words.specs.Asked.{NamesTwo}
use Rattle.command_words.proofs.TwoLemmas.{names_two}
use Rattle.annotation_cli.proofs.StatusLemmas.{ends_four, told_four}
use Rattle.annotation_cli.proofs.run.run_alone.Goals as goal

pub returns-in-Err-clause-told : goal.returns-in-Err-clause-told
returns-in-Err-clause-told g c = record { done = Err Memory; does = inr (refl, refl, refl); ends = c.end_run.ensures.told }

pub returns-clause-done : goal.returns-clause-done
returns-clause-done g c = λ is.
    let done = c.end_run-2.ensures.done is in
    (c.perform_counted-done.ensures.folder.still (not_err done.0), c.perform_counted-done.ensures.read.still (not_err done.0), c.perform_counted-done.ensures.write.still (not_err done.0), done.1)

pub perform_counted-done-requires-clause-apart : goal.perform_counted-done-requires-clause-apart
perform_counted-done-requires-clause-apart g c κs within = subst NamesTwo (sym c.in-Ok.ensures) (names_two (map string_bytes c.args.words.now))

pub returns-clause-folder : goal.returns-clause-folder
returns-clause-folder g c = λ is.
    told_four c.perform_counted-done.result c.perform_counted-done.ensures.folder.rose c.perform_counted-done.ensures.unused c.perform_counted-done.ensures.never
    (ends_four _ c.perform_counted-done.result _ _ _ _ _ c.end_run-2.ensures.told is)
