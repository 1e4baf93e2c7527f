use Rattle.std.proofs.Common.{sym, subst}
use Rattle.entry_bytes.specs.declared.entry.Entry.{Entry}
use Rattle.project_state.specs.Entries.Reading.{Reads}
use Rattle.project_state.proofs.EntriesProofs.TellLemmas.{tells}
use Rattle.project_state.proofs.entries.asking.asking_of.Goals as goal

pub returns : goal.returns
returns c = λ happened next same.
    let s = c.args.state.now.state in
    tells c.unflawed_layers.ensures.unflawed c.accepted_scripts_can_be_written.ensures s happened c.in_ok-told.told next
    (subst (λ (e : Entry). Reads s e c.in_ok-told.told) (sym same) c.in_ok-told.ensures)
