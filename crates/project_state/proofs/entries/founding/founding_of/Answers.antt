use Rattle.project_state.proofs.EntriesProofs.FoundingLemmas.{founding_found, founding_told}
use Rattle.project_state.proofs.entries.founding.founding_of.Goals as goal

pub returns-clause-found : goal.returns-clause-found
returns-clause-found c = founding_found c.args.entry.now c.in_ok-told.told c.in_ok-told.ensures

pub returns-clause-told : goal.returns-clause-told
returns-clause-told c = λ conf level people of. founding_told c.args.entry.now c.in_ok-told.told c.in_ok-told.ensures conf level people of (c.sound_configurations_are_read_back.ensures conf of.founding.sound)
