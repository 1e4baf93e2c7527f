-- How the values of a project are told apart by a proof (private calls only).
use Rattle.std.specs.Prelude.{ℕ, Bool, List, Option}
use Rattle.std.proofs.Common.{refl}
use Rattle.std.specs.Coded.{Coded, code_by, coded×, coded_ℕ, coded_bool, coded_list, coded_option}
use Rattle.entry_bytes.specs.declared.person.Person.{Person}
use Rattle.entry_bytes.specs.contracts.person.Person as person_row
use Rattle.conf_model.specs.Configurations.{Configuration, configuration_code}
use Rattle.layer_model.specs.Annotations.{Annotations, annotations_code}
use Rattle.layer_core.specs.declared.command.Command.{Command}
use Rattle.layer_core.specs.contracts.command.Command as command_row
use Rattle.unanimous_merge.specs.declared.item.ItemId.{ItemId}
use Rattle.unanimous_merge.specs.contracts.item.ItemId as item_row
use Rattle.curator_decisions.specs.declared.verdict.Verdict.{Verdict}
use Rattle.curator_decisions.specs.contracts.verdict.Verdict as verdict_row
use Rattle.project_machine.specs.ProjectState.{Row, Document, Snapshot, ProjectState}
use Rattle.project_state.specs.Stored.{Stored}

-- a row as the tuple of its fields
abbrev pub row_code : Coded Row
row_code =
    code_by (ℕ × (Annotations × (List Command × (List Command × (Option ℕ × (Bool × Bool))))))
    (coded× coded_ℕ (coded× annotations_code (coded× (coded_list command_row.the_row.coded) (coded× (coded_list command_row.the_row.coded) (coded× (coded_option coded_ℕ) (coded× coded_bool coded_bool))))))
    (λ r. (r.revision, (r.layer, (r.done, (r.undone, (r.hold, (r.finished, r.ignored)))))))
    (λ p. record { revision = p.0; layer = p.1.0; done = p.1.1.0; undone = p.1.1.1.0; hold = p.1.1.1.1.0; finished = p.1.1.1.1.1.0; ignored = p.1.1.1.1.1.1 }) (λ _. refl)

-- a document as the tuple of its fields
abbrev pub document_code : Coded Document
document_code =
    code_by (List ℕ × (List ℕ × List Row)) (coded× (coded_list coded_ℕ) (coded× (coded_list coded_ℕ) (coded_list row_code)))
    (λ d. (d.name, (d.text, d.rows))) (λ p. record { name = p.0; text = p.1.0; rows = p.1.1 }) (λ _. refl)

-- a snapshot as the tuple of its fields
abbrev pub snapshot_code : Coded Snapshot
snapshot_code =
    code_by (ℕ × (List (List ℕ × Annotations) × List (ItemId × Verdict)))
    (coded× coded_ℕ (coded× (coded_list (coded× (coded_list coded_ℕ) annotations_code)) (coded_list (coded× item_row.the_row.coded verdict_row.the_row.coded))))
    (λ s. (s.doc, (s.holders, s.verdicts))) (λ p. record { doc = p.0; holders = p.1.0; verdicts = p.1.1 }) (λ _. refl)

-- a project as the tuple of its fields
abbrev pub state_code : Coded ProjectState
state_code =
    code_by (Configuration × (ℕ × (List Person × (ℕ × (List Document × List Snapshot)))))
    (coded× configuration_code (coded× coded_ℕ (coded× (coded_list person_row.the_row.coded) (coded× coded_ℕ (coded× (coded_list document_code) (coded_list snapshot_code))))))
    (λ s. (s.conf, (s.level, (s.people, (s.place, (s.documents, s.snapshots))))))
    (λ p. record { conf = p.0; level = p.1.0; people = p.1.1.0; place = p.1.1.1.0; documents = p.1.1.1.1.0; snapshots = p.1.1.1.1.1 }) (λ _. refl)

-- a project as it is kept as the tuple of its fields
abbrev pub stored_code : Coded Stored
stored_code =
    code_by (ProjectState × (List (List ℕ × ℕ) × (ℕ × ℕ))) (coded× state_code (coded× (coded_list (coded× (coded_list coded_ℕ) coded_ℕ)) (coded× coded_ℕ coded_ℕ)))
    (λ s. (s.state, (s.numbers, (s.spare, s.room)))) (λ p. record { state = p.0; numbers = p.1.0; spare = p.1.1.0; room = p.1.1.1 }) (λ _. refl)
