-- What `import BOOK WHO NAME ANN` does: it opens a project, reads an .ann file for a document of it, and commits the file's layer for an annotator.
use Rattle.std.specs.Prelude.{◌≡◌, ◌⊎◌, ℕ, List, [], codes, Option, Some, option_map, Result, Ok, Err, unwrap_or}
use Rattle.std.specs.Result.{result_ok}
use Rattle.conf_model.specs.Configurations.{Configuration}
use Rattle.layer_model.specs.Annotations.{Annotations}
use Rattle.layer_model.specs.declared.rule.Rule.{Rule}
use Rattle.layer_core.specs.declared.command.Command.TheVariants.{Load}
use Rattle.layer_rules.specs.CarriedByRule.{carried_by_rule}
use Rattle.layer_undo.specs.Desks.{DeskState, layer_of, performed, settled}
use Rattle.project_machine.specs.declared.book_refusal.BookRefusal.TheVariants as no
use Rattle.project_machine.specs.Requests.{Asked, Checkout, Commit, Committed, Park, Parked, ReadConf, ReadText, Happened}
use Rattle.project_machine.specs.Requests as answers
use Rattle.annotation_http.specs.Exchanges.Connections.{Holding, with_desk}
use Rattle.program_inputs.specs.declared.trouble.Trouble.{Trouble}
use Rattle.program_inputs.specs.declared.trouble.Trouble.TheVariants as trouble
use Rattle.program_inputs.specs.Files.{AnnRefused, HasAnn}
use Rattle.program_inputs.specs.Troubles.{with_number}
use Rattle.program_inputs.specs.ProjectFiles.ProjectFiles.{NotOpened}
use Rattle.project_commands.specs.Commands.Requests.{ChecksOut, Grants, RefusesTo}
use Rattle.project_commands.specs.Works.{EndsOn, WorksOn}

-- ---- what an .ann file is read for

-- the configuration of a project and the text of a document, as an annotator reads them
pub record Reads (log : List Happened) (who name : List ℕ) (conf : Configuration) (text : List ℕ) (now : List Happened) : Type 0 where
  pub between : List Happened
  pub conf_is : Grants log who ReadConf (answers.Conf conf) between
  pub text_is : Grants between who (ReadText name) (answers.Text text) now

-- the configuration was read, and the text is refused
pub record NoText (log : List Happened) (who name : List ℕ) (why : Trouble) : Type 0 where
  pub between : List Happened
  pub refused : RefusesTo between who (ReadText name) why

-- why they are not read
abbrev pub NotRead : List Happened → (who name : List ℕ) → Trouble → Type 0
NotRead log who name why = RefusesTo log who ReadConf why ⊎ NoText log who name why

-- the layer that an .ann file spells for them
pub record ReadsLayer (log : List Happened) (who name : List ℕ) (ann_file : Option (Option (List ℕ))) (layer : Annotations) (now : List Happened) : Type 0 where
  pub conf : Configuration
  pub text : List ℕ
  pub read : Reads log who name conf text now
  pub layer_is : HasAnn ann_file conf text layer

-- they were read, and the .ann file is at fault
pub record AnnAtFault (log : List Happened) (who name : List ℕ) (ann_file : Option (Option (List ℕ))) (before now : ℕ) (why : Trouble) : Type 0 where
  pub conf : Configuration
  pub text : List ℕ
  pub log_now : List Happened
  pub read : Reads log who name conf text log_now
  pub told : AnnRefused ann_file conf text before now why

-- why there is no layer to import; nothing was changed
abbrev pub NoLayer : List Happened → (who name : List ℕ) → (ann_file : Option (Option (List ℕ))) → (before now : ℕ) → Trouble → Type 0
NoLayer log who name ann_file before now why = NotRead log who name why ⊎ AnnAtFault log who name ann_file before now why

-- ---- what is done with the layer

-- a layer was loaded on a desk
abbrev pub Loads : DeskState → Annotations → DeskState → Type 0
Loads desk layer now = option_map (λ done. done.desk) (result_ok (performed desk (Load layer))) ≡ Some now

-- why a desk does not load a layer: a rule refuses that; or memory ran out
pub data NotLoaded (desk : DeskState) (layer : Annotations) (why : Trouble) : Type 0 where
  breaks : (rule : Rule) → performed desk (Load layer) ≡ Err rule → why ≡ trouble.Refused (no.Broken rule) (unwrap_or (carried_by_rule desk.conf rule) []) → NotLoaded desk layer why
  lacks_memory : why ≡ trouble.Memory → NotLoaded desk layer why

-- a layer was loaded on a held desk and committed, and the desk goes on from it
pub record Commits (log : List Happened) (held : Holding) (layer : Annotations) (revision : ℕ) (held_now : Holding) (now : List Happened) : Type 0 where
  pub desk : DeskState
  pub loaded : Loads held.desk layer desk
  pub committed : Grants log held.who (Commit held.doc held.hold (layer_of desk)) (Committed revision) now
  pub goes_on : held_now ≡ with_desk held (settled desk)

-- the layer was loaded, and the project refuses it
pub record CommitRefused (log : List Happened) (held : Holding) (layer : Annotations) (why : Trouble) : Type 0 where
  pub desk : DeskState
  pub loaded : Loads held.desk layer desk
  pub refused : RefusesTo log held.who (Commit held.doc held.hold (layer_of desk)) why

-- why a layer was not committed
abbrev pub NotCommitted : List Happened → Holding → Annotations → Trouble → Type 0
NotCommitted log held layer why = NotLoaded held.desk layer why ⊎ CommitRefused log held layer why

-- the request to give a held desk back
abbrev pub park_of : Holding → Asked
park_of held = Park held.doc held.hold held.desk.done held.desk.undone

-- a layer was handed out to an annotator, another was loaded on it and committed, and the desk given back
pub record ImportsHere (log : List Happened) (who name : List ℕ) (layer : Annotations) (revision : ℕ) (now : List Happened) : Type 0 where
  pub held : Holding
  pub out : List Happened
  pub taken : ChecksOut log who name held out
  pub held_now : Holding
  pub behind : List Happened
  pub committed : Commits out held layer revision held_now behind
  pub parked : Grants behind held_now.who (park_of held_now) Parked now

-- the layer was handed out, and the other was not committed; the desk was given back, or that was refused too
pub record NothingCommitted (log : List Happened) (who name : List ℕ) (layer : Annotations) (why : Trouble) : Type 0 where
  pub held : Holding
  pub out : List Happened
  pub taken : ChecksOut log who name held out
  pub told : NotCommitted out held layer why

-- the layer was committed, and the desk was not given back
pub record NotParked (log : List Happened) (who name : List ℕ) (layer : Annotations) (why : Trouble) : Type 0 where
  pub held : Holding
  pub out : List Happened
  pub taken : ChecksOut log who name held out
  pub revision : ℕ
  pub held_now : Holding
  pub behind : List Happened
  pub committed : Commits out held layer revision held_now behind
  pub refused : RefusesTo behind held_now.who (park_of held_now) why

-- why a layer was not imported, or not wholly
abbrev pub NotImportedHere : List Happened → (who name : List ℕ) → Annotations → Trouble → Type 0
NotImportedHere log who name layer why = RefusesTo log who (Checkout name) why ⊎ NothingCommitted log who name layer why ⊎ NotParked log who name layer why

-- ---- the command

-- the layer of an .ann file was read and imported, and its revision is told
pub record ImportsFile (log : List Happened) (who name : List ℕ) (ann_file : Option (Option (List ℕ))) (bytes : List ℕ) (now : List Happened) : Type 0 where
  pub layer : Annotations
  pub between : List Happened
  pub read : ReadsLayer log who name ann_file layer between
  pub revision : ℕ
  pub imported : ImportsHere between who name layer revision now
  pub line : bytes ≡ with_number (codes "revision ") revision

-- the layer was read, and not imported
pub record LayerNotTaken (log : List Happened) (who name : List ℕ) (ann_file : Option (Option (List ℕ))) (why : Trouble) : Type 0 where
  pub layer : Annotations
  pub between : List Happened
  pub read : ReadsLayer log who name ann_file layer between
  pub told : NotImportedHere between who name layer why

-- why an .ann file was not imported
abbrev pub NotImportedFrom : List Happened → (who name : List ℕ) → (ann_file : Option (Option (List ℕ))) → (before now : ℕ) → Trouble → Type 0
NotImportedFrom log who name ann_file before now why = NoLayer log who name ann_file before now why ⊎ LayerNotTaken log who name ann_file why

-- what `import` does
abbrev pub Imports : (file file_now : Option (List ℕ)) → (who name : List ℕ) → (ann_file : Option (Option (List ℕ))) → (bytes : List ℕ) → Type 0
Imports file file_now who name ann_file bytes = WorksOn file file_now (λ log now. ImportsFile log who name ann_file bytes now)

-- why nothing was imported, or not wholly
abbrev pub NotImported : (file : Option (List ℕ)) → (who name : List ℕ) → (ann_file : Option (Option (List ℕ))) → (before now : ℕ) → Trouble → Type 0
NotImported file who name ann_file before now why = NotOpened file why ⊎ EndsOn file (λ log. NotImportedFrom log who name ann_file before now why)
