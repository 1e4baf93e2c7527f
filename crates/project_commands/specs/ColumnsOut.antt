-- What `columns-out BOOK WHO NAME` does: it reads a project as its file stands, and shows a committed layer as token and label columns.
use Rattle.std.specs.Prelude.{◌≡◌, ◌⊎◌, ⊤, ℕ, List, Option, Some}
use Rattle.conf_model.specs.Configurations.{Configuration}
use Rattle.layer_model.specs.Annotations.{Annotations}
use Rattle.token_columns.specs.Columns.{columns}
use Rattle.token_columns.specs.Fits.{Fits}
use Rattle.token_columns.specs.WriteFaults.{out_fault}
use Rattle.project_machine.specs.Requests.{ReadLayer, Layer, Happened}
use Rattle.program_inputs.specs.declared.trouble.Trouble.{Trouble}
use Rattle.program_inputs.specs.declared.trouble.Trouble.TheVariants as trouble
use Rattle.program_inputs.specs.ProjectFiles.ProjectFiles.{NotOpened}
use Rattle.project_commands.specs.Commands.Requests.{Grants, RefusesTo}
use Rattle.project_commands.specs.Works.{EndsOn, LooksAt}

-- the committed layer of an annotator on a document, as the annotator reads it, fits columns, and these are its columns
pub record ShowsColumns (log : List Happened) (who name : List ℕ) (bytes : List ℕ) (now : List Happened) : Type 0 where
  pub layer : Annotations
  pub text : List ℕ
  pub conf : Configuration
  pub granted : Grants log who (ReadLayer name who) (Layer layer text conf) now
  pub fits : Fits text layer
  pub lines : bytes ≡ columns conf text layer

-- why columns do not show a layer of a text: the first of its six faults; or memory ran out
abbrev pub LacksColumns : List ℕ → Annotations → Trouble → Type 0
LacksColumns text layer (trouble.ColumnsOut fault) = out_fault text layer ≡ Some fault
LacksColumns text layer trouble.Memory = ⊤
LacksColumns text layer why = ⊥

-- the committed layer of an annotator was read, and columns do not show it
pub record HasNoColumns (log : List Happened) (who name : List ℕ) (why : Trouble) : Type 0 where
  pub layer : Annotations
  pub text : List ℕ
  pub conf : Configuration
  pub now : List Happened
  pub granted : Grants log who (ReadLayer name who) (Layer layer text conf) now
  pub told : LacksColumns text layer why

-- why no columns of a layer are shown: the project refuses the layer; or columns do not show it
abbrev pub NotShown : (log : List Happened) → (who name : List ℕ) → Trouble → Type 0
NotShown log who name why = RefusesTo log who (ReadLayer name who) why ⊎ HasNoColumns log who name why

-- what `columns-out` does
abbrev pub PrintsColumns : (file : Option (List ℕ)) → (who name bytes : List ℕ) → Type 0
PrintsColumns file who name bytes = LooksAt file (λ log now. ShowsColumns log who name bytes now)

-- why no columns were printed
abbrev pub NoColumns : (file : Option (List ℕ)) → (who name : List ℕ) → Trouble → Type 0
NoColumns file who name why = NotOpened file why ⊎ EndsOn file (λ log. NotShown log who name why)
