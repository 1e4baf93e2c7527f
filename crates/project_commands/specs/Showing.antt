-- What `export BOOK WHO NAME`, `curated BOOK NUMBER` and `agree BOOK` do: they read a project as its file stands and show a part of it.
use Rattle.std.specs.Prelude.{◌≡◌, ◌⊎◌, ℕ, List, [], ◌++◌, codes, find, Option}
use Rattle.std.specs.Option.{option_map_or}
use Rattle.entry_bytes.specs.declared.person.Person.{Person}
use Rattle.conf_model.specs.Configurations.{Configuration}
use Rattle.layer_model.specs.Annotations.{Annotations}
use Rattle.ann_reader.specs.AnnFiles.{IsAnn}
use Rattle.ann_writer.specs.AnnOf.{ann_of}
use Rattle.kappa_alpha.specs.declared.figures.PairLine.{PairLine}
use Rattle.kappa_alpha.specs.declared.figures.AlphaLine.{AlphaLine}
use Rattle.agreement_report.specs.Report.{alpha_table, pairs_table}
use Rattle.project_machine.specs.Requests.{ReadLayer, ReadPairs, ReadAlpha, TakeSnapshot, Alpha, Layer, Pairs, Taken, View, Happened}
use Rattle.project_machine.specs.History.{after}
use Rattle.http_answers.specs.Answers.Answers.{curated_layer}
use Rattle.program_inputs.specs.declared.trouble.Trouble.{Trouble}
use Rattle.program_inputs.specs.ProjectFiles.ProjectFiles.{NotOpened}
use Rattle.project_commands.specs.Commands.Requests.{Grants, RefusesTo}
use Rattle.project_commands.specs.Works.{EndsOn, LooksAt}

-- ---- what a project shows

-- the committed layer of an annotator on a document, as the annotator reads it; the lines are an .ann file of it
pub record ShowsLayer (log : List Happened) (who name : List ℕ) (bytes : List ℕ) (now : List Happened) : Type 0 where
  pub layer : Annotations
  pub text : List ℕ
  pub conf : Configuration
  pub granted : Grants log who (ReadLayer name who) (Layer layer text conf) now
  pub lines : bytes ≡ ann_of conf text layer
  pub again : IsAnn conf text bytes layer

-- the first curator by name
abbrev pub first_curator : List Person → List ℕ
first_curator people = option_map_or (λ person. person.name) (find (λ person. person.curator) people) []

-- the first curator of a project
abbrev pub curator_in : List Happened → List ℕ
curator_in log = first_curator (after log).people

-- the curated layer of a snapshot, as a caller reads it; the lines are an .ann file of it
pub record ShowsCuratedTo (log : List Happened) (caller : List ℕ) (number : ℕ) (bytes : List ℕ) (now : List Happened) : Type 0 where
  pub view : View
  pub granted : Grants log caller (TakeSnapshot number) (Taken view) now
  pub lines : bytes ≡ ann_of view.conf view.text (curated_layer view)
  pub again : IsAnn view.conf view.text bytes (curated_layer view)

-- the same, as the first curator reads it
abbrev pub ShowsCurated : List Happened → ℕ → (bytes : List ℕ) → List Happened → Type 0
ShowsCurated log number bytes now = ShowsCuratedTo log (curator_in log) number bytes now

-- the table of each two annotators, as a caller reads it
pub record ShowsPairs (log : List Happened) (caller : List ℕ) (bytes : List ℕ) (now : List Happened) : Type 0 where
  pub names : List (List ℕ)
  pub lines : List PairLine
  pub granted : Grants log caller ReadPairs (Pairs names lines) now
  pub table : bytes ≡ pairs_table names lines

-- the table of all annotators, as a caller reads it
pub record ShowsAlpha (log : List Happened) (caller : List ℕ) (bytes : List ℕ) (now : List Happened) : Type 0 where
  pub line : AlphaLine
  pub granted : Grants log caller ReadAlpha (Alpha line) now
  pub table : bytes ≡ alpha_table line

-- both tables of agreement, as the first curator reads them, with an empty line between
pub record ShowsAgreement (log : List Happened) (bytes : List ℕ) (now : List Happened) : Type 0 where
  pub pairs_table_is : List ℕ
  pub alpha_table_is : List ℕ
  pub between : List Happened
  pub pairs : ShowsPairs log (curator_in log) pairs_table_is between
  pub alpha : ShowsAlpha between (curator_in log) alpha_table_is now
  pub tables : bytes ≡ pairs_table_is ++ (codes "\n" ++ alpha_table_is)

-- one table was shown, and the project refuses the other
pub record NoAlpha (log : List Happened) (why : Trouble) : Type 0 where
  pub between : List Happened
  pub refused : RefusesTo between (curator_in log) ReadAlpha why

-- why agreement is not shown: the project refuses a table; or memory ran out
abbrev pub NoAgreement : List Happened → Trouble → Type 0
NoAgreement log why = RefusesTo log (curator_in log) ReadPairs why ⊎ NoAlpha log why

-- ---- the commands

-- what `export` does
abbrev pub Exports : (file : Option (List ℕ)) → (who name bytes : List ℕ) → Type 0
Exports file who name bytes = LooksAt file (λ log now. ShowsLayer log who name bytes now)

-- why no layer was shown
abbrev pub NotExported : (file : Option (List ℕ)) → (who name : List ℕ) → Trouble → Type 0
NotExported file who name why = NotOpened file why ⊎ EndsOn file (λ log. RefusesTo log who (ReadLayer name who) why)

-- what `curated` does
abbrev pub ShowsSnapshot : (file : Option (List ℕ)) → ℕ → (bytes : List ℕ) → Type 0
ShowsSnapshot file number bytes = LooksAt file (λ log now. ShowsCurated log number bytes now)

-- why no curated layer was shown
abbrev pub NoSnapshot : (file : Option (List ℕ)) → ℕ → Trouble → Type 0
NoSnapshot file number why = NotOpened file why ⊎ EndsOn file (λ log. RefusesTo log (curator_in log) (TakeSnapshot number) why)

-- what `agree` does
abbrev pub Agrees : (file : Option (List ℕ)) → (bytes : List ℕ) → Type 0
Agrees file bytes = LooksAt file (λ log now. ShowsAgreement log bytes now)

-- why no tables were shown
abbrev pub NotAgreed : (file : Option (List ℕ)) → Trouble → Type 0
NotAgreed file why = NotOpened file why ⊎ EndsOn file (λ log. NoAgreement log why)
