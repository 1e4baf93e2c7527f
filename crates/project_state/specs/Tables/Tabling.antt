-- What a change does to the tables of agreement.
use Rattle.std.specs.Prelude.{◌≡◌, ℕ, ◌+◌, ◌-◌, ◌<◌, ◌≤◌, if◌then◌else◌, nat_lt, true, false, List, length, slice_index, Some, None, ⊤}
use Rattle.std.specs.Arc.{arc_value}
use Rattle.std.specs.Option.{option_map_or}
use Rattle.char_documents.specs.Tokens.{tokens_of}
use Rattle.label_tracks.specs.Labels.{labels_of}
use Rattle.label_tracks.specs.Levels.{grouping_of}
use Rattle.layer_model.specs.Annotations.{Annotations}
use Rattle.kappa_alpha.specs.Standing.{Standing, admitted, document_at, posted, row_at, tokens_in}
use Rattle.kappa_alpha.specs.Steps.{changed, join_steps, raters_on, relabel_steps}
use Rattle.project_machine.specs.ProjectState.{ProjectState, Row, document, rater_of, row}
use Rattle.project_machine.specs.ProjectState as project
use Rattle.project_machine.specs.Requests.{Happened, TextAdded, LayerCommitted, LayerIgnored, LayerReadmitted}
use Rattle.project_machine.specs.Tables.{standing_of}
use Rattle.project_state.specs.declared.act.Act.{Act}
use Rattle.project_state.specs.declared.act.Act.TheVariants as act
use Rattle.project_state.specs.Acting.{performed}
use Rattle.project_state.specs.declared.tables.tabling.TableAct.{TableAct}
use Rattle.project_state.specs.declared.tables.tabling.TableAct.TheVariants as table

-- the rows that stand behind an act on the tables
abbrev pub tabled : TableAct → Standing → Standing
tabled (table.Admit tokens) t = admitted t tokens (t.spare - 1)
tabled (table.Post doc rater row) t = posted t doc rater (Some row)
tabled (table.Drop doc rater) t = posted t doc rater None
tabled table.Nothing t = t

-- an act on the tables can be done: a document that comes in has room, and labels are those of the document's tokens
abbrev pub CanTable : TableAct → Standing → Type 0
CanTable (table.Admit tokens) t = (1 ≤ t.spare) × (length t.documents < 4096) × (tokens_in t.documents + tokens ≤ 8390656)
CanTable (table.Post doc rater row) t =
    (doc < length t.documents) × (rater < t.raters) × (length row ≡ (document_at t.documents doc).tokens) × ((i : ℕ) → i < length row → slice_index row i < t.categories)
CanTable (table.Drop doc rater) t = (doc < length t.documents) × (rater < t.raters)
CanTable table.Nothing t = ⊤

-- the most steps that an act on the tables takes: for labels in the place of others, for first labels, and for labels that are dropped
abbrev pub most_steps : TableAct → Standing → ℕ
most_steps (table.Admit tokens) t = 0
most_steps (table.Post doc rater row) t =
    option_map_or (λ stood. relabel_steps (length row) (raters_on (posted t doc rater (Some row)) doc) (changed stood row (length row))) (row_at t doc rater)
    (join_steps (length row) (raters_on (posted t doc rater (Some row)) doc))
most_steps (table.Drop doc rater) t = join_steps (document_at t.documents doc).tokens (raters_on t doc)
most_steps table.Nothing t = 0

-- there is room for what comes in
abbrev pub HasSpare : TableAct → ℕ → Type 0
HasSpare (table.Admit tokens) spare = 1 ≤ spare
HasSpare done spare = ⊤

-- the room that is left
abbrev pub spare_behind : TableAct → ℕ → ℕ
spare_behind (table.Admit tokens) spare = spare - 1
spare_behind done spare = spare

-- the labels that a layer gives to the text of the document of a number
abbrev pub labels_given : ProjectState → ℕ → Annotations → List ℕ
labels_given s doc layer = labels_of s.conf.types s.level layer (document s doc).text

-- a commit posts the labels of its layer, unless the row is ignored
abbrev pub commit_tabling : ProjectState → ℕ → ℕ → Row → Annotations → TableAct
commit_tabling s doc rater r layer = if r.ignored then table.Nothing else table.Post doc rater (labels_given s doc layer)

-- a row that is put back has the labels of its last commit again, if there was one
abbrev pub readmit_tabling : ProjectState → ℕ → ℕ → Row → TableAct
readmit_tabling s doc rater r = if nat_lt 0 r.revision then table.Post doc rater (labels_given s doc r.layer) else table.Nothing

-- what a change does to the tables: a text comes in with its tokens, a commit posts labels, a row that is ignored has none, and one that is put back has its own; no other change touches them
abbrev pub tabling_of : ProjectState → Happened → TableAct
tabling_of s (TextAdded by name text) = table.Admit (length (tokens_of text))
tabling_of s (LayerCommitted by doc hold layer) = commit_tabling s doc (rater_of s by) (row s doc by) layer
tabling_of s (LayerIgnored by doc who) = table.Drop doc (rater_of s who)
tabling_of s (LayerReadmitted by doc who) = readmit_tabling s doc (rater_of s who) (row s doc who)
tabling_of s happened = table.Nothing

-- the same of the act by which a change is done
abbrev pub tabling_by : ProjectState → Act → TableAct
tabling_by s (act.AddDocument added) = table.Admit (length (tokens_of added.text))
tabling_by s (act.Commit doc rater layer) = commit_tabling s doc rater (project.row_at s doc rater) (arc_value layer)
tabling_by s (act.Ignore doc rater true) = table.Drop doc rater
tabling_by s (act.Ignore doc rater false) = readmit_tabling s doc rater (project.row_at s doc rater)
tabling_by s done = table.Nothing

-- an act on the tables follows an act on a project: it is what that does to them, it makes from the tables of the project those of the project behind the act, and it can be done
pub record IsTableAct (s : ProjectState) (done : Act) (tabling : TableAct) : Type 0 where
  pub is : tabling ≡ tabling_by s done
  pub stands : (spare : ℕ) → tabled tabling (standing_of s spare) ≡ standing_of (performed done s) (spare_behind tabling spare)
  pub fits : (spare : ℕ) → HasSpare tabling spare → CanTable tabling (standing_of s spare)

-- an act posts the labels that a layer gives to a document: one for each token, each below the number of categories
pub record Posts (s : ProjectState) (doc rater : ℕ) (layer : Annotations) (tabling : TableAct) : Type 0 where
  pub is : tabling ≡ table.Post doc rater (labels_given s doc layer)
  pub long : length (labels_given s doc layer) ≡ length (tokens_of (document s doc).text)
  pub below : (i : ℕ) → i < length (labels_given s doc layer) → slice_index (labels_given s doc layer) i < (grouping_of s.conf.types s.level).width
