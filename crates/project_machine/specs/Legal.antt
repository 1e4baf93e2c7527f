-- Which histories there are, and what the state behind each keeps.
use Rattle.std.specs.Prelude.{◌≡◌, ℕ, ◌<◌, ◌≤◌, ◌^◌, ◌≢◌, true, false, List, [], ◌∷◌, ◌++◌, length, get_or, map, sum, None, Some, IfSome}
use Rattle.std.specs.List.{All}
use Rattle.entry_bytes.specs.declared.entry.Entry.TheVariants as entry
use Rattle.entry_bytes.specs.declared.person.Person.{Person}
use Rattle.entry_bytes.specs.Fields.{IsSlug}
use Rattle.conf_model.specs.Configurations.{Configuration}
use Rattle.conf_model.specs.ConfText.{conf_text}
use Rattle.conf_model.specs.Sound as configuration
use Rattle.layer_model.specs.Annotations.{Annotations, no_marks}
use Rattle.layer_model.specs.Snapshots.{AreHolders}
use Rattle.layer_rules.specs.WellFormed.{Obeys}
use Rattle.layer_undo.specs.Replays.{first_refusal}
use Rattle.ann_writer.specs.AnnOf.{ann_of}
use Rattle.unanimous_merge.specs.Readings.{readings}
use Rattle.curator_decisions.specs.Decisions.{Ascend}
use Rattle.curator_decisions.specs.DecisionFaults.{decision_fault}
use Rattle.project_machine.specs.People.{IsRoster}
use Rattle.project_machine.specs.ProjectState.{Row, Document, Snapshot, ProjectState, annotators, is_annotator, is_some_out, text_of}
use Rattle.command_bytes.specs.CommandBytes.{scripts_bytes}
use Rattle.project_machine.specs.Entries.{IsShort, held_piece}
use Rattle.command_bytes.specs.CommandValues.{IsTypedLayer, AreCommands}
use Rattle.project_machine.specs.RequestValues.{IsAsked, IsDocText}
use Rattle.project_machine.specs.Requests.{Asked, View, Happened, Founded, AllFreed, Restored}
use Rattle.project_machine.specs.Machine.{step}
use Rattle.project_machine.specs.History.{after}

-- what a project is founded with: a configuration whose text a file of one can have, a level, 255 for none, and people
pub record IsFounding (conf : Configuration) (level : ℕ) (people : List Person) : Type 0 where
  pub sound : configuration.IsSound conf
  pub short : length (conf_text conf) ≤ 4194304
  pub in_range : level < 256
  pub roster : IsRoster people

-- a layer is one of a program, and obeys the configuration on a text of so many characters
pub record LayerObeys (conf : Configuration) (characters : ℕ) (layer : Annotations) : Type 0 where
  pub typed : IsTypedLayer layer
  pub obeys : Obeys conf characters layer

-- the row of an annotator as steps leave it: its layer obeys and fits an entry of its annotator, its scripts are not refused from it and fit an entry, its commits and its hold are not above the place, and nothing is set where nothing was committed
pub record IsRowKept (conf : Configuration) (text : List ℕ) (place : ℕ) (who : List ℕ) (r : Row) : Type 0 where
  pub layer : LayerObeys conf (length text) r.layer
  pub commit : 0 < r.revision → IsShort (entry.Commit who 0 0 (ann_of conf text r.layer))
  pub commands : AreCommands r.done × AreCommands r.undone
  pub accepted : first_refusal conf (length text) r.layer r.done r.undone ≡ None
  pub draft : IsShort (entry.Draft (scripts_bytes conf text r.done r.undone))
  pub counted : r.revision ≤ place
  pub held : IfSome r.hold (λ hold. hold ≤ place)
  pub empty : r.revision ≡ 0 → r.layer ≡ no_marks
  pub finished : r.revision ≡ 0 → r.finished ≡ false
  pub ignored : r.revision ≡ 0 → r.ignored ≡ false

-- a document as steps leave it: its name and its text are such, and there is a row for each annotator, each as steps leave it
pub record IsDocumentKept (conf : Configuration) (raters : List (List ℕ)) (place : ℕ) (d : Document) : Type 0 where
  pub name : IsSlug d.name
  pub text : IsDocText d.text
  pub rows_are : length d.rows ≡ length raters
  pub rows_kept : (rater : ℕ) (who : List ℕ) (r : Row) → rater < length raters → IsRowKept conf d.text place (get_or raters rater who) (get_or d.rows rater r)

-- a snapshot as steps leave it: 2 to 16 annotators hold layers of one document, each of which obeys and fits an entry, and its verdicts stand in the order of items
pub record IsSnapshotKept (s : ProjectState) (shot : Snapshot) : Type 0 where
  pub doc : shot.doc < length s.documents
  pub holders : AreHolders shot.holders
  pub annotate : All (λ (held : List ℕ × Annotations). is_annotator s held.0 ≡ true) shot.holders
  pub layers : All (λ (held : List ℕ × Annotations). LayerObeys s.conf (length (text_of s shot)) held.1) shot.holders
  pub short : All (λ (held : List ℕ × Annotations). IsShort (held_piece s shot held)) shot.holders
  pub ascending : Ascend shot.verdicts

-- the verdicts of a snapshot are accepted: they are on items, no item that is in names one that is not, and the curated layer obeys
abbrev pub IsAccepted : ProjectState → Snapshot → Type 0
IsAccepted s shot = decision_fault s.conf (length (text_of s shot)) (readings shot.holders) shot.verdicts ≡ None

-- the verdicts of each snapshot are accepted
abbrev pub AreAccepted : ProjectState → Type 0
AreAccepted s = All (IsAccepted s) s.snapshots

-- names that differ
abbrev pub NamesDiffer : List (List ℕ) → Type 0
NamesDiffer names = (i j : ℕ) → i < j → j < length names → get_or names i [] ≢ get_or names j []

-- a project as steps leave it: what it was founded with is such, and it has few documents, of different names and of few characters, and snapshots, no more than its place, since each was taken by one change
pub record IsKept (s : ProjectState) : Type 0 where
  pub founding : IsFounding s.conf s.level s.people
  pub few : length s.documents ≤ 4096
  pub total : sum (map (λ d. length d.text) s.documents) ≤ 16777216
  pub names : NamesDiffer (map (λ d. d.name) s.documents)
  pub documents : All (IsDocumentKept s.conf (annotators s) s.place) s.documents
  pub snapshots : All (IsSnapshotKept s) s.snapshots
  pub taken : length s.snapshots ≤ s.place

-- a project as it can be restored: as steps leave it, with verdicts that are accepted and no layer out, and at a place within the limit
pub record IsSound (s : ProjectState) : Type 0 where
  pub kept : IsKept s
  pub accepted : AreAccepted s
  pub free : is_some_out s ≡ false
  pub placed : 0 < s.place
  pub low : s.place ≤ 2 ^ 62

-- a history: a founding, or a state that was restored, and then what steps of typed requests make happen, and freeings where layers are out
pub data IsLegal : List Happened → Type 0 where
  legal_founding : (conf : Configuration) (level : ℕ) (people : List Person) → IsFounding conf level people → IsLegal (Founded conf level people ∷ [])
  legal_restored : (state : ProjectState) → IsSound state → IsLegal (Restored state.place state ∷ [])
  legal_step : (log : List Happened) (caller : List ℕ) (asked : Asked) (happened : Happened) → IsLegal log → IsAsked asked → (step (after log) caller asked).change ≡ Some happened → IsLegal (log ++ happened ∷ [])
  legal_freeing : (log : List Happened) → IsLegal log → is_some_out (after log) ≡ true → IsLegal (log ++ AllFreed ∷ [])

-- ---- laws of the state

-- a committed layer obeys the configuration: where nothing was committed, the empty layer does too
abbrev pub RowObeys : Configuration → ℕ → Row → Type 0
RowObeys conf characters r = Obeys conf characters r.layer

-- each layer of a document obeys the configuration
abbrev pub DocumentObeys : Configuration → Document → Type 0
DocumentObeys conf d = All (RowObeys conf (length d.text)) d.rows

-- each layer of a project obeys its configuration
abbrev pub LayersObey : ProjectState → Type 0
LayersObey s = All (DocumentObeys s.conf) s.documents

-- a view as steps leave it: the text is one, 2 to 16 holders ascend, each layer is one of a program that obeys the configuration on the text, and the verdicts stand in the order of items
pub record IsViewKept (view : View) : Type 0 where
  pub sound : configuration.IsSound view.conf
  pub is_text : IsDocText view.text
  pub are_holders : AreHolders view.holders
  pub layers : All (λ (held : List ℕ × Annotations). LayerObeys view.conf (length view.text) held.1) view.holders
  pub ascending : Ascend view.verdicts

-- the verdicts of a view are accepted: they are on items, no item that is in names one that is not, and the curated layer obeys
abbrev pub IsViewAccepted : View → Type 0
IsViewAccepted view = decision_fault view.conf (length view.text) (readings view.holders) view.verdicts ≡ None

-- two snapshots hold the same layers of the same document, whatever their verdicts
pub record HoldsTheSame (old new : Snapshot) : Type 0 where
  pub doc : new.doc ≡ old.doc
  pub holders : new.holders ≡ old.holders

-- a history of a book has at most 2^62 changes, so every place of it is below 2^63
abbrev pub HasRoom : List Happened → Type 0
HasRoom log = length log ≤ 2 ^ 62
