-- One step of a project: who may ask what, what is tested and in which order, what is answered, and what happens.
use Rattle.std.specs.Prelude.{ℕ, ◌+◌, ◌==◌, ◌||◌, Bool, true, false, not, List, [], ◌∷◌, ◌++◌, length, map, sum, bytes_eq, nat_lt, nat_le, Option, Some, None, codes, decimal, option_map, is_some, unwrap_or, if◌then◌else◌}
use Rattle.std.specs.Option.{option_map_or, option_or}
use Rattle.entry_bytes.specs.Entries.{entry_bytes}
use Rattle.conf_model.specs.Configurations.{Configuration}
use Rattle.char_documents.specs.Tokens.{tokens_of}
use Rattle.layer_model.specs.Annotations.{Annotations}
use Rattle.layer_model.specs.declared.rule.Rule.{Rule}
use Rattle.layer_core.specs.declared.command.Command.{Command}
use Rattle.layer_rules.specs.WellFormed.{least_flaw, commit_fault}
use Rattle.layer_undo.specs.Replays.{first_refusal}
use Rattle.unanimous_merge.specs.Readings.{readings}
use Rattle.curator_decisions.specs.declared.decision_fault.DecisionFault.{DecisionFault}
use Rattle.curator_decisions.specs.declared.decision_fault.DecisionFault.TheVariants as fault
use Rattle.curator_decisions.specs.DecisionFaults.{decide_fault, undecide_fault}
use Rattle.curator_decisions.specs.Decisions.{with_verdict, without_verdict}
use Rattle.project_machine.specs.declared.book_refusal.BookRefusal.{BookRefusal}
use Rattle.project_machine.specs.declared.book_refusal.BookRefusal.TheVariants as no
use Rattle.project_machine.specs.declared.book_refusal.Policy.{Policy}
use Rattle.project_machine.specs.declared.book_refusal.Policy.TheVariants as policy
use Rattle.project_machine.specs.declared.doc_line.DocLine.{DocLine}
use Rattle.unanimous_merge.specs.declared.item.ItemId.{ItemId}
use Rattle.curator_decisions.specs.declared.verdict.Verdict.{Verdict}
use Rattle.layer_rules.specs.CarriedByRule.{id_text, carried_by_rule}
use Rattle.project_machine.specs.ProjectState.{Row, Document, Snapshot, ProjectState, annotators, is_annotator, is_curator, is_there, number_of, document, row_in, no_snapshot, finished_rows, is_untaken, snapshot, text_of, is_holder, holder_of, holder_name, item_in}
use Rattle.project_machine.specs.Requests.{Asked, ReadConf, ListDocs, ReadText, AddText, Checkout, TakeOver, Commit, Park, Finish, ReadLayer, Reopen, Ignore, Readmit, Snap, TakeSnapshot, Decide, Undecide, ReadPairs, ReadAlpha, ReadReport, Out, View, Answered, Conf, Docs, Text, Added, HandedOut, Committed, Parked, Finished, Layer, Ignored, Snapped, Taken, Decided, Pairs, Alpha, Table, Refused, Happened, TextAdded, CheckedOut, TakenOver, LayerCommitted, LayerParked, LayerFinished, LayerReopened, LayerIgnored, LayerReadmitted, SnapshotTaken, ItemDecided, ItemUndecided}
use Rattle.project_machine.specs.Entries.{entry_of}
use Rattle.project_machine.specs.Tables.{pair_lines, all_line}
use Rattle.project_machine.specs.declared.report.Report.TheVariants as report
use Rattle.project_machine.specs.Reports.{report_table}

-- ---- who may ask, and what is tested

-- a refusal where a test is met
abbrev pub when : Bool → BookRefusal → Option BookRefusal
when met refusal = if met then Some refusal else None

-- the first refusal of some
abbrev pub first_of : List (Option BookRefusal) → Option BookRefusal
first_of [] = None
first_of (refusal ∷ refusals) = option_or refusal (first_of refusals)

-- a caller must be an annotator
abbrev pub annotators_only : ProjectState → List ℕ → Option BookRefusal
annotators_only s caller = when (not (is_annotator s caller)) (no.NotAllowed policy.Annotator)

-- a caller must be a curator
abbrev pub curators_only : ProjectState → List ℕ → Option BookRefusal
curators_only s caller = when (not (is_curator s caller)) (no.NotAllowed policy.Curator)

-- who may ask what, beside everyone on the roster
abbrev pub policies : ProjectState → List ℕ → Asked → Option BookRefusal
policies s caller ReadConf = None
policies s caller ListDocs = None
policies s caller (ReadText name) = None
policies s caller (AddText name text) = curators_only s caller
policies s caller (Checkout name) = annotators_only s caller
policies s caller (TakeOver name) = annotators_only s caller
policies s caller (Commit name hold layer) = annotators_only s caller
policies s caller (Park name hold done undone) = annotators_only s caller
policies s caller (Finish name) = annotators_only s caller
policies s caller (ReadLayer name who) = when (not (is_curator s caller || bytes_eq caller who)) (no.NotAllowed policy.Own)
policies s caller (Reopen name who) = curators_only s caller
policies s caller (Ignore name who) = curators_only s caller
policies s caller (Readmit name who) = curators_only s caller
policies s caller (Snap name) = curators_only s caller
policies s caller (TakeSnapshot number) = curators_only s caller
policies s caller (Decide number holder id verdict) = curators_only s caller
policies s caller (Undecide number holder id) = curators_only s caller
policies s caller ReadPairs = curators_only s caller
policies s caller ReadAlpha = curators_only s caller
policies s caller (ReadReport report.Progress) = None
policies s caller (ReadReport report.Snapshots) = curators_only s caller
policies s caller (ReadReport report.Roster) = curators_only s caller

-- a document of this name must be there
abbrev pub there : ProjectState → List ℕ → Option BookRefusal
there s name = when (not (is_there s name)) no.NoDocument

-- somebody named must be an annotator
abbrev pub has_layer : ProjectState → List ℕ → Option BookRefusal
has_layer s who = when (not (is_annotator s who)) no.NoLayer

-- a row must be out under this hold
abbrev pub held : Row → ℕ → Option BookRefusal
held r hold = when (not (option_map_or (λ out. out == hold) r.hold false)) no.NotYours

-- a document of this text has no room: there are 4,096 documents, or all texts together would have more than 16,777,216 characters
abbrev pub is_full : ProjectState → List ℕ → Bool
is_full s text = nat_le 4096 (length s.documents) || nat_lt 16777216 (sum (map (λ d. length d.text) s.documents) + length text)

-- the first rule that forbids to commit a layer: that of its least flaw, or else that of an event with too few arguments
abbrev pub commit_rule : Configuration → ℕ → Annotations → Option Rule
commit_rule conf characters layer = option_or (option_map (λ flaw. flaw.rule) (least_flaw conf characters layer)) (commit_fault conf layer)

-- the first rule by which two scripts are refused from a layer
abbrev pub park_rule : Configuration → ℕ → Annotations → List Command → List Command → Option Rule
park_rule conf characters layer done undone = option_map (λ at. at.1) (first_refusal conf characters layer done undone)

-- how many characters the text of the document of a name has
abbrev pub size_of : ProjectState → List ℕ → ℕ
size_of s name = length (document s (number_of s name)).text

-- a snapshot of this number must have been taken
abbrev pub taken : ProjectState → ℕ → Option BookRefusal
taken s number = when (is_untaken s number) no.NoSnapshot

-- at least two layers must be finished
abbrev pub enough : List (List ℕ × Annotations) → Option BookRefusal
enough finished = when (nat_lt (length finished) 2) (no.TooFewFinished (length finished))

-- somebody named must hold a layer of a snapshot
abbrev pub holds : Snapshot → List ℕ → Option BookRefusal
holds shot who = when (not (is_holder shot who)) (no.Decision fault.NoItem)

-- a verdict on an item must be one that a snapshot admits
abbrev pub decidable : ProjectState → Snapshot → ItemId → Verdict → Option BookRefusal
decidable s shot item verdict = option_map no.Decision (decide_fault s.conf (length (text_of s shot)) (readings shot.holders) shot.verdicts item verdict)

-- the verdict on an item must be one that can be taken back
abbrev pub undecidable : ProjectState → Snapshot → ItemId → Option BookRefusal
undecidable s shot item = option_map no.Decision (undecide_fault s.conf (length (text_of s shot)) (readings shot.holders) shot.verdicts item)

-- what is tested of a request, in order
abbrev pub tests : ProjectState → List ℕ → Asked → List (Option BookRefusal)
tests s caller ReadConf = []
tests s caller ListDocs = []
tests s caller (ReadText name) = there s name ∷ []
tests s caller (AddText name text) = when (is_there s name) no.DocumentThere ∷ when (is_full s text) no.ProjectFull ∷ []
tests s caller (Checkout name) = there s name ∷ when (row_in s name caller).finished no.Finished ∷ when (is_some (row_in s name caller).hold) no.LayerOut ∷ []
tests s caller (TakeOver name) = there s name ∷ when (row_in s name caller).finished no.Finished ∷ []
tests s caller (Commit name hold layer) = there s name ∷ held (row_in s name caller) hold ∷ option_map no.Broken (commit_rule s.conf (size_of s name) layer) ∷ []
tests s caller (Park name hold done undone) = there s name ∷ held (row_in s name caller) hold ∷ option_map no.Broken (park_rule s.conf (size_of s name) (row_in s name caller).layer done undone) ∷ []
tests s caller (Finish name) = there s name ∷ when (is_some (row_in s name caller).hold) no.LayerOut ∷ when (row_in s name caller).finished no.Finished ∷ when ((row_in s name caller).revision == 0) no.NothingCommitted ∷ []
tests s caller (ReadLayer name who) = there s name ∷ has_layer s who ∷ when ((row_in s name who).revision == 0) no.NoLayer ∷ []
tests s caller (Reopen name who) = there s name ∷ has_layer s who ∷ when (not (row_in s name who).finished) no.NotFinished ∷ []
tests s caller (Ignore name who) = there s name ∷ has_layer s who ∷ when ((row_in s name who).revision == 0) no.NothingCommitted ∷ when (row_in s name who).ignored no.AlreadyIgnored ∷ []
tests s caller (Readmit name who) = there s name ∷ has_layer s who ∷ when (not (row_in s name who).ignored) no.NotIgnored ∷ []
tests s caller (Snap name) = there s name ∷ enough (finished_rows s (number_of s name)) ∷ []
tests s caller (TakeSnapshot number) = taken s number ∷ []
tests s caller (Decide number holder id verdict) = taken s number ∷ holds (snapshot s number) holder ∷ decidable s (snapshot s number) (item_in (snapshot s number) holder id) verdict ∷ []
tests s caller (Undecide number holder id) = taken s number ∷ holds (snapshot s number) holder ∷ undecidable s (snapshot s number) (item_in (snapshot s number) holder id) ∷ []
tests s caller ReadPairs = []
tests s caller ReadAlpha = []
tests s caller (ReadReport report) = []

-- why a request is refused, if it is: the caller must be on the roster, then may ask, then each test in order
abbrev pub refusal : ProjectState → List ℕ → Asked → Option BookRefusal
refusal s caller asked =
    option_or (when (not (is_annotator s caller || is_curator s caller)) (no.NotAllowed policy.Roster))
    (option_or (policies s caller asked) (first_of (tests s caller asked)))

-- ---- what a refusal names

-- a policy by its name
abbrev pub policy_text : Policy → List ℕ
policy_text policy.Roster = codes "Roster"
policy_text policy.Annotator = codes "Annotator"
policy_text policy.Curator = codes "Curator"
policy_text policy.Own = codes "Own"

-- an item: the name of its holder, and its ID there
abbrev pub item_text : Snapshot → ItemId → List ℕ
item_text shot item = holder_name shot item.holder ++ (codes "/" ++ id_text item.id)

-- what a fault of a decision names: the item that is needed, or what a rule names
abbrev pub fault_text : Configuration → Snapshot → DecisionFault → List ℕ
fault_text conf shot (fault.NeedsItem item) = item_text shot item
fault_text conf shot (fault.Broken broken) = unwrap_or (carried_by_rule conf broken) []
fault_text conf shot other = []

-- the snapshot on which a request asks for a decision
abbrev pub decided_snapshot : ProjectState → Asked → Snapshot
decided_snapshot s (Decide number holder id verdict) = snapshot s number
decided_snapshot s (Undecide number holder id) = snapshot s number
decided_snapshot s asked = no_snapshot

-- what a refusal of a request names: a policy, a number, an item, or what a rule names; nothing else names anything
abbrev pub of_text : ProjectState → Asked → BookRefusal → List ℕ
of_text s asked (no.NotAllowed wanted) = policy_text wanted
of_text s asked (no.TooFewFinished finished) = decimal finished
of_text s asked (no.Broken broken) = unwrap_or (carried_by_rule s.conf broken) []
of_text s asked (no.Decision decision) = fault_text s.conf (decided_snapshot s asked) decision
of_text s asked (no.EntryTooLong bytes) = decimal bytes
of_text s asked refusal = []

-- ---- what is answered, and what happens

-- a document in the list of documents
abbrev pub line_of : Document → DocLine
line_of d = record { name = d.name; characters = length d.text }

-- a layer that is handed out at the next place
abbrev pub out_of : ProjectState → Document → Row → Out
out_of s d r = record { hold = s.place + 1; revision = r.revision; base = r.layer; done = r.done; undone = r.undone; text = d.text; conf = s.conf }

-- a snapshot as it is read
abbrev pub view_of : ProjectState → Snapshot → View
view_of s shot = record { holders = shot.holders; verdicts = shot.verdicts; text = text_of s shot; conf = s.conf }

-- the answer to a request that is not refused
abbrev pub reply : ProjectState → List ℕ → Asked → Answered
reply s caller ReadConf = Conf s.conf
reply s caller ListDocs = Docs (map line_of s.documents)
reply s caller (ReadText name) = Text (document s (number_of s name)).text
reply s caller (AddText name text) = Added (length (tokens_of text))
reply s caller (Checkout name) = HandedOut (out_of s (document s (number_of s name)) (row_in s name caller))
reply s caller (TakeOver name) = HandedOut (out_of s (document s (number_of s name)) (row_in s name caller))
reply s caller (Commit name hold layer) = Committed ((row_in s name caller).revision + 1)
reply s caller (Park name hold done undone) = Parked
reply s caller (Finish name) = Finished true
reply s caller (ReadLayer name who) = Layer (row_in s name who).layer (document s (number_of s name)).text s.conf
reply s caller (Reopen name who) = Finished false
reply s caller (Ignore name who) = Ignored true
reply s caller (Readmit name who) = Ignored false
reply s caller (Snap name) = Snapped (length s.snapshots + 1) (length (finished_rows s (number_of s name)))
reply s caller (TakeSnapshot number) = Taken (view_of s (snapshot s number))
reply s caller (Decide number holder id verdict) = Decided (length (with_verdict (snapshot s number).verdicts (item_in (snapshot s number) holder id) verdict))
reply s caller (Undecide number holder id) = Decided (length (without_verdict (snapshot s number).verdicts (item_in (snapshot s number) holder id)))
reply s caller ReadPairs = Pairs (annotators s) (pair_lines s)
reply s caller ReadAlpha = Alpha (all_line s)
reply s caller (ReadReport report) = Table (report_table s caller report)

-- what a request that is not refused makes happen
abbrev pub change : ProjectState → List ℕ → Asked → Option Happened
change s caller ReadConf = None
change s caller ListDocs = None
change s caller (ReadText name) = None
change s caller (AddText name text) = Some (TextAdded caller name text)
change s caller (Checkout name) = Some (CheckedOut caller (number_of s name))
change s caller (TakeOver name) = Some (TakenOver caller (number_of s name))
change s caller (Commit name hold layer) = Some (LayerCommitted caller (number_of s name) hold layer)
change s caller (Park name hold done undone) = Some (LayerParked caller (number_of s name) hold done undone)
change s caller (Finish name) = Some (LayerFinished caller (number_of s name))
change s caller (ReadLayer name who) = None
change s caller (Reopen name who) = Some (LayerReopened caller (number_of s name) who)
change s caller (Ignore name who) = Some (LayerIgnored caller (number_of s name) who)
change s caller (Readmit name who) = Some (LayerReadmitted caller (number_of s name) who)
change s caller (Snap name) = Some (SnapshotTaken caller (number_of s name))
change s caller (TakeSnapshot number) = None
change s caller (Decide number holder id verdict) = Some (ItemDecided caller number (holder_of (snapshot s number) holder) id verdict)
change s caller (Undecide number holder id) = Some (ItemUndecided caller number (holder_of (snapshot s number) holder) id)
change s caller ReadPairs = None
change s caller ReadAlpha = None
change s caller (ReadReport report) = None

-- what a project answers, and what happens
pub record Step : Type 0 where
  pub answer : Answered
  pub change : Option Happened

-- a refusal changes nothing
abbrev pub refused : ProjectState → Asked → BookRefusal → Step
refused s asked refusal = record { answer = Refused refusal (of_text s asked refusal); change = None }

-- how many bytes the entry of a change has
abbrev pub size_in : ProjectState → Happened → ℕ
size_in s happened = length (entry_bytes (entry_of s happened))

-- a change whose entry is longer than a journal takes is refused
abbrev pub bounded : ProjectState → Asked → Answered → Option Happened → Step
bounded s asked answer None = record { answer = answer; change = None }
bounded s asked answer (Some happened) =
    if nat_lt 16777216 (size_in s happened) then refused s asked (no.EntryTooLong (size_in s happened))
    else record { answer = answer; change = Some happened }

-- what is answered, and what happens, unless there is a refusal
abbrev pub unless : ProjectState → Asked → Option BookRefusal → Answered → Option Happened → Step
unless s asked (Some refusal) answer happened = refused s asked refusal
unless s asked None answer happened = bounded s asked answer happened

-- one step of a project: what it answers a caller, and what happens; the length of the entry is tested last
abbrev pub step : ProjectState → List ℕ → Asked → Step
step s caller asked = unless s asked (refusal s caller asked) (reply s caller asked) (change s caller asked)
