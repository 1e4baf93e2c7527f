-- The answer that a reply of a project is on its route.
use Rattle.std.specs.Prelude.{ℕ, Bool, true, false, List, length, codes, All, IfSome, encode_utf8_all, ⊤}
use Rattle.http_wire.specs.declared.answer.Answer.{Answer}
use Rattle.http_wire.specs.declared.answer.Media.TheVariants.{Plain, Csv}
use Rattle.conf_model.specs.ConfText.{conf_text}
use Rattle.layer_model.specs.Annotations.{Annotations}
use Rattle.layer_rules.specs.WellFormed.{IsWellFormed}
use Rattle.ann_writer.specs.AnnOf.{ann_of}
use Rattle.unanimous_merge.specs.Readings.{readings}
use Rattle.curator_decisions.specs.Curated.{curated}
use Rattle.kappa_alpha.specs.Figures.{Writable}
use Rattle.agreement_report.specs.Report.{IsShown, pairs_table, alpha_table}
use Rattle.items_report.specs.ItemsTable.{CanBeListed, items_table}
use Rattle.http_answers.specs.declared.routes.route.Route.{Route}
use Rattle.http_answers.specs.declared.routes.route.Route.TheVariants.{Book}
use Rattle.http_answers.specs.declared.routes.route.BookRoute.TheVariants.{Snapshot}
use Rattle.http_answers.specs.declared.routes.route.SnapshotRoute.TheVariants as snapshot
use Rattle.project_machine.specs.Requests.{Answered, Conf, Docs, Text, Added, HandedOut, Committed, Parked, Finished, Layer, Ignored, Snapped, Taken, Decided, Pairs, Alpha, Table, Refused, Out, View}
use Rattle.http_answers.specs.AnswerBodies.JsonAnswers.{json, one_number, one_truth, out_value, snapped_value, docs_value}
use Rattle.http_answers.specs.AnswerBodies.Refusals.{book_refusal}

-- an answer of plain text
abbrev pub plain : List ℕ → Answer
plain body = record { status = 200; media = Plain; body = body }

-- an answer of a table
abbrev pub csv : List ℕ → Answer
csv body = record { status = 200; media = Csv; body = body }

-- the route that shows the curated layer of a snapshot; every other one shows its items
abbrev pub is_curated : Route → Bool
is_curated (Book (Snapshot snapshot.Curated number)) = true
is_curated other = false

-- the curated layer of a snapshot
abbrev pub curated_layer : View → Annotations
curated_layer view = curated (readings view.holders) view.verdicts

-- a snapshot as its curated layer, or as its items
abbrev pub snapshot_answer : Bool → View → Answer
snapshot_answer true view = plain (ann_of view.conf view.text (curated_layer view))
snapshot_answer false view = csv (items_table view.conf view.text view.holders view.verdicts)

-- a layer that is handed out: how many commands are done and undone on it, and how often it was committed
abbrev pub handed_out : Out → Answer
handed_out out = json 200 (out_value (length out.done) out.revision (length out.undone))

-- the answer on a route
abbrev pub answer_on : Route → Answered → Answer
answer_on route (Conf conf) = plain (conf_text conf)
answer_on route (Docs lines) = json 200 (docs_value lines)
answer_on route (Text text) = plain (encode_utf8_all text)
answer_on route (Added tokens) = json 201 (one_number (codes "tokens") tokens)
answer_on route (HandedOut out) = handed_out out
answer_on route (Committed revision) = json 200 (one_number (codes "revision") revision)
answer_on route Parked = json 200 (one_truth (codes "parked") true)
answer_on route (Finished finished) = json 200 (one_truth (codes "finished") finished)
answer_on route (Layer layer text conf) = plain (ann_of conf text layer)
answer_on route (Ignored ignored) = json 200 (one_truth (codes "ignored") ignored)
answer_on route (Snapped number layers) = json 201 (snapped_value number layers)
answer_on route (Taken view) = snapshot_answer (is_curated route) view
answer_on route (Decided count) = json 200 (one_number (codes "decided") count)
answer_on route (Pairs names lines) = csv (pairs_table names lines)
answer_on route (Alpha line) = csv (alpha_table line)
answer_on route (Table bytes) = csv bytes
answer_on route (Refused refusal named) = book_refusal refusal named

-- ---- what can be answered so

-- a snapshot can be shown: the layers of its holders are well-formed, and so is the curated layer
pub record CanBeViewed (view : View) : Type 0 where
  pub listed : CanBeListed view.conf view.text view.holders
  pub curated : IsWellFormed view.conf (length view.text) (curated_layer view)

-- a layer and a snapshot are well-formed, and the figures of agreement have names and can be written: so is all that a project answers
abbrev pub CanBeShown : Answered → Type 0
CanBeShown (Conf conf) = ⊤
CanBeShown (Docs lines) = ⊤
CanBeShown (Text text) = ⊤
CanBeShown (Added tokens) = ⊤
CanBeShown (HandedOut out) = ⊤
CanBeShown (Committed revision) = ⊤
CanBeShown Parked = ⊤
CanBeShown (Finished finished) = ⊤
CanBeShown (Layer layer text conf) = IsWellFormed conf (length text) layer
CanBeShown (Ignored ignored) = ⊤
CanBeShown (Snapped number layers) = ⊤
CanBeShown (Taken view) = CanBeViewed view
CanBeShown (Decided count) = ⊤
CanBeShown (Pairs names lines) = All (λ line. IsShown (length names) line) lines
CanBeShown (Alpha line) = IfSome line.alpha (λ f. Writable f)
CanBeShown (Table bytes) = ⊤
CanBeShown (Refused refusal named) = ⊤
