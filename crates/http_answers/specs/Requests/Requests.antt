-- What a route with its body asks of a project.
use Rattle.std.specs.Prelude.{ℕ, List, Result, Ok, Err, option_map}
use Rattle.http_answers.specs.declared.routes.route.BookRoute.{BookRoute}
use Rattle.http_answers.specs.declared.routes.route.BookRoute.TheVariants.{Project, Document, Layer, Snapshot}
use Rattle.http_answers.specs.declared.routes.route.ProjectRoute.{ProjectRoute}
use Rattle.http_answers.specs.declared.routes.route.ProjectRoute.TheVariants as project
use Rattle.http_answers.specs.declared.routes.route.DocumentRoute.{DocumentRoute}
use Rattle.http_answers.specs.declared.routes.route.DocumentRoute.TheVariants as document
use Rattle.http_answers.specs.declared.routes.route.LayerRoute.{LayerRoute}
use Rattle.http_answers.specs.declared.routes.route.LayerRoute.TheVariants as layer
use Rattle.http_answers.specs.declared.routes.route.SnapshotRoute.{SnapshotRoute}
use Rattle.http_answers.specs.declared.routes.route.SnapshotRoute.TheVariants as snapshot
use Rattle.project_machine.specs.declared.report.Report.TheVariants as report
use Rattle.project_machine.specs.Requests.{Asked, ReadConf, ListDocs, ReadText, AddText, Checkout, TakeOver, Finish, ReadLayer, Reopen, Ignore, Readmit, Snap, TakeSnapshot, Decide, Undecide, ReadPairs, ReadAlpha, ReadReport}
use Rattle.http_answers.specs.declared.requests.body_fault.BodyFault.{BodyFault}
use Rattle.http_answers.specs.declared.requests.item_named.ItemNamed.{ItemNamed}
use Rattle.http_answers.specs.declared.requests.decision_body.DecisionBody.{DecisionBody}
use Rattle.http_answers.specs.Requests.Bodies.{or_bad, text_body, decision_body, undecision_body}

-- what is asked by what a body says, where it says something
abbrev pub asks : {X : Type 0} → (X → Asked) → Result X BodyFault → Result Asked BodyFault
asks ask (Ok said) = Ok (ask said)
asks ask (Err fault) = Err fault

-- a verdict on an item of a snapshot
abbrev pub decides : ℕ → DecisionBody → Asked
decides number said = Decide number said.item.holder said.item.id said.verdict

-- the verdict on an item of a snapshot taken back
abbrev pub undecides : ℕ → ItemNamed → Asked
undecides number item = Undecide number item.holder item.id

-- on the project
abbrev pub asked_of_project : ProjectRoute → Asked
asked_of_project project.Conf = ReadConf
asked_of_project project.Documents = ListDocs
asked_of_project project.Pairs = ReadPairs
asked_of_project project.Alpha = ReadAlpha
asked_of_project project.Progress = ReadReport report.Progress
asked_of_project project.Snapshots = ReadReport report.Snapshots
asked_of_project project.Roster = ReadReport report.Roster

-- on a document
abbrev pub asked_of_document : DocumentRoute → List ℕ → List ℕ → Result Asked BodyFault
asked_of_document document.ReadText doc body = Ok (ReadText doc)
asked_of_document document.AddText doc body = asks (AddText doc) (text_body body)
asked_of_document document.Checkout doc body = Ok (Checkout doc)
asked_of_document document.TakeOver doc body = Ok (TakeOver doc)
asked_of_document document.Finish doc body = Ok (Finish doc)
asked_of_document document.Snap doc body = Ok (Snap doc)

-- on the layer of an annotator
abbrev pub asked_of_layer : LayerRoute → List ℕ → List ℕ → Asked
asked_of_layer layer.Read doc who = ReadLayer doc who
asked_of_layer layer.Reopen doc who = Reopen doc who
asked_of_layer layer.Ignore doc who = Ignore doc who
asked_of_layer layer.Readmit doc who = Readmit doc who

-- on a snapshot
abbrev pub asked_of_snapshot : SnapshotRoute → ℕ → List ℕ → Result Asked BodyFault
asked_of_snapshot snapshot.Items number body = Ok (TakeSnapshot number)
asked_of_snapshot snapshot.Curated number body = Ok (TakeSnapshot number)
asked_of_snapshot snapshot.Decide number body = or_bad (option_map (decides number) (decision_body body))
asked_of_snapshot snapshot.Undecide number body = or_bad (option_map (undecides number) (undecision_body body))

-- what a route with its body asks; a body is passed over where the route has none
abbrev pub asked_on : BookRoute → List ℕ → Result Asked BodyFault
asked_on (Project route) body = Ok (asked_of_project route)
asked_on (Document route doc) body = asked_of_document route doc body
asked_on (Layer route doc who) body = Ok (asked_of_layer route doc who)
asked_on (Snapshot route number) body = asked_of_snapshot route number body
