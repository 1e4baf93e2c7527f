-- What is answered to what is refused: the innermost name of the refusal, what it names, and the status.
use Rattle.std.specs.Prelude.{ℕ, ◌==◌, List, ◌++◌, length, nat_lt, if◌then◌else◌, Option, Some, None, codes}
use Rattle.json.specs.Print.{quoted}
use Rattle.layer_model.specs.declared.rule.Rule.{Rule}
use Rattle.layer_model.specs.Rules.{rule_name, number_of}
use Rattle.curator_decisions.specs.declared.decision_fault.DecisionFault.{DecisionFault}
use Rattle.curator_decisions.specs.declared.decision_fault.DecisionFault.TheVariants as fault
use Rattle.project_machine.specs.declared.book_refusal.BookRefusal.{BookRefusal}
use Rattle.project_machine.specs.declared.book_refusal.BookRefusal.TheVariants as no
use Rattle.project_machine.specs.declared.book_refusal.Policy.{Policy}
use Rattle.project_machine.specs.declared.book_refusal.Policy.TheVariants as policy
use Rattle.http_wire.specs.declared.answer.Answer.{Answer}
use Rattle.http_wire.specs.declared.answer.Media.TheVariants.{Json}
use Rattle.http_wire.specs.Answers.{refusal}
use Rattle.http_answers.specs.declared.answer_bodies.message_fault.MessageFault.{MessageFault}
use Rattle.http_answers.specs.declared.answer_bodies.message_fault.MessageFault.TheVariants as message

-- ---- a refusal as an answer

-- the body of a refusal that names something
abbrev pub refusal_of : ℕ → List ℕ → Option (List ℕ) → Answer
refusal_of status name None = refusal status name
refusal_of status name (Some named) = record {
  status = status;
  media = Json;
  body = codes "{\"of\":" ++ (quoted named ++ (codes ",\"refused\":" ++ (quoted name ++ codes "}")));
}

-- what a text names, where it is not empty
abbrev pub named_by : List ℕ → Option (List ℕ)
named_by text = if length text == 0 then None else Some text

-- ---- messages that ask nothing

-- the name of a message's fault
abbrev pub fault_name : MessageFault → List ℕ
fault_name message.NoRoute = codes "NoRoute"
fault_name message.NoMethod = codes "NoMethod"
fault_name message.NoCaller = codes "NoCaller"
fault_name message.NoDesk = codes "NoDesk"
fault_name message.DeskHeld = codes "DeskHeld"
fault_name message.NotYours = codes "NotYours"
fault_name message.BadBody = codes "BadBody"
fault_name message.TextTooLong = codes "TextTooLong"

-- its status
abbrev pub fault_status : MessageFault → ℕ
fault_status message.NoRoute = 404
fault_status message.NoMethod = 405
fault_status message.NoCaller = 401
fault_status message.NoDesk = 409
fault_status message.DeskHeld = 409
fault_status message.NotYours = 409
fault_status message.BadBody = 400
fault_status message.TextTooLong = 413

-- the answer to it
abbrev pub fault_answer : MessageFault → Answer
fault_answer fault = refusal (fault_status fault) (fault_name fault)

-- ---- refusals of a project

-- what a command or a layer may break is content that cannot be processed; a full desk and an empty list are a conflict (RFC 9110, section 15.5)
abbrev pub rule_status : Rule → ℕ
rule_status broken = if nat_lt 24 (number_of broken) then 409 else 422

-- who is not on the roster is not known; everyone else is known, and may not
abbrev pub policy_status : Policy → ℕ
policy_status policy.Roster = 401
policy_status policy.Annotator = 403
policy_status policy.Curator = 403
policy_status policy.Own = 403

-- the status of a decision's fault
abbrev pub decision_status : DecisionFault → ℕ
decision_status fault.NoItem = 404
decision_status fault.AlreadyIn = 409
decision_status fault.NotIn = 409
decision_status fault.NotDecided = 409
decision_status (fault.NeedsItem item) = 409
decision_status (fault.Broken broken) = 422
decision_status fault.Memory = 503

-- the status of a refusal
abbrev pub status_of : BookRefusal → ℕ
status_of (no.NotAllowed wanted) = policy_status wanted
status_of no.NoDocument = 404
status_of no.NoLayer = 404
status_of no.NoSnapshot = 404
status_of no.LayerOut = 409
status_of no.NotYours = 409
status_of no.Finished = 409
status_of no.NothingCommitted = 409
status_of no.NotFinished = 409
status_of (no.TooFewFinished finished) = 409
status_of (no.Broken broken) = rule_status broken
status_of (no.Decision decision) = decision_status decision
status_of no.DocumentThere = 409
status_of no.ProjectFull = 507
status_of (no.EntryTooLong bytes) = 413
status_of no.Keeper = 500
status_of no.Memory = 503
status_of no.AlreadyIgnored = 409
status_of no.NotIgnored = 409

-- the innermost name of a decision's fault
abbrev pub decision_name : DecisionFault → List ℕ
decision_name fault.NoItem = codes "NoItem"
decision_name fault.AlreadyIn = codes "AlreadyIn"
decision_name fault.NotIn = codes "NotIn"
decision_name fault.NotDecided = codes "NotDecided"
decision_name (fault.NeedsItem item) = codes "NeedsItem"
decision_name (fault.Broken broken) = rule_name broken
decision_name fault.Memory = codes "Memory"

-- the innermost name of a refusal
abbrev pub name_of : BookRefusal → List ℕ
name_of (no.NotAllowed wanted) = codes "NotAllowed"
name_of no.NoDocument = codes "NoDocument"
name_of no.NoLayer = codes "NoLayer"
name_of no.NoSnapshot = codes "NoSnapshot"
name_of no.LayerOut = codes "LayerOut"
name_of no.NotYours = codes "NotYours"
name_of no.Finished = codes "Finished"
name_of no.NothingCommitted = codes "NothingCommitted"
name_of no.NotFinished = codes "NotFinished"
name_of (no.TooFewFinished finished) = codes "TooFewFinished"
name_of (no.Broken broken) = rule_name broken
name_of (no.Decision decision) = decision_name decision
name_of no.DocumentThere = codes "DocumentThere"
name_of no.ProjectFull = codes "ProjectFull"
name_of (no.EntryTooLong bytes) = codes "EntryTooLong"
name_of no.Keeper = codes "Keeper"
name_of no.Memory = codes "Memory"
name_of no.AlreadyIgnored = codes "AlreadyIgnored"
name_of no.NotIgnored = codes "NotIgnored"

-- the answer to a refusal of a project, with what it names
abbrev pub book_refusal : BookRefusal → List ℕ → Answer
book_refusal refused named = refusal_of (status_of refused) (name_of refused) (named_by named)
