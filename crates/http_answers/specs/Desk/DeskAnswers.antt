-- What a desk answers to what is asked of it, and the desk behind that.
use Rattle.std.specs.Prelude.{◌≡◌, ℕ, ◌⊎◌, List, ◌++◌, length, Option, Some, None, Result, Ok, Err, codes, decimal}
use Rattle.json.specs.Print.{quoted}
use Rattle.mark_base.specs.declared.ann_id.AnnId.{AnnId}
use Rattle.http_wire.specs.declared.answer.Answer.{Answer}
use Rattle.http_wire.specs.declared.answer.Media.TheVariants.{Json, Plain}
use Rattle.http_wire.specs.Answers.{refusal}
use Rattle.layer_model.specs.declared.rule.Rule.{Rule}
use Rattle.layer_core.specs.declared.command.Command.{Command}
use Rattle.layer_core.specs.declared.command.Command.TheVariants.{Load}
use Rattle.layer_rules.specs.CarriedByRule.{id_text}
use Rattle.layer_undo.specs.Desks.{DeskState, Performed, performed, after_undo, after_redo, layer_of}
use Rattle.command_json.specs.Bodies.{command_of}
use Rattle.ann_reader.specs.Lines.{lines_of}
use Rattle.ann_reader.specs.AnnFaults as ann
use Rattle.ann_reader.specs.LineFaults.{Fault}
use Rattle.ann_writer.specs.AnnOf.{ann_of}
use Rattle.http_answers.specs.Desk.Refusals.{rule_answer, fault_answer}

-- ---- the answers

-- the answer to a command: the annotation that it made
abbrev pub made_answer : Option AnnId → Answer
made_answer None = record { status = 200; media = Json; body = codes "{\"made\":null}" }
made_answer (Some id) = record { status = 200; media = Json; body = codes "{\"made\":" ++ (quoted (id_text id) ++ codes "}") }

-- the answer to undo and redo: how many commands are done and undone now
abbrev pub counts_answer : DeskState → Answer
counts_answer desk = record {
  status = 200;
  media = Json;
  body = codes "{\"done\":" ++ (decimal (length desk.done) ++ (codes ",\"undone\":" ++ (decimal (length desk.undone) ++ codes "}")));
}

-- the answer that shows the layer: its canonical .ann lines
abbrev pub lines_answer : DeskState → Answer
lines_answer desk = record { status = 200; media = Plain; body = ann_of desk.conf desk.text (layer_of desk) }

-- the answer where memory ran out for what was asked
abbrev pub no_memory : Answer
no_memory = refusal 503 (codes "Memory")

-- ---- what each request makes of a desk

-- an answer, and the desk behind it
abbrev pub Outcome : Type 0
Outcome = Answer × DeskState

-- the layer is shown
abbrev pub shown : DeskState → Outcome
shown desk = (lines_answer desk, desk)

-- a command was carried out or refused
abbrev pub said_of : DeskState → Result Performed Rule → Outcome
said_of desk (Ok done) = (made_answer done.made, done.desk)
said_of desk (Err rule) = (rule_answer desk.conf rule, desk)

-- a desk carries out a command
abbrev pub commanded : DeskState → Command → Outcome
commanded desk command = said_of desk (performed desk command)

-- a body asks for a command, or says none
abbrev pub asked_for : DeskState → Option Command → Outcome
asked_for desk (Some command) = commanded desk command
asked_for desk None = (refusal 400 (codes "BadBody"), desk)

-- a body asks for a command
abbrev pub asked : DeskState → List ℕ → Outcome
asked desk body = asked_for desk (command_of body)

-- a command was undone or redone, or there is none
abbrev pub moved : DeskState → Result DeskState Rule → Outcome
moved desk (Ok new) = (counts_answer new, new)
moved desk (Err rule) = (rule_answer desk.conf rule, desk)

-- the last command done is undone
abbrev pub undone : DeskState → Outcome
undone desk = moved desk (after_undo desk)

-- the last command undone is done again
abbrev pub redone : DeskState → Outcome
redone desk = moved desk (after_redo desk)

-- a file is taken in place of the layer, or its fault is told with its line
abbrev pub loaded_but : DeskState → List ℕ → Option Fault → Outcome
loaded_but desk bytes None = commanded desk (Load (ann.layer_of desk.conf (lines_of bytes)))
loaded_but desk bytes (Some fault) = (fault_answer desk.conf fault.line fault.what, desk)

-- an .ann file takes the place of the layer: the file is read first
abbrev pub loaded : DeskState → List ℕ → Outcome
loaded desk bytes = loaded_but desk bytes (ann.ann_fault desk.conf desk.text bytes)

-- ---- where memory runs out

-- the outcome came about; or memory ran out for it, which is answered, and the desk is as it was
abbrev pub IsOutcome : Outcome → DeskState → Answer → DeskState → Type 0
IsOutcome outcome old answer new = ((answer, new) ≡ outcome) ⊎ ((answer ≡ no_memory) × (new ≡ old))

-- there was no memory for an answer: the desk is as the outcome leaves it, or as it was
abbrev pub IsLeft : Outcome → DeskState → DeskState → Type 0
IsLeft outcome old new = (new ≡ outcome.1) ⊎ (new ≡ old)
