-- Answers whose bodies are JSON (RFC 8259): the compact text of a value, the keys of an object in the order of their bytes.
use Rattle.std.specs.Prelude.{ℕ, Bool, List, map, codes}
use Rattle.serde_json.specs.Data.{Data, boolean, number, unsigned, string, array, object, member, no_members}
use Rattle.serde_json.specs.View.{items_of}
use Rattle.serde_json.specs.Written.{compact_text}
use Rattle.http_wire.specs.declared.answer.Answer.{Answer}
use Rattle.http_wire.specs.declared.answer.Media.TheVariants.{Json}
use Rattle.project_machine.specs.declared.doc_line.DocLine.{DocLine}

-- an answer whose body is a value
abbrev pub json : ℕ → Data → Answer
json status value = record { status = status; media = Json; body = compact_text value }

-- an answer whose body is this JSON text
abbrev pub says : ℕ → List ℕ → Answer
says status text = record { status = status; media = Json; body = text }

-- an object of one number: `{"revision":1}`
abbrev pub one_number : List ℕ → ℕ → Data
one_number key count = object (member key (number (unsigned count)) no_members)

-- an object of one truth value: `{"parked":true}`
abbrev pub one_truth : List ℕ → Bool → Data
one_truth key truth = object (member key (boolean truth) no_members)

-- what is handed out: how many commands are done and undone, and how often the layer was committed
abbrev pub out_value : (done revision undone : ℕ) → Data
out_value done revision undone =
    object (member (codes "done") (number (unsigned done)) (member (codes "revision") (number (unsigned revision)) (member (codes "undone") (number (unsigned undone)) no_members)))

-- a snapshot that was taken: how many layers it holds, and its number
abbrev pub snapped_value : (number layers : ℕ) → Data
snapped_value count layers = object (member (codes "layers") (number (unsigned layers)) (member (codes "snapshot") (number (unsigned count)) no_members))

-- a document in the list of documents
abbrev pub line_value : DocLine → Data
line_value line = object (member (codes "characters") (number (unsigned line.characters)) (member (codes "name") (string line.name) no_members))

-- the list of documents, in its order
abbrev pub docs_value : List DocLine → Data
docs_value lines = object (member (codes "docs") (array (items_of (map line_value lines))) no_members)
