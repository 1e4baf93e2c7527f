-- What is answered to what is refused: the name of the rule, what it names, and the status.
use Rattle.std.specs.Prelude.{ℕ, List, ◌++◌, Option, Some, None, codes, decimal}
use Rattle.json.specs.Print.{quoted}
use Rattle.serde_json.specs.Data.{Data, string, number, unsigned, object, member, no_members}
use Rattle.conf_model.specs.Configurations.{Configuration}
use Rattle.layer_model.specs.declared.rule.Rule.{Rule}
use Rattle.layer_model.specs.Rules.{rule_name}
use Rattle.layer_rules.specs.CarriedByRule.{carried_by_rule}
use Rattle.ann_reader.specs.declared.ann_fault.AnnWhat.{AnnWhat}
use Rattle.ann_reader.specs.declared.ann_fault.AnnWhat.TheVariants as ann
use Rattle.http_wire.specs.declared.answer.Answer.{Answer}
use Rattle.http_wire.specs.declared.answer.Media.TheVariants.{Json}
use Rattle.http_wire.specs.Answers.{refusal}
use Rattle.http_answers.specs.AnswerBodies.Refusals.{rule_status}

-- ---- the answers

-- the body of a refusal that names something
abbrev pub refusal_of : ℕ → List ℕ → Option (List ℕ) → Answer
refusal_of status name None = refusal status name
refusal_of status name (Some named) = record {
  status = status;
  media = Json;
  body = codes "{\"of\":" ++ (quoted named ++ (codes ",\"refused\":" ++ (quoted name ++ codes "}")));
}

-- a rule is broken
abbrev pub rule_answer : Configuration → Rule → Answer
rule_answer conf broken = refusal_of (rule_status broken) (rule_name broken) (carried_by_rule conf broken)

-- the body of a refusal of a file, with the number of a line, from 1
abbrev pub line_refusal : ℕ → List ℕ → Option (List ℕ) → Answer
line_refusal line name None = record {
  status = 422;
  media = Json;
  body = codes "{\"line\":" ++ (decimal line ++ (codes ",\"refused\":" ++ (quoted name ++ codes "}")));
}
line_refusal line name (Some named) = record {
  status = 422;
  media = Json;
  body = codes "{\"line\":" ++ (decimal line ++ (codes ",\"of\":" ++ (quoted named ++ (codes ",\"refused\":" ++ (quoted name ++ codes "}")))));
}

-- the same as a value
abbrev pub line_members : ℕ → List ℕ → List ℕ → Data
line_members line name named =
    object (member (codes "line") (number (unsigned line)) (member (codes "of") (string named) (member (codes "refused") (string name) no_members)))

-- a fault of an .ann file
abbrev pub fault_answer : Configuration → ℕ → AnnWhat → Answer
fault_answer conf line ann.NotUtf8 = line_refusal line (codes "NotUtf8") None
fault_answer conf line ann.BadLine = line_refusal line (codes "BadLine") None
fault_answer conf line ann.BadId = line_refusal line (codes "BadId") None
fault_answer conf line ann.IdTwice = line_refusal line (codes "IdTwice") None
fault_answer conf line (ann.WrongText place) = line_refusal line (codes "WrongText") (Some (decimal place))
fault_answer conf line (ann.Broken broken) = line_refusal line (rule_name broken) (carried_by_rule conf broken)
