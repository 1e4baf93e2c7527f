-- The list of documents has no float.
use Rattle.std.proofs.Common.{◌≡◌, ◌||◌, false, List, [], ◌∷◌, map, refl, ap}
use Rattle.serde_json.specs.View.{items_of}
use Rattle.serde_json.specs.Written.{has_float, items_have_float}
use Rattle.project_machine.specs.declared.doc_line.DocLine.{DocLine}
use Rattle.http_answers.specs.AnswerBodies.JsonAnswers.{docs_value, line_value}

no_floats : (lines : List DocLine) → items_have_float (items_of (map line_value lines)) ≡ false
no_floats [] = refl
no_floats (line ∷ lines) = no_floats lines

pub docs_bare : (lines : List DocLine) → has_float (docs_value lines) ≡ false
docs_bare lines = ap (λ b. b || false) (no_floats lines)
