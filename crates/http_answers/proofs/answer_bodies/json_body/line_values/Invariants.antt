use Rattle.std.proofs.Common.{◌≡◌, map, take}
use Rattle.serde_json.specs.View.{view}
use Rattle.http_answers.specs.AnswerBodies.JsonAnswers.{line_value}
use Rattle.http_answers.proofs.answer_bodies.json_body.line_values.Given as goal

abbrev pub invariant-loop-line : goal.invariant-loop-line
invariant-loop-line l = map view l.values.items ≡ map line_value (take l.line-index l.lines)
