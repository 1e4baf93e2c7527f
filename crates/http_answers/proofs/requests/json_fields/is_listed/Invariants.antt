use Rattle.std.proofs.Common.{◌≡◌, drop}
use Rattle.std.specs.Prelude.{map}
use Rattle.command_json.specs.BodyFields.{is_listed}
use Rattle.http_answers.proofs.requests.json_fields.is_listed.Given as goal

abbrev pub invariant-loop-listed : goal.invariant-loop-listed
invariant-loop-listed l = is_listed (map (λ listed. listed.now) l.keys) l.key ≡ is_listed (map (λ listed. listed.now) (drop l.listed-index l.keys)) l.key
