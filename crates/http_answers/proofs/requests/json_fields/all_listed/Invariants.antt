use Rattle.std.proofs.Common.{◌≡◌}
use Rattle.std.specs.Prelude.{map, string_bytes}
use Rattle.std.specs.List.{list_all}
use Rattle.serde_json.specs.View.{members_view}
use Rattle.command_json.specs.BodyFields.{keys_of, is_listed}
use Rattle.http_answers.proofs.requests.json_fields.all_listed.Given as goal

abbrev pub invariant-loop-key : goal.invariant-loop-key
invariant-loop-key l =
    list_all (λ key. is_listed (map (λ listed. listed.now) l.keys) (string_bytes key)) l.key-iterator
    ≡ list_all (is_listed (map (λ listed. listed.now) l.keys)) (keys_of (members_view l.members.entries))
