use Rattle.std.proofs.Common.{◌∙◌, ap, map}
use Rattle.std.specs.Prelude.{string_bytes}
use Rattle.std.specs.List.{list_all}
use Rattle.command_json.specs.BodyFields.{is_listed}
use Rattle.http_answers.proofs.RequestsProofs.KeyLemmas.{keys_view}
use Rattle.http_answers.proofs.requests.json_fields.all_listed.Goals as goal

pub loop-key-init : goal.loop-key-init
loop-key-init c =
    ap (list_all (λ key. is_listed (map (λ listed. listed.now) c.args.keys.now) (string_bytes key))) (c.into_iter-key-iterator.ensures.into_iter_gives ∙ c.keys-key-items.ensures.rest)
    ∙ keys_view (is_listed (map (λ listed. listed.now) c.args.keys.now)) c.args.members.now.entries
