-- What the bodies of requests say: the text of a document, and a verdict on an item.
use Rattle.std.specs.Prelude.{◌≡◌, ℕ, List, [], ◌∷◌, length, nat_lt, map, codes, bytes_eq, Option, Some, None, option_and_then, Result, Ok, Err, if◌then◌else◌, ⊤}
use Rattle.std.specs.Str.{chars, is_utf8}
use Rattle.std.specs.Option.{option_map_or}
use Rattle.serde_json.specs.Data.{Data}
use Rattle.mark_base.specs.declared.ann_id.AnnId.{AnnId}
use Rattle.mark_base.specs.ReadIds.{id_read}
use Rattle.http_answers.specs.Routes.Segments.{slug_read}
use Rattle.command_json.specs.Spellings.{has_byte, before_byte, behind_byte, of_two}
use Rattle.command_json.specs.BodyFields.{has_only, text_at}
use Rattle.command_json.specs.Bodies.{value_of}
use Rattle.curator_decisions.specs.declared.verdict.Verdict.{Verdict}
use Rattle.curator_decisions.specs.declared.verdict.Verdict.TheVariants.{Accept, Reject}
use Rattle.http_answers.specs.declared.requests.body_fault.BodyFault.{BodyFault}
use Rattle.http_answers.specs.declared.requests.body_fault.BodyFault.TheVariants.{BadBody, TextTooLong, Memory}
use Rattle.http_answers.specs.declared.requests.item_named.ItemNamed.{ItemNamed}
use Rattle.http_answers.specs.declared.requests.decision_body.DecisionBody.{DecisionBody}

-- what a body says, or that it is bad
abbrev pub or_bad : {X : Type 0} → Option X → Result X BodyFault
or_bad said = option_map_or Ok said (Err BadBody)

-- a text of so many characters at most
abbrev pub short_enough : List ℕ → Result (List ℕ) BodyFault
short_enough text = if nat_lt 200000 (length text) then Err TextTooLong else Ok text

-- the text of a document, by its characters: the body has to be UTF-8, and then to be no longer than a document
abbrev pub text_body : List ℕ → Result (List ℕ) BodyFault
text_body body = if is_utf8 body then short_enough (chars body) else Err BadBody

-- an item by its holder and its ID there: `ann/T3`
abbrev pub item_of : List ℕ → AnnId → ItemNamed
item_of holder id = record { holder = holder; id = id }

-- the item that a text names: a slug, a slash and an ID
abbrev pub item_read : List ℕ → Option ItemNamed
item_read text = if has_byte 47 text then of_two item_of (slug_read (before_byte 47 text)) (id_read (behind_byte 47 text)) else None

-- the verdict of a word
abbrev pub verdict_read : List ℕ → Option Verdict
verdict_read word = if bytes_eq word (codes "accept") then Some Accept else (if bytes_eq word (codes "reject") then Some Reject else None)

-- the item in a body
abbrev pub item_in : Data → Option ItemNamed
item_in body = option_and_then item_read (text_at (codes "item") body)

-- the verdict in a body
abbrev pub verdict_in : Data → Option Verdict
verdict_in body = option_and_then verdict_read (text_at (codes "verdict") body)

-- a decision: an item and a verdict on it
abbrev pub decision_of : ItemNamed → Verdict → DecisionBody
decision_of item verdict = record { item = item; verdict = verdict }

-- the decision that a JSON object says, which has these two fields and no other
abbrev pub decision_in : Data → Option DecisionBody
decision_in body =
    if has_only (map codes ("item" ∷ "verdict" ∷ [])) body then of_two decision_of (item_in body) (verdict_in body) else None

-- the item that a JSON object says, which has this one field
abbrev pub undecision_in : Data → Option ItemNamed
undecision_in body = if has_only (map codes ("item" ∷ [])) body then item_in body else None

-- the decision that a body says
unfoldable pub decision_body : List ℕ → Option DecisionBody
decision_body body = option_and_then decision_in (value_of body)

-- the item that the body of an undecision says
unfoldable pub undecision_body : List ℕ → Option ItemNamed
undecision_body body = option_and_then undecision_in (value_of body)

-- what a fault tells: that of the body, or want of memory
abbrev pub IsFault : {X : Type 0} → Result X BodyFault → BodyFault → Type 0
IsFault asked Memory = ⊤
IsFault asked told = asked ≡ Err told
