-- The bytes of an answer (RFC 9112, section 4).
use Rattle.std.specs.Prelude.{ℕ, Bool, true, List, [], ◌++◌, length, if◌then◌else◌, codes, decimal, Option, Some, None, unwrap_or}
use Rattle.http.specs.StatusCode.{reason_phrase}
use Rattle.http_wire.specs.declared.answer.Answer.{Answer}
use Rattle.http_wire.specs.declared.answer.Media.{Media}
use Rattle.http_wire.specs.declared.answer.Media.TheVariants.{Json, Plain, Csv}
use Rattle.http_wire.specs.declared.stop.Stop.{Stop}
use Rattle.http_wire.specs.declared.stop.Stop.TheVariants.{End, Cut, BadHead, TooLarge, Encoded, NeedsLength, ReadFault, Memory}

-- the media type (RFC 8259, RFC 2046, RFC 4180)
abbrev pub media_text : Media → List ℕ
media_text Json = codes "application/json"
media_text Plain = codes "text/plain; charset=utf-8"
media_text Csv = codes "text/csv; charset=utf-8"

-- the phrase of a status (RFC 9110, section 15), empty for one that has none
unfoldable pub phrase_of : ℕ → List ℕ
phrase_of status = unwrap_or (reason_phrase status) []

-- a field and the end of its line
unfoldable pub field_line : List ℕ → List ℕ → List ℕ
field_line name value = name ++ (codes ": " ++ (value ++ codes "\r\n"))

-- the first line
unfoldable pub status_line : ℕ → List ℕ
status_line status = codes "HTTP/1.1 " ++ (decimal status ++ (codes " " ++ (phrase_of status ++ codes "\r\n")))

-- the end of the lines before the body; the last answer of a connection announces that it is the last
abbrev pub last_lines : Bool → List ℕ
last_lines last = if last then codes "Connection: close\r\n\r\n" else codes "\r\n"

-- an answer at the place of the history that it speaks of
unfoldable pub answer_bytes_of : Answer → ℕ → Bool → List ℕ
answer_bytes_of answer place last =
    status_line answer.status
    ++ field_line (codes "Content-Type") (media_text answer.media)
    ++ field_line (codes "Content-Length") (decimal (length answer.body))
    ++ field_line (codes "Place") (decimal place)
    ++ last_lines last
    ++ answer.body

-- the same without the body, as HEAD is answered (RFC 9110, section 9.3.2)
unfoldable pub answer_head_of : Answer → ℕ → Bool → List ℕ
answer_head_of answer place last =
    status_line answer.status
    ++ field_line (codes "Content-Type") (media_text answer.media)
    ++ field_line (codes "Content-Length") (decimal (length answer.body))
    ++ field_line (codes "Place") (decimal place)
    ++ last_lines last

-- an answer with its body, or without it
abbrev pub answer_bytes_to : Bool → Answer → ℕ → Bool → List ℕ
answer_bytes_to bodiless answer place last = if bodiless then answer_head_of answer place last else answer_bytes_of answer place last

-- a refusal, whose body names it
abbrev pub refusal : ℕ → List ℕ → Answer
refusal status name = record {
  status = status;
  media = Json;
  body = codes "{\"refused\":\"" ++ (name ++ codes "\"}");
}

-- the last answer of a connection that has no memory for another one
unfoldable pub unable : ℕ → List ℕ
unable place = answer_bytes_of (refusal 503 (codes "Memory")) place true

-- the answer to a stop, where it has one; it is the last of the connection
abbrev pub stop_answer : Stop → Option Answer
stop_answer End = None
stop_answer Cut = None
stop_answer BadHead = Some (refusal 400 (codes "BadHead"))
stop_answer TooLarge = Some (refusal 413 (codes "TooLarge"))
stop_answer Encoded = Some (refusal 501 (codes "Encoded"))
stop_answer NeedsLength = Some (refusal 411 (codes "NeedsLength"))
stop_answer ReadFault = None
stop_answer Memory = None
