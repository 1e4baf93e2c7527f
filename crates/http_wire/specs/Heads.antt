-- What the reader of a head has found in the bytes so far (private calls only).
use Rattle.std.specs.Prelude.{◌≡◌, ℕ, ◌≤◌, List, ◌++◌, length, drop, map, Ok, ◌==◌, ◌||◌, ⊤}
use Rattle.httparse.specs.Grammar.{RequestHead, print_request}
use Rattle.httparse.specs.declared.spans.HeaderSpan.{HeaderSpan}
use Rattle.httparse.specs.declared.spans.RequestSpans.{RequestSpans}
use Rattle.httparse.specs.Spans.{span_bytes, header_bytes}
use Rattle.http_wire.specs.declared.head.Head.{Head}
use Rattle.http_wire.specs.declared.head.HeadStep.{HeadStep}
use Rattle.http_wire.specs.declared.head.HeadStep.TheVariants.{Whole, More, Refused}
use Rattle.http_wire.specs.declared.stop.Stop.{Stop}
use Rattle.http_wire.specs.declared.stop.Stop.TheVariants.{End, Cut, BadHead, TooLarge, Encoded, NeedsLength, ReadFault, Memory}
use Rattle.http_wire.specs.Fields.{asks_to_close, body_size, caller_of}
use Rattle.http_wire.specs.Messages.{fields_of, path_of, is_last, LacksHead, StandsHead, StopsWith}

-- the bytes begin with the head of a message, and these are its parts
pub record IsHeadOf (bytes : List ℕ) (found : Head) : Type 0 where
  pub head : RequestHead
  pub stands : StandsHead bytes head (drop found.len bytes)
  pub len : found.len ≡ length (print_request head)
  pub size : body_size head.method (fields_of head) ≡ Ok found.size
  pub size_fits : found.size ≤ 4194304
  pub method : found.method ≡ head.method
  pub path : found.path ≡ path_of head.target
  pub caller : found.caller ≡ caller_of (fields_of head)
  pub last : found.last ≡ is_last head

-- a fault of a head
abbrev pub IsFault : Stop → Type 0
IsFault End = ⊥
IsFault Cut = ⊥
IsFault BadHead = ⊤
IsFault TooLarge = ⊤
IsFault Encoded = ⊤
IsFault NeedsLength = ⊤
IsFault ReadFault = ⊥
IsFault Memory = ⊥

-- no message comes, and the stop is this fault, whatever bytes follow
pub record AlwaysStops (bytes : List ℕ) (stop : Stop) : Type 0 where
  pub kind : IsFault stop
  pub always : (more : List ℕ) → StopsWith (bytes ++ more) stop

-- a head that is whole, one that may still come, or none whatever comes
abbrev pub StepSays : List ℕ → HeadStep → Type 0
StepSays bytes (Whole found) = IsHeadOf bytes found
StepSays bytes More = LacksHead bytes
StepSays bytes (Refused stop) = AlwaysStops bytes stop

-- a whole head is the head of a message, or has a fault
abbrev pub Settles : List ℕ → HeadStep → Type 0
Settles bytes (Whole found) = IsHeadOf bytes found
Settles bytes More = ⊥
Settles bytes (Refused stop) = AlwaysStops bytes stop

-- got has the parts that the spans cover
pub record CopiesHead (bytes : List ℕ) (fields : List HeaderSpan) (found : RequestSpans) (count : ℕ) (got : Head) : Type 0 where
  pub len : got.len ≡ found.len
  pub size : got.size ≡ count
  pub method : got.method ≡ span_bytes bytes found.method
  pub path : got.path ≡ path_of (span_bytes bytes found.path)
  pub caller : got.caller ≡ caller_of (map (header_bytes bytes) fields)
  pub last : got.last ≡ (found.version == 0 || asks_to_close (map (header_bytes bytes) fields))
