-- The messages of a stream of bytes (RFC 9112), and why there is no further one.
use Rattle.std.specs.Prelude.{◌≡◌, ℕ, ◌<◌, ◌≤◌, ◌⊎◌, ◌==◌, ◌||◌, Bool, List, [], ◌∷◌, ◌++◌, length, map, take, Ok, Err}
use Rattle.std.specs.List.{before_first}
use Rattle.httparse.specs.Grammar.{LineEnd, print_blank, RequestHead, print_request, ReadsRequest, HasNoRequest, MayBecomeRequest, NeverHasRequest, EndsInTarget}
use Rattle.httparse.specs.Spans.{name_and_value}
use Rattle.http_wire.specs.declared.message.Message.{Message}
use Rattle.http_wire.specs.declared.stop.Stop.{Stop}
use Rattle.http_wire.specs.declared.stop.Stop.TheVariants.{End, Cut, BadHead, TooLarge, Encoded, NeedsLength, ReadFault, Memory}
use Rattle.http_wire.specs.Fields.{asks_to_close, body_size, caller_of}

-- ---- what a message is

-- the fields of a head, each as its name and its value without the spaces and tabs around it
abbrev pub fields_of : RequestHead → List (List ℕ × List ℕ)
fields_of head = map name_and_value head.fields

-- the target up to its question mark
abbrev pub path_of : List ℕ → List ℕ
path_of target = before_first (λ byte. byte == 63) target

-- no message is to follow: version 1.0, or the word close in a field Connection
abbrev pub is_last : RequestHead → Bool
is_last head = head.minor == 0 || asks_to_close (fields_of head)

-- the message of a head and a body
abbrev pub message_of : RequestHead → List ℕ → Message
message_of head body = record {
  method = head.method;
  path = path_of head.target;
  caller = caller_of (fields_of head);
  body = body;
  last = is_last head;
}

-- a head stands at the front, in at most 16,384 bytes with the empty lines before it
pub record StandsHead (bytes : List ℕ) (head : RequestHead) (rest : List ℕ) : Type 0 where
  pub reads : ReadsRequest bytes head rest
  pub short : length (print_request head) ≤ 16384

-- the bytes are this message, and then the rest: a head without fault, and the bytes of body that it declares
pub record ReadsMessage (bytes : List ℕ) (message : Message) (rest : List ℕ) : Type 0 where
  pub head : RequestHead
  pub stands : StandsHead bytes head (message.body ++ rest)
  pub size : body_size head.method (fields_of head) ≡ Ok (length message.body)
  pub parts : message ≡ message_of head message.body

-- ---- why no message stands at the front

-- the bytes that a head may take
abbrev pub window : List ℕ → List ℕ
window bytes = take 16384 bytes

-- a head may still come in fewer than 16,384 bytes, but none is whole
pub record LacksHead (bytes : List ℕ) : Type 0 where
  pub none : HasNoRequest bytes
  pub open_end : MayBecomeRequest bytes
  pub short : length bytes < 16384

-- a head without fault stands there, but not all of its body
pub record LacksBody (bytes : List ℕ) : Type 0 where
  pub head : RequestHead
  pub rest : List ℕ
  pub stands : StandsHead bytes head rest
  pub count : ℕ
  pub size : body_size head.method (fields_of head) ≡ Ok count
  pub lacks : length rest < count

-- less than a message, which more bytes may complete
abbrev pub IsUnfinished : List ℕ → Type 0
IsUnfinished bytes = LacksHead bytes ⊎ LacksBody bytes

-- empty lines and nothing else
abbrev pub IsEmptyLines : List ℕ → Type 0
IsEmptyLines bytes = (ends : List LineEnd) × (bytes ≡ print_blank ends)

-- the 16,384 bytes that a head may take are there, and none of them end a head
pub record HasLongHead (bytes : List ℕ) : Type 0 where
  pub none : HasNoRequest (window bytes)
  pub open_end : MayBecomeRequest (window bytes)
  pub full : 16384 ≤ length bytes

-- a head stands there, and this is its first fault
pub record HasFault (bytes : List ℕ) (stop : Stop) : Type 0 where
  pub head : RequestHead
  pub rest : List ℕ
  pub stands : StandsHead bytes head rest
  pub fault : body_size head.method (fields_of head) ≡ Err stop

-- what stands in the place of a message, where these bytes are all that is left
abbrev pub StopsWith : List ℕ → Stop → Type 0
StopsWith bytes End = IsEmptyLines bytes × (length bytes < 16384)
StopsWith bytes Cut = IsUnfinished bytes × ¬ (IsEmptyLines bytes)
StopsWith bytes BadHead = NeverHasRequest (window bytes) ⊎ HasFault bytes BadHead
StopsWith bytes TooLarge = HasLongHead bytes ⊎ HasFault bytes TooLarge
StopsWith bytes Encoded = HasFault bytes Encoded
StopsWith bytes NeedsLength = HasFault bytes NeedsLength
StopsWith bytes ReadFault = ⊥
StopsWith bytes Memory = ⊥

-- ---- the whole stream

-- the bytes are these messages one after another, and then the stop
abbrev pub Messages : List ℕ → List Message → Stop → Type 0
Messages bytes [] stop = StopsWith bytes stop
Messages bytes (message ∷ messages) stop = (rest : List ℕ) × ReadsMessage bytes message rest × Messages rest messages stop

-- the one freedom: the first 16,384 bytes end inside the target of a request line, which waits for its
-- end to be tested for UTF-8, and no bytes that follow make it a head. Then the stop may be BadHead, or
-- the one that stands there without that test: Cut where the input ends, and TooLarge behind 16,384 bytes
pub record IsOpenTarget (bytes : List ℕ) : Type 0 where
  pub ends : EndsInTarget (window bytes)
  pub never : NeverHasRequest (window bytes)

-- the stops are one, but for the one freedom
abbrev pub IsSameStop : List ℕ → Stop → Stop → Type 0
IsSameStop bytes stop other = (stop ≡ other) ⊎ IsOpenTarget bytes

-- behind these messages the bytes end so
abbrev pub LeavesOpenTarget : List ℕ → List Message → Type 0
LeavesOpenTarget bytes [] = IsOpenTarget bytes
LeavesOpenTarget bytes (message ∷ messages) = (rest : List ℕ) × ReadsMessage bytes message rest × LeavesOpenTarget rest messages
