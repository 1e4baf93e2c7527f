-- Why a message was taken from the front of the bytes, or none was.
use Rattle.std.proofs.Common.{◌≡◌, inl, inr, ℕ, ◌+◌, ◌≤◌, ◌<◌, List, [], ◌++◌, length, take, drop, Option, Some, None, IfSome, arith, refl, sym, ap, ◌∙◌, append_assoc, append-nil, subst, false, true}
use Rattle.std.proofs.lemmas.List.{drop-drop, length-append, length-drop, length-take, take-append-drop}
use Rattle.std.specs.Io.KnownBytes.{IsAtEnd, Keeps, prepend_known}
use Rattle.httparse.specs.Grammar.{RequestHead, print_request}
use Rattle.httparse.proofs.GrammarLemmas.{request_prefix_free}
use Rattle.http_wire.specs.declared.head.Head.{Head}
use Rattle.http_wire.specs.declared.message.Message.{Message}
use Rattle.http_wire.specs.declared.stop.Stop.{Stop}
use Rattle.http_wire.specs.declared.stop.Stop.TheVariants.{End, Cut, BadHead, TooLarge, Encoded, NeedsLength, ReadFault, Memory}
use Rattle.http_wire.specs.Heads.{AlwaysStops, IsFault, IsHeadOf}
use Rattle.http_wire.specs.Inbox.{StopsAsDefined, TakesMessage}
use Rattle.http_wire.specs.Messages.{IsEmptyLines, LacksBody, LacksHead, ReadsMessage, StandsHead, StopsWith}
use Rattle.http_wire.specs.NextMessage.{BytesStop, IsFrontMessage, IsFrontOf, empty_lines_after}
use Rattle.http_wire.proofs.BlankLemmas.{blank_head, blank_reads, blank_tail, empty_no, empty_yes}
use Rattle.http_wire.proofs.HeadLemmas.{head_more}
use Rattle.http_wire.proofs.WindowLemmas.{stands_more}

-- ---- a message

-- a head and so many bytes behind it are a message
front_parts : (held left : List ℕ) (found : Head) (message : Message) (rest : List ℕ) → IsHeadOf held found → found.len + found.size ≤ length held
    → message.method ≡ found.method → message.path ≡ found.path → message.caller ≡ found.caller → message.last ≡ found.last
    → message.body ≡ take found.size (drop found.len held) → rest ≡ drop (found.len + found.size) held
    → ReadsMessage (held ++ left) message (rest ++ left)
front_parts held left found message rest is enough method path caller last body rest_is =
    let fits : found.len ≤ length held = omega arith in
    let b : take found.size (drop found.len held) ++ drop found.size (drop found.len held) ≡ drop found.len held = take-append-drop _ _ in
    let d : drop found.size (drop found.len held) ≡ drop (found.len + found.size) held = drop-drop found.size found.len held in
    let behind : drop found.len held ≡ message.body ++ rest = sym b ∙ ap (λ l. l ++ drop found.size (drop found.len held)) (sym body) ∙ ap (λ l. message.body ++ l) (d ∙ sym rest_is) in
    let tail : drop found.len held ++ left ≡ message.body ++ (rest ++ left) = ap (λ l. l ++ left) behind ∙ append_assoc message.body rest left in
    let size : length message.body ≡ found.size = omega (arith, ap length body, length-take found.size (drop found.len held), length-drop found.len held) in
    record {
      head = is.head;
      stands = subst (λ l. StandsHead (held ++ left) is.head l) tail (stands_more held left is.head (drop found.len held) is.stands);
      size = rw size is.size;
      parts = λ i. record {
        method = (method ∙ is.method) i;
        path = (path ∙ is.path) i;
        caller = (caller ∙ is.caller) i;
        body = message.body;
        last = (last ∙ is.last) i;
      };
    }

pub front_message : (held : List ℕ) (found : Head) (message : Message) (rest : List ℕ) → IsHeadOf held found → found.len + found.size ≤ length held
    → message.method ≡ found.method → message.path ≡ found.path → message.caller ≡ found.caller → message.last ≡ found.last
    → message.body ≡ take found.size (drop found.len held) → rest ≡ drop (found.len + found.size) held → IsFrontMessage held rest message
front_message held found message rest is enough method path caller last body rest_is = record {
  reads = λ left. front_parts held left found message rest is enough method path caller last body rest_is;
}

-- the message was told before
pub takes_front : (before left : Option (List ℕ)) (held rest : List ℕ) (message : Message) → Keeps before (prepend_known held left)
    → IsFrontMessage held rest message → TakesMessage before message (prepend_known rest left)
takes_front None left held rest message same front = tt
takes_front (Some bytes) None held rest message same front = absurd same
takes_front (Some bytes) (Some behind) held rest message same front = subst (λ b. ReadsMessage b message (rest ++ behind)) same (front.reads behind)

-- ---- a head whose body is not all there

pub lacks_body : (held : List ℕ) (found : Head) → IsHeadOf held found → length held < found.len + found.size → LacksBody held
lacks_body held found is short = record {
  head = is.head;
  rest = drop found.len held;
  stands = is.stands;
  count = found.size;
  size = is.size;
  lacks =
      let fits : length held ≡ length (print_request is.head) + length (drop found.len held) = ap length is.stands.reads.1 ∙ length-append (print_request is.head) (drop found.len held) in
      omega (arith, is.len);
}

-- where a head stands, there is more than empty lines
pub head_not_empty : (bytes : List ℕ) (h : RequestHead) (rest : List ℕ) → StandsHead bytes h rest → ¬ (IsEmptyLines bytes)
head_not_empty bytes h rest stands empty =
    let same = request_prefix_free bytes blank_tail h (blank_head empty.0) rest [] stands.reads (blank_reads bytes empty.0 empty.1) in
    absurd (omega (arith, ap length same.1, length-append rest blank_tail))

-- ---- why no message was taken

-- the bytes before are those that are told now
pub stops_before : (before now left : Option (List ℕ)) (held : List ℕ) (stop : Stop) → Keeps before now
    → StopsAsDefined now held left stop → StopsAsDefined before held left stop
stops_before None now left held End kept stops = (tt, stops.1)
stops_before None now left held Cut kept stops = (tt, stops.1)
stops_before None now left held BadHead kept stops = tt
stops_before None now left held TooLarge kept stops = tt
stops_before None now left held Encoded kept stops = tt
stops_before None now left held NeedsLength kept stops = tt
stops_before None now left held ReadFault kept stops = stops
stops_before None now left held Memory kept stops = tt
stops_before (Some bytes) None left held stop kept stops = absurd kept
stops_before (Some bytes) (Some rest) left held stop kept stops = subst (λ b. StopsAsDefined (Some b) held left stop) kept stops

known_fault : (before left : Option (List ℕ)) (held : List ℕ) (stop : Stop) → IsFault stop → IfSome before (λ bytes. StopsWith bytes stop)
    → StopsAsDefined before held left stop
known_fault before left held BadHead kind stops = stops
known_fault before left held TooLarge kind stops = stops
known_fault before left held Encoded kind stops = stops
known_fault before left held NeedsLength kind stops = stops
known_fault before left held End kind stops = absurd kind
known_fault before left held Cut kind stops = absurd kind
known_fault before left held ReadFault kind stops = absurd kind
known_fault before left held Memory kind stops = absurd kind

always_known : (left : Option (List ℕ)) (held : List ℕ) (stop : Stop) → AlwaysStops held stop → IfSome (prepend_known held left) (λ bytes. StopsWith bytes stop)
always_known None held stop is = tt
always_known (Some rest) held stop is = is.always rest

-- a fault of the bytes held
pub fault_held : (left : Option (List ℕ)) (held : List ℕ) (stop : Stop) → AlwaysStops held stop → StopsAsDefined (prepend_known held left) held left stop
fault_held left held stop is = known_fault (prepend_known held left) left held stop is.kind (always_known left held stop is)

-- the bytes held are all that is left
pub stops_at_end : (left : Option (List ℕ)) (held : List ℕ) (stop : Stop) → IsAtEnd left
    → StopsAsDefined (Some held) held (Some []) stop → StopsAsDefined (prepend_known held left) held left stop
stops_at_end None held End end stops = (tt, tt)
stops_at_end None held Cut end stops = (tt, tt)
stops_at_end None held BadHead end stops = tt
stops_at_end None held TooLarge end stops = tt
stops_at_end None held Encoded end stops = tt
stops_at_end None held NeedsLength end stops = tt
stops_at_end None held ReadFault end stops = stops
stops_at_end None held Memory end stops = tt
stops_at_end (Some rest) held stop end stops =
    subst (λ l. StopsAsDefined (Some (held ++ l)) held (Some l) stop) (sym end)
    (subst (λ b. StopsAsDefined (Some b) held (Some []) stop) (sym (append-nil held)) stops)

-- the input ends in less than a head
pub empty_end : (held : List ℕ) → LacksHead held → empty_lines_after false held ≡ true → StopsAsDefined (Some held) held (Some []) End
empty_end held lacks test = ((empty_yes held test, lacks.short), refl)

pub other_end : (held : List ℕ) → LacksHead held → empty_lines_after false held ≡ false → StopsAsDefined (Some held) held (Some []) Cut
other_end held lacks test = ((inl lacks, λ empty. empty_no held test empty), refl)

-- a head stays the head of what grew behind it
pub head_kept : (old new : List ℕ) (found : Head) → IsHeadOf old found → IsFrontOf old new → IsHeadOf new found
head_kept old new found is front = rw front.bytes (head_more old front.more found is)

-- the input ends, or a read fails, in a body
pub body_stops : (before left : Option (List ℕ)) (held : List ℕ) (found : Head) (stop : Stop) → IsHeadOf held found
    → Keeps before (prepend_known held left) → BytesStop held left (found.len + found.size) stop → StopsAsDefined before held left stop
body_stops before left held found End is same stops = absurd stops
body_stops None left held found Cut is same stops = (tt, stops.1)
body_stops (Some bytes) None held found Cut is same stops = absurd same
body_stops (Some bytes) (Some rest) held found Cut is same stops =
    let whole : held ≡ bytes = sym (append-nil held) ∙ ap (λ l. held ++ l) (sym stops.1) ∙ same in
    (subst (λ b. StopsWith b Cut) whole (inr (lacks_body held found is stops.0), head_not_empty held is.head _ is.stands), stops.1)
body_stops before left held found BadHead is same stops = absurd stops
body_stops before left held found TooLarge is same stops = absurd stops
body_stops before left held found Encoded is same stops = absurd stops
body_stops before left held found NeedsLength is same stops = absurd stops
body_stops before left held found ReadFault is same stops = inr (lacks_body held found is stops)
body_stops before left held found Memory is same stops = tt
