-- What a head that was found, or one that cannot come, says of the bytes.
use Rattle.std.proofs.Common.{◌≡◌, inl, inr, ℕ, ◌≤◌, List, ◌++◌, length, take, drop, map, Result, Ok, Err, IfOk, arith, sym, ap, ◌∙◌, append_assoc, subst}
use Rattle.std.proofs.lemmas.List.{drop-append-le, length-append}
use Rattle.httparse.specs.Grammar.{RequestHead, print_request, HasNoRequest, NeverHasRequest, MayBecomeRequest}
use Rattle.httparse.specs.Spans.{IsRequestOf, IsRequestAt, span_bytes, header_bytes}
use Rattle.httparse.specs.declared.spans.HeaderSpan.{HeaderSpan}
use Rattle.httparse.specs.declared.spans.RequestSpans.{RequestSpans}
use Rattle.http_wire.specs.declared.head.Head.{Head}
use Rattle.http_wire.specs.declared.head.HeadStep.{HeadStep}
use Rattle.http_wire.specs.declared.head.HeadStep.TheVariants.{Whole, More, Refused}
use Rattle.http_wire.specs.declared.stop.Stop.{Stop}
use Rattle.http_wire.specs.declared.stop.Stop.TheVariants.{End, Cut, BadHead, TooLarge, Encoded, NeedsLength, ReadFault, Memory}
use Rattle.http_wire.specs.Fields.{body_size}
use Rattle.http_wire.specs.Heads.{AlwaysStops, IsFault, IsHeadOf, Settles, StepSays}
use Rattle.http_wire.specs.Messages.{fields_of, HasFault, StandsHead, StopsWith, window}
use Rattle.http_wire.proofs.WindowLemmas.{never_more, stands_more, window_full, window_rest}

-- ---- no head

pub never_head : (bytes : List ℕ) → NeverHasRequest (window bytes) → AlwaysStops bytes BadHead
never_head bytes never = record { kind = tt; always = λ more. inl (never_more bytes more never) }

pub long_head : (bytes : List ℕ) → HasNoRequest (window bytes) → MayBecomeRequest (window bytes) → 16384 ≤ length bytes → AlwaysStops bytes TooLarge
long_head bytes none may full = record {
  kind = tt;
  always = λ more.
      let same : window (bytes ++ more) ≡ window bytes = window_full bytes more full in
      inl (record { none = rw same none; open_end = rw same may; full = omega (arith, length-append bytes more) });
}

-- ---- a head with a fault

fault_stops : (bytes : List ℕ) (stop : Stop) → IsFault stop → HasFault bytes stop → StopsWith bytes stop
fault_stops bytes BadHead kind fault = inr fault
fault_stops bytes TooLarge kind fault = inr fault
fault_stops bytes Encoded kind fault = fault
fault_stops bytes NeedsLength kind fault = fault
fault_stops bytes End kind fault = absurd kind
fault_stops bytes Cut kind fault = absurd kind
fault_stops bytes ReadFault kind fault = absurd kind
fault_stops bytes Memory kind fault = absurd kind

-- the fields that were found are those of the head
found_fields : (bytes : List ℕ) (spans fields : List HeaderSpan) (found : RequestSpans) (h : RequestHead)
    → fields ≡ take found.headers spans → IsRequestAt bytes spans found h → map (header_bytes bytes) fields ≡ fields_of h
found_fields bytes spans fields found h e at = rw e at.fields

found_size : (bytes : List ℕ) (spans fields : List HeaderSpan) (found : RequestSpans) (h : RequestHead) (result : Result ℕ Stop)
    → fields ≡ take found.headers spans → IsRequestAt bytes spans found h
    → result ≡ body_size (span_bytes bytes found.method) (map (header_bytes bytes) fields) → result ≡ body_size h.method (fields_of h)
found_size bytes spans fields found h result e at is =
    is ∙ ap (λ m. body_size m (map (header_bytes bytes) fields)) at.method ∙ ap (body_size h.method) (found_fields bytes spans fields found h e at)

found_stands : (bytes : List ℕ) (spans : List HeaderSpan) (found : RequestSpans) (h : RequestHead) → length bytes ≤ 16384
    → IsRequestAt bytes spans found h → StandsHead bytes h (drop found.len bytes)
found_stands bytes spans found h short at = record {
  reads = at.reads;
  short = omega (arith, ap length at.reads.1, length-append (print_request h) (drop found.len bytes));
}

pub refused_head : (bytes : List ℕ) (spans fields : List HeaderSpan) (found : RequestSpans) (stop : Stop) → length bytes ≤ 16384
    → fields ≡ take found.headers spans → IsRequestOf bytes spans found → IsFault stop
    → Err stop ≡ body_size (span_bytes bytes found.method) (map (header_bytes bytes) fields) → AlwaysStops bytes stop
refused_head bytes spans fields found stop short e of kind fault = record {
  kind = kind;
  always = λ more. fault_stops (bytes ++ more) stop kind (record {
    head = of.0;
    rest = drop found.len bytes ++ more;
    stands = stands_more bytes more of.0 _ (found_stands bytes spans found of.0 short of.1);
    fault = sym (found_size bytes spans fields found of.0 _ e of.1 fault);
  });
}

-- ---- the same of more bytes

-- more bytes behind it leave a head as it was
pub head_more : (bytes more : List ℕ) (found : Head) → IsHeadOf bytes found → IsHeadOf (bytes ++ more) found
head_more bytes more found is =
    let whole : bytes ≡ print_request is.head ++ drop found.len bytes = is.stands.reads.1 in
    let fits : found.len ≤ length bytes = omega (arith, is.len, ap length whole, length-append (print_request is.head) (drop found.len bytes)) in
    let rest : drop found.len (bytes ++ more) ≡ drop found.len bytes ++ more = drop-append-le _ bytes more fits in
    record {
      head = is.head;
      stands = rw rest (stands_more bytes more is.head (drop found.len bytes) is.stands);
      len = is.len;
      size = is.size;
      size_fits = is.size_fits;
      method = is.method;
      path = is.path;
      caller = is.caller;
      last = is.last;
    }

pub settles_more : (bytes more : List ℕ) (step : HeadStep) → Settles bytes step → StepSays (bytes ++ more) step
settles_more bytes more (Whole found) is = head_more bytes more found is
settles_more bytes more More is = absurd is
settles_more bytes more (Refused stop) is = record {
  kind = is.kind;
  always = λ behind. rw append_assoc (is.always (more ++ behind));
}

-- what the window says, the bytes say
pub settled : {E : Type 0} (bytes : List ℕ) (result : Result HeadStep E) → IfOk result (Settles (window bytes)) → IfOk result (StepSays bytes)
settled bytes (Ok step) is = subst (λ b. StepSays b step) (window_rest bytes) (settles_more (window bytes) (drop 16384 bytes) step is)
settled bytes (Err e) is = tt
