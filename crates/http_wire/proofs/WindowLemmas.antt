-- The first 16,384 bytes, and what stands in them.
use Rattle.std.proofs.Common.{◌≡◌, ◌⊎◌, inl, inr, ℕ, ◌+◌, ◌-◌, ◌*◌, ◌≤◌, ◌<◌, List, [], ◌∷◌, ◌++◌, length, take, drop, sym, ap, ◌∙◌, arith, append_assoc, append-nil, subst}
use Rattle.std.proofs.lemmas.List.{length-append, length-take, take-append-drop, take-append-le, take_all}
use Rattle.std.proofs.lemmas.Bool.Decides.{leb_tells}
use Rattle.std.proofs.lemmas.List.Elements.{All-head, All-tail}
use Rattle.std.proofs.Math.Seq.{take-append_seam, take-append-add}
use Rattle.std.specs.List.{All, flat_map}
use Rattle.httparse.specs.Ascii.{colon, space}
use Rattle.httparse.specs.Grammar.{lf, print_blank, print_end, print_section, print_version, Field, IsField, print_field, LineEnd, crlf, RequestHead, print_request, ReadsRequest, HasNoRequest, NeverHasRequest, MayBecomeRequest}
use Rattle.httparse.specs.Spans.{RequestExceeds}
use Rattle.httparse.proofs.GrammarLemmas.{ReadsRequest-append}
use Rattle.http_wire.specs.Messages.{LacksHead, StandsHead, window}

-- ---- more bytes behind them

pub window_rest : (bytes : List ℕ) → window bytes ++ drop 16384 bytes ≡ bytes
window_rest bytes = take-append-drop 16384 bytes

pub window_short : (bytes : List ℕ) → length bytes ≤ 16384 → window bytes ≡ bytes
window_short bytes short = take_all 16384 bytes short

pub window_full : (bytes more : List ℕ) → 16384 ≤ length bytes → window (bytes ++ more) ≡ window bytes
window_full bytes more full = take-append-le 16384 bytes more full

-- the window of more bytes begins with the window
window_grown : (bytes more : List ℕ) → (16384 ≤ length bytes) ⊎ (length bytes ≤ 16384) → (extra : List ℕ) × (window (bytes ++ more) ≡ window bytes ++ extra)
window_grown bytes more (inl full) = ([], window_full bytes more full ∙ sym (append-nil (window bytes)))
window_grown bytes more (inr short) = (
  take (16384 - length bytes) more,
  let n : length bytes + (16384 - length bytes) ≡ 16384 = omega arith in
      ap (λ k. take k (bytes ++ more)) (sym n) ∙ take-append-add bytes more (16384 - length bytes) ∙ ap (λ l. l ++ take (16384 - length bytes) more) (sym (window_short bytes short)),
)

at_most_or_least : (n : ℕ) → (16384 ≤ n) ⊎ (n ≤ 16384)
at_most_or_least n = elim (leb_tells 16384 n) [ inl full ↦ inl full.1 | inr short ↦ inr (omega (arith, short.1)) ]

pub window_more : (bytes more : List ℕ) → (extra : List ℕ) × (window (bytes ++ more) ≡ window bytes ++ extra)
window_more bytes more = window_grown bytes more (at_most_or_least (length bytes))

pub lacks_head : (bytes : List ℕ) → HasNoRequest (window bytes) → MayBecomeRequest (window bytes) → length bytes < 16384 → LacksHead bytes
lacks_head bytes none may short =
    let fits : length bytes ≤ 16384 = omega arith in
    let same : window bytes ≡ bytes = window_short bytes fits in
    record { none = subst HasNoRequest same none; open_end = subst MayBecomeRequest same may; short = short }

-- what can never become a head stays so
pub never_more : (bytes more : List ℕ) → NeverHasRequest (window bytes) → NeverHasRequest (window (bytes ++ more))
never_more bytes more never =
    let grown = window_more bytes more in
    rw grown.1 (λ behind h rest reads. never (grown.0 ++ behind) h rest (rw append_assoc at reads))

-- ---- a head in the window

pub stands_more : (bytes more : List ℕ) (h : RequestHead) (rest : List ℕ) → StandsHead bytes h rest → StandsHead (bytes ++ more) h (rest ++ more)
stands_more bytes more h rest stands = record { reads = ReadsRequest-append bytes h rest more stands.reads; short = stands.short }

-- a head that fits in the front of the bytes stands there
head_in_front : (front more : List ℕ) (h : RequestHead) (rest : List ℕ) → ReadsRequest (front ++ more) h rest
    → length (print_request h) ≤ length front → ReadsRequest front h (drop (length (print_request h)) front)
head_in_front front more h rest reads fits = (reads.0, parts)
  where
    parts : front ≡ print_request h ++ drop (length (print_request h)) front
    parts =
        let a : take (length (print_request h)) (front ++ more) ≡ take (length (print_request h)) front = take-append-le _ front more fits in
        let b : take (length (print_request h)) (front ++ more) ≡ print_request h = rw reads.1 (take-append_seam (print_request h) rest) in
        let d : take (length (print_request h)) front ++ drop (length (print_request h)) front ≡ front = take-append-drop _ front in
        cc

pub stands_in_window : (bytes : List ℕ) (h : RequestHead) (rest : List ℕ) → StandsHead bytes h rest
    → ReadsRequest (window bytes) h (drop (length (print_request h)) (window bytes))
stands_in_window bytes h rest stands =
    let whole : bytes ≡ print_request h ++ rest = stands.reads.1 in
    let short : length (print_request h) ≤ 16384 = stands.short in
    let size : length bytes ≡ length (print_request h) + length rest = ap length whole ∙ length-append (print_request h) rest in
    head_in_front (window bytes) (drop 16384 bytes) h rest (rw (window_rest bytes) stands.reads)
    (omega (arith, length-take 16384 bytes))

-- ---- how many fields the window can hold

length_end : (end : LineEnd) → 1 ≤ length (print_end end)
length_end crlf = omega arith
length_end lf = omega arith

-- a field takes three bytes at least
length_field : (f : Field) → IsField f → 3 ≤ length (print_field f)
length_field f is =
    let name : 0 < length f.name = is.name.0 in
    omega (arith, length_end f.end, length-append f.name (colon ∷ f.raw ++ print_end f.end), length-append (colon ∷ f.raw) (print_end f.end), length-append (f.name ++ colon ∷ f.raw) (print_end f.end), length-append f.name (colon ∷ f.raw))

length_fields : (fs : List Field) → All IsField fs → 3 * length fs ≤ length (flat_map print_field fs)
length_fields [] all = omega arith
length_fields (f ∷ fs) all =
    let one : 3 ≤ length (print_field f) = length_field f (All-head IsField f fs all) in
    let rest : 3 * length fs ≤ length (flat_map print_field fs) = length_fields fs (All-tail IsField f fs all) in
    omega (arith, length-append (print_field f) (flat_map print_field fs))

length_request : (h : RequestHead) → All IsField h.fields → 3 * length h.fields ≤ length (print_request h)
unfolding print_request
length_request h all =
    let fields : 3 * length h.fields ≤ length (flat_map print_field h.fields) = length_fields h.fields all in
    let front = print_blank h.blank ++ h.method ++ space ∷ h.target ++ space ∷ print_version h.minor ++ print_end h.line_end in
    let section : length (print_section h.fields h.last) ≡ length (flat_map print_field h.fields) + length (print_end h.last) = length-append (flat_map print_field h.fields) (print_end h.last) in
    let whole : length (front ++ print_section h.fields h.last) ≡ length front + length (print_section h.fields h.last) = length-append front (print_section h.fields h.last) in
    omega arith

-- no head in the window has more fields than there is room for
pub room_suffices : (bytes : List ℕ) → RequestExceeds 5462 (window bytes) → ⊥
room_suffices bytes exceeds =
    let front = exceeds.0 in
    let rest = exceeds.1 in
    let h = exceeds.3 in
    let reads = exceeds.4 in
    let many : 5462 < length h.fields = exceeds.5 in
    let a : length (window bytes) ≡ length front + length rest = ap length exceeds.2 ∙ length-append front rest in
    let b : length (front ++ print_end lf) ≡ length (print_request h) + 0 = ap length reads.1 ∙ length-append (print_request h) [] in
    let d : length (front ++ print_end lf) ≡ length front + 1 = length-append front (print_end lf) in
    let e : 3 * length h.fields ≤ length (print_request h) = length_request h reads.0.fields in
    absurd (omega (arith, length-take 16384 bytes))
