-- The bytes determine the messages, and where they stop.
use Rattle.std.proofs.Common.{◌≡◌, ◌⊎◌, inl, inr, ℕ, ◌≤◌, ◌<◌, List, [], ◌∷◌, ◌++◌, length, take, drop, Result, Ok, Err, refl, sym, ap, ◌∙◌, append-nil, arith, subst}
use Rattle.std.proofs.Math.Seq.{take-append_seam, drop-append_seam}
use Rattle.std.proofs.lemmas.List.{length-append}
use Rattle.httparse.specs.Grammar.{RequestHead, HasNoRequest, MayBecomeRequest, NeverHasRequest}
use Rattle.httparse.proofs.GrammarLemmas.{request_unique}
use Rattle.http_wire.specs.declared.message.Message.{Message}
use Rattle.http_wire.specs.declared.stop.Stop.{Stop}
use Rattle.http_wire.specs.declared.stop.Stop.TheVariants.{End, Cut, BadHead, TooLarge, Encoded, NeedsLength, ReadFault, Memory}
use Rattle.http_wire.specs.Fields.{body_size}
use Rattle.http_wire.specs.Messages.{fields_of, message_of, window, HasFault, HasLongHead, IsEmptyLines, IsOpenTarget, IsSameStop, LacksBody, LacksHead, LeavesOpenTarget, Messages, ReadsMessage, StandsHead, StopsWith}
use Rattle.http_wire.proofs.BlankLemmas.{blank_head, blank_reads, blank_tail}
use Rattle.http_wire.proofs.TakeLemmas.{head_not_empty}
use Rattle.http_wire.proofs.WindowLemmas.{stands_in_window, window_short}

-- ---- messages

-- two texts of one length that go on to one text
same_front : (a b x y : List ℕ) → length a ≡ length b → a ++ x ≡ b ++ y → (a ≡ b) × (x ≡ y)
same_front a b x y n e = (
  sym (take-append_seam a x) ∙ ap (take (length a)) e ∙ ap (λ k. take k (b ++ y)) n ∙ take-append_seam b y,
  sym (drop-append_seam a x) ∙ ap (drop (length a)) e ∙ ap (λ k. drop k (b ++ y)) n ∙ drop-append_seam b y,
)

-- one head stands at the front
pub one_head : (bytes : List ℕ) (h k : RequestHead) (x y : List ℕ) → StandsHead bytes h x → StandsHead bytes k y → (h ≡ k) × (x ≡ y)
one_head bytes h k x y p q = request_unique bytes h k x y p.reads q.reads

pub one_size : (h k : RequestHead) → h ≡ k → body_size h.method (fields_of h) ≡ body_size k.method (fields_of k)
one_size h k same = ap (λ (x : RequestHead). body_size x.method (fields_of x)) same

pub message_unique : (bytes : List ℕ) (a b : Message) (x y : List ℕ) → ReadsMessage bytes a x → ReadsMessage bytes b y → (a ≡ b) × (x ≡ y)
message_unique bytes a b x y p q =
    let heads = one_head bytes p.head q.head (a.body ++ x) (b.body ++ y) p.stands q.stands in
    let sizes : ◌≡◌ {A = Result ℕ Stop} (Ok (length a.body)) (Ok (length b.body)) = sym p.size ∙ one_size p.head q.head heads.0 ∙ q.size in
    let count : length a.body ≡ length b.body = cc in
    let same = same_front a.body b.body x y count heads.1 in
    (p.parts ∙ ap (λ h. message_of h a.body) heads.0 ∙ ap (message_of q.head) same.0 ∙ sym q.parts, same.1)

-- ---- what stands in the place of a message

-- why these bytes stop so
data Reason : Type 0 where
  at_end in_head in_body no_head long fault : Reason

abbrev Because : List ℕ → Stop → Reason → Type 0
Because bytes stop at_end = (stop ≡ End) × (IsEmptyLines bytes × (length bytes < 16384))
Because bytes stop in_head = (stop ≡ Cut) × (LacksHead bytes × ¬ (IsEmptyLines bytes))
Because bytes stop in_body = (stop ≡ Cut) × LacksBody bytes
Because bytes stop no_head = (stop ≡ BadHead) × NeverHasRequest (window bytes)
Because bytes stop long = (stop ≡ TooLarge) × HasLongHead bytes
Because bytes stop fault = HasFault bytes stop

reason_of : (bytes : List ℕ) (stop : Stop) → StopsWith bytes stop → (reason : Reason) × Because bytes stop reason
reason_of bytes End p = (at_end, (refl, p))
reason_of bytes Cut (inl lacks, other) = (in_head, (refl, (lacks, other)))
reason_of bytes Cut (inr lacks, other) = (in_body, (refl, lacks))
reason_of bytes BadHead (inl none) = (no_head, (refl, none))
reason_of bytes BadHead (inr is) = (fault, is)
reason_of bytes TooLarge (inl is) = (long, (refl, is))
reason_of bytes TooLarge (inr is) = (fault, is)
reason_of bytes Encoded p = (fault, p)
reason_of bytes NeedsLength p = (fault, p)
reason_of bytes ReadFault p = absurd p
reason_of bytes Memory p = absurd p

-- ---- no head stands

no_head_in_window : (bytes : List ℕ) (h : RequestHead) (rest : List ℕ) → HasNoRequest (window bytes) → ¬ (StandsHead bytes h rest)
no_head_in_window bytes h rest none stands = none h _ (stands_in_window bytes h rest stands)

no_head_yet : (bytes : List ℕ) (h : RequestHead) (rest : List ℕ) → HasNoRequest bytes → ¬ (StandsHead bytes h rest)
no_head_yet bytes h rest none stands = none h rest stands.reads

never_now : (bytes : List ℕ) → NeverHasRequest bytes → HasNoRequest bytes
never_now bytes never = subst HasNoRequest (append-nil bytes) (never [])

-- empty lines may become a head
never_empty : (bytes : List ℕ) → NeverHasRequest (window bytes) → length bytes < 16384 → ¬ (IsEmptyLines bytes)
never_empty bytes never short empty =
    let fits : length bytes ≤ 16384 = omega arith in
    let here : NeverHasRequest bytes = subst NeverHasRequest (window_short bytes fits) never in
    here blank_tail (blank_head empty.0) [] (blank_reads bytes empty.0 empty.1)

-- where a head may still come and none ever comes, the target is open
open_target : (bytes : List ℕ) → MayBecomeRequest (window bytes) → NeverHasRequest (window bytes) → IsOpenTarget bytes
open_target bytes (inl may) never = absurd (never may.0 may.1 [] may.2)
open_target bytes (inr ends) never = record { ends = ends; never = never }

lacks_window : (bytes : List ℕ) → LacksHead bytes → MayBecomeRequest (window bytes)
lacks_window bytes lacks =
    let short : length bytes < 16384 = lacks.short in
    let fits : length bytes ≤ 16384 = omega arith in
    subst MayBecomeRequest (sym (window_short bytes fits)) lacks.open_end

-- a head without fault has none
sized_fault : (bytes : List ℕ) (stop : Stop) → LacksBody bytes → HasFault bytes stop → ⊥
sized_fault bytes stop lacks is =
    let same = one_head bytes lacks.head is.head lacks.rest is.rest lacks.stands is.stands in
    let k : Ok lacks.count ≡ Err stop = sym lacks.size ∙ one_size lacks.head is.head same.0 ∙ is.fault in cc

one_fault : (bytes : List ℕ) (s t : Stop) → HasFault bytes s → HasFault bytes t → s ≡ t
one_fault bytes s t p q =
    let same = one_head bytes p.head q.head p.rest q.rest p.stands q.stands in
    let k : ◌≡◌ {A = Result ℕ Stop} (Err s) (Err t) = sym p.fault ∙ one_size p.head q.head same.0 ∙ q.fault in cc

-- ---- one stop

-- two reasons give one stop, or the target is open
agree : (bytes : List ℕ) (a b : Reason) → (s t : Stop) → Because bytes s a → Because bytes t b → IsSameStop bytes s t
agree bytes at_end at_end s t p q = inl (p.0 ∙ sym q.0)
agree bytes at_end in_head s t p q = absurd (q.1.1 p.1.0)
agree bytes at_end in_body s t p q = absurd (head_not_empty bytes q.1.head q.1.rest q.1.stands p.1.0)
agree bytes at_end no_head s t p q = absurd (never_empty bytes q.1 p.1.1 p.1.0)
agree bytes at_end long s t p q = let short : length bytes < 16384 = p.1.1 in let full : 16384 ≤ length bytes = q.1.full in absurd (omega arith)
agree bytes at_end fault s t p q = absurd (head_not_empty bytes q.head q.rest q.stands p.1.0)
agree bytes in_head at_end s t p q = absurd (p.1.1 q.1.0)
agree bytes in_head in_head s t p q = inl (p.0 ∙ sym q.0)
agree bytes in_head in_body s t p q = inl (p.0 ∙ sym q.0)
agree bytes in_head no_head s t p q = inr (open_target bytes (lacks_window bytes p.1.0) q.1)
agree bytes in_head long s t p q = let short : length bytes < 16384 = p.1.0.short in let full : 16384 ≤ length bytes = q.1.full in absurd (omega arith)
agree bytes in_head fault s t p q = absurd (no_head_yet bytes q.head q.rest p.1.0.none q.stands)
agree bytes in_body at_end s t p q = absurd (head_not_empty bytes p.1.head p.1.rest p.1.stands q.1.0)
agree bytes in_body in_head s t p q = inl (p.0 ∙ sym q.0)
agree bytes in_body in_body s t p q = inl (p.0 ∙ sym q.0)
agree bytes in_body no_head s t p q = absurd (no_head_in_window bytes p.1.head p.1.rest (never_now (window bytes) q.1) p.1.stands)
agree bytes in_body long s t p q = absurd (no_head_in_window bytes p.1.head p.1.rest q.1.none p.1.stands)
agree bytes in_body fault s t p q = absurd (sized_fault bytes t p.1 q)
agree bytes no_head at_end s t p q = absurd (never_empty bytes p.1 q.1.1 q.1.0)
agree bytes no_head in_head s t p q = inr (open_target bytes (lacks_window bytes q.1.0) p.1)
agree bytes no_head in_body s t p q = absurd (no_head_in_window bytes q.1.head q.1.rest (never_now (window bytes) p.1) q.1.stands)
agree bytes no_head no_head s t p q = inl (p.0 ∙ sym q.0)
agree bytes no_head long s t p q = inr (open_target bytes q.1.open_end p.1)
agree bytes no_head fault s t p q = absurd (no_head_in_window bytes q.head q.rest (never_now (window bytes) p.1) q.stands)
agree bytes long at_end s t p q = let short : length bytes < 16384 = q.1.1 in let full : 16384 ≤ length bytes = p.1.full in absurd (omega arith)
agree bytes long in_head s t p q = let short : length bytes < 16384 = q.1.0.short in let full : 16384 ≤ length bytes = p.1.full in absurd (omega arith)
agree bytes long in_body s t p q = absurd (no_head_in_window bytes q.1.head q.1.rest p.1.none q.1.stands)
agree bytes long no_head s t p q = inr (open_target bytes p.1.open_end q.1)
agree bytes long long s t p q = inl (p.0 ∙ sym q.0)
agree bytes long fault s t p q = absurd (no_head_in_window bytes q.head q.rest p.1.none q.stands)
agree bytes fault at_end s t p q = absurd (head_not_empty bytes p.head p.rest p.stands q.1.0)
agree bytes fault in_head s t p q = absurd (no_head_yet bytes p.head p.rest q.1.0.none p.stands)
agree bytes fault in_body s t p q = absurd (sized_fault bytes s q.1 p)
agree bytes fault no_head s t p q = absurd (no_head_in_window bytes p.head p.rest (never_now (window bytes) q.1) p.stands)
agree bytes fault long s t p q = absurd (no_head_in_window bytes p.head p.rest q.1.none p.stands)
agree bytes fault fault s t p q = inl (one_fault bytes s t p q)

pub stop_unique : (bytes : List ℕ) (s t : Stop) → StopsWith bytes s → StopsWith bytes t → IsSameStop bytes s t
stop_unique bytes s t p q =
    let a = reason_of bytes s p in
    let b = reason_of bytes t q in
    agree bytes a.0 b.0 s t a.1 b.1

-- ---- a stop or a message

message_sized : (bytes : List ℕ) (message : Message) (rest : List ℕ) → ReadsMessage bytes message rest → (reason : Reason) (stop : Stop) → Because bytes stop reason → ⊥
message_sized bytes message rest reads at_end stop is = head_not_empty bytes reads.head _ reads.stands is.1.0
message_sized bytes message rest reads in_head stop is = no_head_yet bytes reads.head _ is.1.0.none reads.stands
message_sized bytes message rest reads in_body stop is =
    let same = one_head bytes is.1.head reads.head is.1.rest (message.body ++ rest) is.1.stands reads.stands in
    let k : ◌≡◌ {A = Result ℕ Stop} (Ok is.1.count) (Ok (length message.body)) = sym is.1.size ∙ one_size is.1.head reads.head same.0 ∙ reads.size in
    let count : is.1.count ≡ length message.body = cc in
    let lacks : length is.1.rest < is.1.count = is.1.lacks in
    absurd (omega (arith, ap length same.1, length-append message.body rest))
message_sized bytes message rest reads no_head stop is = no_head_in_window bytes reads.head _ (never_now (window bytes) is.1) reads.stands
message_sized bytes message rest reads long stop is = no_head_in_window bytes reads.head _ is.1.none reads.stands
message_sized bytes message rest reads fault stop is =
    let same = one_head bytes reads.head is.head (message.body ++ rest) is.rest reads.stands is.stands in
    let k : Ok (length message.body) ≡ Err stop = sym reads.size ∙ one_size reads.head is.head same.0 ∙ is.fault in cc

-- no message stands where the bytes stop
pub stop_no_message : (bytes : List ℕ) (stop : Stop) (message : Message) (rest : List ℕ) → StopsWith bytes stop → ReadsMessage bytes message rest → ⊥
stop_no_message bytes stop message rest stops reads = let why = reason_of bytes stop stops in message_sized bytes message rest reads why.0 stop why.1

pub messages_unique : (bytes : List ℕ) (a b : List Message) (s t : Stop) → Messages bytes a s → Messages bytes b t → a ≡ b
messages_unique bytes [] [] s t p q = refl
messages_unique bytes [] (m ∷ ms) s t p q = absurd (stop_no_message bytes s m q.0 p q.1)
messages_unique bytes (m ∷ ms) [] s t p q = absurd (stop_no_message bytes t m p.0 q p.1)
messages_unique bytes (m ∷ ms) (k ∷ ks) s t p q =
    let same = message_unique bytes m k p.0 q.0 p.1 q.1 in
    let rest = messages_unique q.0 ms ks s t (rw (← same.1) p.2) q.2 in cc

pub stops_agree : (bytes : List ℕ) (a b : List Message) (s t : Stop) → Messages bytes a s → Messages bytes b t → (s ≡ t) ⊎ LeavesOpenTarget bytes a
stops_agree bytes [] [] s t p q = elim (stop_unique bytes s t p q) [ inl same ↦ inl same | inr target ↦ inr target ]
stops_agree bytes [] (m ∷ ms) s t p q = absurd (stop_no_message bytes s m q.0 p q.1)
stops_agree bytes (m ∷ ms) [] s t p q = absurd (stop_no_message bytes t m p.0 q p.1)
stops_agree bytes (m ∷ ms) (k ∷ ks) s t p q =
    let same = message_unique bytes m k p.0 q.0 p.1 q.1 in
    elim (stops_agree p.0 ms ks s t p.2 (rw same.1 q.2)) [ inl e ↦ inl e | inr leaves ↦ inr (p.0, p.1, leaves) ]
