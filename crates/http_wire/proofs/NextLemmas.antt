-- Where the bytes held settle what comes next, nothing is left to read for it.
use Rattle.std.proofs.Common.{◌≡◌, inl, inr, ℕ, ◌+◌, ◌≤◌, List, ◌++◌, length, drop, Result, Ok, Err, sym, ap, ◌∙◌, arith}
use Rattle.std.proofs.lemmas.List.{length-append}
use Rattle.httparse.specs.Grammar.{print_request}
use Rattle.http_wire.specs.declared.head.Head.{Head}
use Rattle.http_wire.specs.declared.stop.Stop.{Stop}
use Rattle.http_wire.specs.Heads.{IsHeadOf}
use Rattle.http_wire.specs.Inbox.{HoldsNext}
use Rattle.http_wire.specs.Messages.{LacksHead}
use Rattle.http_wire.specs.NextMessage.{HoldsHead}
use Rattle.http_wire.proofs.MessageLemmas.{one_head, one_size}

-- a whole head stands there
pub next_head : (held : List ℕ) → HoldsNext held → HoldsHead held
next_head held (inl next) = record { head = next.2.head; rest = next.0.body ++ next.1; stands = next.2.stands }
next_head held (inr next) = record { head = next.1.head; rest = next.1.rest; stands = next.1.stands }

-- and so it is not still to come
pub lacks_none : (held : List ℕ) → LacksHead held → HoldsHead held → ⊥
lacks_none held lacks holds = lacks.none holds.head holds.rest holds.stands.reads

-- the body of a head without fault is all there
pub next_enough : (held : List ℕ) (found : Head) → IsHeadOf held found → HoldsNext held → found.len + found.size ≤ length held
next_enough held found is (inl next) =
    let same = one_head held is.head next.2.head (drop found.len held) (next.0.body ++ next.1) is.stands next.2.stands in
    let sizes : ◌≡◌ {A = Result ℕ Stop} (Ok found.size) (Ok (length next.0.body)) = sym is.size ∙ one_size is.head next.2.head same.0 ∙ next.2.size in
    let size : found.size ≡ length next.0.body = cc in
    let whole : length held ≡ length (print_request is.head) + length (drop found.len held) = ap length is.stands.reads.1 ∙ length-append (print_request is.head) (drop found.len held) in
    let behind : length (drop found.len held) ≡ length next.0.body + length next.1 = ap length same.1 ∙ length-append next.0.body next.1 in
    omega (arith, is.len, size, whole, behind)
next_enough held found is (inr next) =
    let same = one_head held is.head next.1.head (drop found.len held) next.1.rest is.stands next.1.stands in
    let sizes : ◌≡◌ {A = Result ℕ Stop} (Ok found.size) (Err next.0) = sym is.size ∙ one_size is.head next.1.head same.0 ∙ next.1.fault in
    absurd (let never : ⊥ = cc in never)
