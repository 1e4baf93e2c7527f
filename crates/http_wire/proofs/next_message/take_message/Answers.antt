use Rattle.std.proofs.Common.{◌+◌, ◌≤◌, List, ℕ, length, sym, subst, ◌∙◌}
use Rattle.std.proofs.KnownBytes.{Keeps-trans}
use Rattle.http_wire.specs.Heads.{IsHeadOf}
use Rattle.http_wire.proofs.NextLemmas.{next_head, next_enough}
use Rattle.http_wire.proofs.TakeLemmas.{body_stops, head_kept, stops_before, takes_front}
use Rattle.http_wire.proofs.next_message.take_message.Goals as goal

pub returns-in-Err-clause-stop : goal.returns-in-Err-clause-stop
returns-in-Err-clause-stop g c = stops_before _ _ _ _ _ c.await_head.ensures.same c.in-Err.ensures.stop

pub returns-in-Err-await_bytes-clause-stop : goal.returns-in-Err-await_bytes-clause-stop
returns-in-Err-await_bytes-clause-stop g c =
    body_stops _ _ _ c.in-Ok.head _ (head_kept _ _ c.in-Ok.head c.in-Ok.ensures.head c.await_bytes.ensures.front)
    (Keeps-trans _ _ _ c.await_head.ensures.same c.await_bytes.ensures.same) c.in-Err-await_bytes.ensures.stop

pub returns-in-Ok-take_front-clause-message : goal.returns-in-Ok-take_front-clause-message
returns-in-Ok-take_front-clause-message g c = takes_front _ _ _ _ _ (Keeps-trans _ _ _ c.await_head.ensures.same c.await_bytes.ensures.same) c.in-Ok-take_front.ensures.message

pub returns-in-Ok-take_front-clause-no_read : goal.returns-in-Ok-take_front-clause-no_read
returns-in-Ok-take_front-clause-no_read g c = λ next.
    let first = c.await_head.ensures.no_read (next_head _ next) in
    let found = c.in-Ok.head in
    let head = subst (λ (l : List ℕ). IsHeadOf l found) first.held c.in-Ok.ensures.head in
    let enough = subst (λ (l : List ℕ). found.len + found.size ≤ length l) (sym first.held) (next_enough _ found head next) in
    (c.await_bytes.ensures.no_read enough).link ∙ first.link

pub returns-in-Err-take_front-clause-no_read : goal.returns-in-Err-take_front-clause-no_read
returns-in-Err-take_front-clause-no_read g c = λ next.
    let first = c.await_head.ensures.no_read (next_head _ next) in
    let found = c.in-Ok.head in
    let head = subst (λ (l : List ℕ). IsHeadOf l found) first.held c.in-Ok.ensures.head in
    let enough = subst (λ (l : List ℕ). found.len + found.size ≤ length l) (sym first.held) (next_enough _ found head next) in
    (c.await_bytes.ensures.no_read enough).link ∙ first.link

pub returns-in-Err-await_bytes-clause-no_read : goal.returns-in-Err-await_bytes-clause-no_read
returns-in-Err-await_bytes-clause-no_read g c = λ next.
    let first = c.await_head.ensures.no_read (next_head _ next) in
    let found = c.in-Ok.head in
    let head = subst (λ (l : List ℕ). IsHeadOf l found) first.held c.in-Ok.ensures.head in
    let enough = subst (λ (l : List ℕ). found.len + found.size ≤ length l) (sym first.held) (next_enough _ found head next) in
    (c.await_bytes.ensures.no_read enough).link ∙ first.link
