use Rattle.std.proofs.Common.{[], ◌++◌}
use Rattle.std.proofs.KnownBytes.{Appends-nil, Appends-trans}
use Rattle.std.specs.Prelude.{decimal}
use Rattle.std.proofs.lemmas.Result.{on_err_weaker, on_ok_weaker}
use Rattle.http_wire.proofs.StreamLemmas.{front_after, on_err}
use Rattle.http_wire.proofs.UnableLemmas.{unable_parts, unable_front, unable_back}
use Rattle.http_wire.proofs.unable.send_unable.Goals as goal

pub returns-in_err-send_all-clause-front : goal.returns-in_err-send_all-clause-front
returns-in_err-send_all-clause-front g c =
    on_err c.from_residual.result _ (rw unable_parts (front_after _ _ _ [] _ _ (Appends-nil _) c.in_err-send_all.ensures.front))

pub returns-in_err-send_all-2-clause-front : goal.returns-in_err-send_all-2-clause-front
returns-in_err-send_all-2-clause-front g c =
    let digits = rw (c.as_bytes.ensures.value, c.format.ensures.text) at c.in_err-send_all-2.ensures.front in
    on_err c.from_residual-in_err-send_all-2.result _ (rw unable_parts (front_after _ _ _ _ _ _ c.in_ok-send_all.ensures.whole digits))

pub returns-clause-whole : goal.returns-clause-whole
returns-clause-whole g c =
    on_ok_weaker c.send_all-3.result
    (λ back.
    let digits = rw (c.as_bytes.ensures.value, c.format.ensures.text) at c.in_ok-send_all-2.ensures.whole in
    rw unable_parts (Appends-trans _ _ _ _ _ c.in_ok-send_all.ensures.whole (Appends-trans _ _ _ _ _ digits back)))
    c.send_all-3.ensures.whole

pub returns-clause-front : goal.returns-clause-front
returns-clause-front g c =
    on_err_weaker c.send_all-3.result
    (λ back.
    let digits = rw (c.as_bytes.ensures.value, c.format.ensures.text) at c.in_ok-send_all-2.ensures.whole in
    rw unable_parts
    (front_after _ _ _ (unable_front ++ decimal c.args.place) unable_back [] (Appends-trans _ _ _ _ _ c.in_ok-send_all.ensures.whole digits) back))
    c.send_all-3.ensures.front
