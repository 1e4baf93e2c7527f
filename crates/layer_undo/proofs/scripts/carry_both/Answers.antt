use Rattle.std.proofs.Common.{length, refl, sym, ◌∙◌, ap}
use Rattle.std.specs.Prelude.{is_ok, reverse}
use Rattle.std.proofs.lemmas.Result.{err_from_is_err_and}
use Rattle.layer_undo.proofs.ReplayLemmas.{carried, stop_behind, stop_front}
use Rattle.layer_undo.proofs.scripts.carry_both.Goals as goal

pub returns-in_err-replay_on-clause-stopped : goal.returns-in_err-replay_on-clause-stopped
returns-in_err-replay_on-clause-stopped c =
    let work = c.args.work.now in
    let p = err_from_is_err_and c.from_residual.result c.from_residual.ensures.1 in
    rw (p.1, p.2) (stop_front work.conf (length work.text) work.layer c.args.done.now (reverse c.args.undone.now) _ c.in_err-replay_on.ensures.stopped)

pub returns-in_err-replay_back-clause-stopped : goal.returns-in_err-replay_back-clause-stopped
returns-in_err-replay_back-clause-stopped c =
    let work = c.args.work.now in
    let after = c.replay_on.new.work in
    let p = err_from_is_err_and c.from_residual-in_err-replay_back.result c.from_residual-in_err-replay_back.ensures.1 in
    rw (p.1, p.2)
    (stop_behind work.conf after.conf work.text after.text work.layer after.layer after.layer c.args.done.now c.args.undone.now _ (sym c.replay_on.ensures.conf) (sym c.replay_on.ensures.text) refl c.in_ok-replay_on.ensures.done c.in_err-replay_back.ensures.stopped)

pub returns-clause-accepted : goal.returns-clause-accepted
returns-clause-accepted c =
    let work = c.args.work.now in
    let after = c.replay_on.new.work in
    let same = carried work.conf after.conf work.text after.text work.layer after.layer after.layer c.args.done.now c.args.undone.now (sym c.replay_on.ensures.conf) (sym c.replay_on.ensures.text) refl c.in_ok-replay_on.ensures.done in
    ap is_ok same ∙ ap is_ok c.in_ok-replay_back.ensures.done
