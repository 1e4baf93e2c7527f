use Rattle.std.proofs.Common.{length, ◌∙◌, ap}
use Rattle.std.specs.Prelude.{is_ok, reverse}
use Rattle.std.specs.Arc.{arc_value}
use Rattle.std.proofs.lemmas.Result.{err_from_is_err_and}
use Rattle.layer_undo.proofs.ReplayLemmas.{carried, stop_behind, stop_front}
use Rattle.layer_undo.proofs.scripts.carry_scripts.Goals as goal

pub returns-in_err-backs-clause-stopped :
    goal.returns-in_err-backs-clause-stopped
returns-in_err-backs-clause-stopped c =
    let work = c.args.work.now in
    let p = err_from_is_err_and c.from_residual.result c.from_residual.ensures.1 in
    rw (p.1, p.2) (stop_front work.conf (length work.text) work.layer c.args.done.now (reverse c.args.undone.now) _ c.in_err-backs.ensures.stopped)

pub returns-in_err-try_undone-clause-stopped : goal.returns-in_err-try_undone-clause-stopped
returns-in_err-try_undone-clause-stopped c =
    let work = c.args.work.now in
    let p = err_from_is_err_and c.from_residual-in_err-try_undone.result c.from_residual-in_err-try_undone.ensures.1 in
    rw (p.1, p.2)
    (stop_behind work.conf (arc_value c.args.conf.now) work.text (arc_value c.args.doc.now) work.layer c.replay_forward.new.work.layer c.layer.result.now c.args.done.now c.args.undone.now _ c.requires.conf c.requires.text c.layer.ensures.value c.in_ok-backs.ensures.done c.in_err-try_undone.ensures.stopped)

pub returns-clause-accepted : goal.returns-clause-accepted
returns-clause-accepted c =
    let work = c.args.work.now in
    let same = carried work.conf (arc_value c.args.conf.now) work.text (arc_value c.args.doc.now) work.layer c.replay_forward.new.work.layer c.layer.result.now c.args.done.now c.args.undone.now c.requires.conf c.requires.text c.layer.ensures.value c.in_ok-backs.ensures.done in
    ap is_ok same ∙ c.in_ok-try_undone.ensures.accepted
