use Rattle.http_answers.specs.Desk.DeskAnswers.{asked, redone, undone}
use Rattle.annotation_http.specs.Exchanges.Connections.{holding_of}
use Rattle.annotation_http.proofs.ExchangesProofs.CarriedLemmas.{done_given, outcome_given, shown_given}
use Rattle.annotation_http.proofs.exchanges.desk_routes.on_desk.Goals as goal

pub returns-in-Show-clause-served : goal.returns-in-Show-clause-served
returns-in-Show-clause-served g c =
    rw c.in-Show.is
    (done_given c.show_lines-answer.result _ _ _ _ _
    (shown_given c.show_lines-answer.result (holding_of c.args.held.now) c.show_lines-answer.ensures.answer c.show_lines-answer.ensures.status))

pub returns-in-Do-clause-served : goal.returns-in-Do-clause-served
returns-in-Do-clause-served g c =
    rw c.in-Do.is
    (done_given c.do_command-answer.result _ _ _ _ _
    (outcome_given c.do_command-answer.result (holding_of c.args.held.now) (asked c.args.held.now.desk c.args.body.now) c.do_command-answer.new.desk c.do_command-answer.ensures.said c.do_command-answer.ensures.status c.do_command-answer.ensures.left))

pub returns-in-Undo-clause-served : goal.returns-in-Undo-clause-served
returns-in-Undo-clause-served g c =
    rw c.in-Undo.is
    (done_given c.undo_last-answer.result _ _ _ _ _
    (outcome_given c.undo_last-answer.result (holding_of c.args.held.now) (undone c.args.held.now.desk) c.undo_last-answer.new.desk c.undo_last-answer.ensures.said c.undo_last-answer.ensures.status c.undo_last-answer.ensures.left))

pub returns-in-Redo-clause-served : goal.returns-in-Redo-clause-served
returns-in-Redo-clause-served g c =
    rw c.in-Redo.is
    (done_given c.redo_last-answer.result _ _ _ _ _
    (outcome_given c.redo_last-answer.result (holding_of c.args.held.now) (redone c.args.held.now.desk) c.redo_last-answer.new.desk c.redo_last-answer.ensures.said c.redo_last-answer.ensures.status c.redo_last-answer.ensures.left))

pub returns-in-Load-clause-served : goal.returns-in-Load-clause-served
returns-in-Load-clause-served g c = rw c.in-Load.is (done_given c.load-answer.result _ _ _ _ _ c.load-answer.ensures)
