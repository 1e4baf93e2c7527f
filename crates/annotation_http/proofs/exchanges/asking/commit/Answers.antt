use Rattle.std.proofs.Common.{refl, sym, ◌∙◌, ap, true, false}
use Rattle.http_answers.specs.declared.routes.route.Route.TheVariants as route
use Rattle.http_answers.specs.declared.routes.route.DeskRoute.TheVariants as desk
use Rattle.project_machine.specs.Requests.{Commit}
use Rattle.project_state.specs.Values.{answer_of, asked_of}
use Rattle.annotation_http.specs.declared.exchanges.connection.Held.{Held}
use Rattle.annotation_http.specs.Exchanges.Connections.{Holds, holding_of}
use Rattle.annotation_http.specs.Exchanges.Plans.{AsksBook}
use Rattle.annotation_http.proofs.ExchangesProofs.CarriedLemmas.{asked_given, commit_next, unable_given}
use Rattle.annotation_http.proofs.exchanges.asking.commit.Goals.{then-is_committed, else-is_committed}
use Rattle.annotation_http.proofs.exchanges.asking.commit.Goals as goal

pub returns-in_default-clause-served : goal.returns-in_default-clause-served
returns-in_default-clause-served g c = unable_given c.no_memory.result _ _ _ _ c.no_memory.ensures.answer c.no_memory.ensures.status

pub returns-in_default-commit_request-clause-served : goal.returns-in_default-commit_request-clause-served
returns-in_default-commit_request-clause-served g c =
    unable_given c.no_memory-in_default-commit_request.result _ _ _ _ c.no_memory-in_default-commit_request.ensures.answer c.no_memory-in_default-commit_request.ensures.status

pub returns-clause-served : goal.returns-clause-served
returns-clause-served g c =
    asked_given c.answer_of.result _ _ _ _ _ _ _ (route.Desk desk.Commit) c.args.held.now.who (asked_of c.in-Ok-commit_request.request) (answer_of c.ask-reply.result)
    (ap (AsksBook (route.Desk desk.Commit) c.args.held.now.who) (sym (c.in-Ok-commit_request.ensures ∙ ap (Commit c.args.held.now.doc c.args.held.now.hold) c.in-Ok.ensures)))
    c.ask-reply.ensures.visited c.ask-reply.ensures.faultless
    (elim c.if-is_committed.branch [
      | then-is_committed w ↦ ap (λ (h : Held). Holds (holding_of h)) w.held-is
          ∙ commit_next (holding_of c.args.held.now) c.args.held.now.who c.args.held.now.doc c.args.held.now.hold _ _ (answer_of c.ask-reply.result) _ true c.in-Ok-commit_request.ensures (sym c.is_committed.ensures ∙ w.if-is_committed.true) w.settle.ensures
      | else-is_committed w ↦ ap (λ (h : Held). Holds (holding_of h)) w.held-is
          ∙ commit_next (holding_of c.args.held.now) c.args.held.now.who c.args.held.now.doc c.args.held.now.hold _ _ (answer_of c.ask-reply.result) _ false c.in-Ok-commit_request.ensures (sym c.is_committed.ensures ∙ w.if-is_committed.false) refl
    ]) c.answer_of.ensures.answer c.answer_of.ensures.status
