use Rattle.std.proofs.Common.{sym, ap}
use Rattle.http_answers.specs.declared.routes.route.Route.TheVariants as route
use Rattle.http_answers.specs.declared.routes.route.DeskRoute.TheVariants as desk
use Rattle.project_state.specs.Values.{answer_of, asked_of}
use Rattle.annotation_http.specs.Exchanges.Plans.{AsksBook}
use Rattle.annotation_http.proofs.ExchangesProofs.CarriedLemmas.{asked_given, park_next, unable_given}
use Rattle.annotation_http.proofs.exchanges.asking.park.Goals as goal

pub returns-in_default-clause-served : goal.returns-in_default-clause-served
returns-in_default-clause-served g c = unable_given c.no_memory.result _ _ _ _ c.no_memory.ensures.answer c.no_memory.ensures.status

pub returns-clause-served : goal.returns-clause-served
returns-clause-served g c =
    asked_given c.answer_of.result _ _ _ _ _ _ _ (route.Desk desk.Park) c.args.held.now.who (asked_of c.in-Ok.request) (answer_of c.ask-reply.result)
    (ap (AsksBook (route.Desk desk.Park) c.args.held.now.who) (sym c.in-Ok.ensures))
    c.ask-reply.ensures.visited c.ask-reply.ensures.faultless
    (park_next _ _ _ _ _ _ _ (answer_of c.ask-reply.result) _ c.in-Ok.ensures c.is_given_up.ensures) c.answer_of.ensures.answer c.answer_of.ensures.status
