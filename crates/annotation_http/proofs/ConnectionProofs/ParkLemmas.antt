-- The last park is one more request.
use Rattle.std.proofs.Common.{◌≡◌, ◌∙◌, List, ap, subst}
use Rattle.layer_core.specs.declared.command.Command.{Command}
use Rattle.project_machine.specs.Requests.{Asked, Park, Answered}
use Rattle.project_machine.specs.Asking.{StaysFaultless, Visited, Visiting}
use Rattle.annotation_http.specs.Exchanges.Connections.{Holding, Holds}
use Rattle.annotation_http.specs.Connection.Steps.{IsLastPark}

-- a desk that was asked to be parked
pub asked_park : (was now : Type 0) (held : Holding) (asked : Asked) (answered : Answered) (old new : Visiting) → asked ≡ Park held.doc held.hold held.desk.done held.desk.undone
    → Visited old new held.who asked answered → StaysFaultless was now old new answered → IsLastPark was (Holds held) old new
asked_park was now held asked answered old new is visited stays =
    (answered, subst (λ (x : Asked). Visited old new held.who x answered) is visited, λ f. ((stays f).1, (stays f).2))

-- the same where its commands were moved
pub moved_park : (was now : Type 0) (held : Holding) (done undone : List Command) (answered : Answered) (old new : Visiting) → done ≡ held.desk.done → undone ≡ held.desk.undone
    → Visited old new held.who (Park held.doc held.hold done undone) answered → StaysFaultless was now old new answered → IsLastPark was (Holds held) old new
moved_park was now held done undone answered old new is_done is_undone =
    asked_park was now held (Park held.doc held.hold done undone) answered old new
    (ap (λ (it : List Command). Park held.doc held.hold it undone) is_done ∙ ap (λ (it : List Command). Park held.doc held.hold held.desk.done it) is_undone)
