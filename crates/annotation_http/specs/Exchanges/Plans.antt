-- What a message comes to on a connection: the tests of a message in their order, and then what is asked of the desk or of the project.
use Rattle.std.specs.Prelude.{◌&&◌, ℕ, false, List, Option, Some, None, is_some, option_and_then, Result, Ok, Err, bytes_eq, length, nat_lt, if◌then◌else◌}
use Rattle.http_wire.specs.declared.answer.Answer.{Answer}
use Rattle.http_wire.specs.declared.message.Message.{Message}
use Rattle.layer_undo.specs.Desks.{layer_of}
use Rattle.http_answers.specs.Desk.DeskAnswers.{Outcome, asked, loaded, no_memory, redone, shown, undone}
use Rattle.http_answers.specs.declared.routes.route.Route.{Route}
use Rattle.http_answers.specs.declared.routes.route.Route.TheVariants as route
use Rattle.http_answers.specs.declared.routes.route.BookRoute.{BookRoute}
use Rattle.http_answers.specs.declared.routes.route.BookRoute.TheVariants.{Document}
use Rattle.http_answers.specs.declared.routes.route.DocumentRoute.TheVariants as document
use Rattle.http_answers.specs.declared.routes.route.DeskRoute.{DeskRoute}
use Rattle.http_answers.specs.declared.routes.route.DeskRoute.TheVariants as desk
use Rattle.http_answers.specs.declared.routes.found.Found.{Found}
use Rattle.http_answers.specs.declared.routes.found.Found.TheVariants as found
use Rattle.http_answers.specs.Routes.Found.{found_by}
use Rattle.http_answers.specs.Routes.Segments.{slug_read}
use Rattle.http_answers.specs.declared.requests.body_fault.BodyFault.{BodyFault}
use Rattle.http_answers.specs.declared.requests.body_fault.BodyFault.TheVariants as body
use Rattle.http_answers.specs.Requests.Requests.{asked_on}
use Rattle.http_answers.specs.declared.answer_bodies.message_fault.MessageFault.{MessageFault}
use Rattle.http_answers.specs.declared.answer_bodies.message_fault.MessageFault.TheVariants as message
use Rattle.http_answers.specs.AnswerBodies.Refusals.{fault_answer}
use Rattle.project_machine.specs.Requests.{Asked, Commit, Park}
use Rattle.annotation_http.specs.Exchanges.Connections.{Connection, Bare, Holding, Holds, is_held, with_desk}

-- what a message comes to: an answer that looks at no project, with the connection behind it; or what a caller asks of the project on a route
pub data Plan : Type 0 where
  AtOnce : Answer → Connection → Plan
  AsksBook : Route → (caller : List ℕ) → Asked → Plan

-- a message that asks nothing leaves the connection as it is
abbrev pub refuses : Connection → MessageFault → Plan
refuses c fault = AtOnce (fault_answer fault) c

-- ---- the desk

-- something is done on a desk
abbrev pub at_once : Holding → Outcome → Plan
at_once held outcome = AtOnce outcome.0 (Holds (with_desk held outcome.1))

-- the layer of a desk is to be committed under its hold
abbrev pub commits : Holding → Plan
commits held = AsksBook (route.Desk desk.Commit) held.who (Commit held.doc held.hold (layer_of held.desk))

-- a desk is to be parked under its hold, with its commands
abbrev pub parks : Holding → Plan
parks held = AsksBook (route.Desk desk.Park) held.who (Park held.doc held.hold held.desk.done held.desk.undone)

-- an .ann file is to take the place of the layer of a desk; a body that is longer than any that is read is none
abbrev pub loads : Holding → List ℕ → Plan
loads held body = if nat_lt 16777216 (length body) then refuses (Holds held) message.BadBody else at_once held (loaded held.desk body)

-- what a route asks of a held desk
abbrev pub on_desk : Holding → DeskRoute → List ℕ → Plan
on_desk held desk.Show body = at_once held (shown held.desk)
on_desk held desk.Do body = at_once held (asked held.desk body)
on_desk held desk.Undo body = at_once held (undone held.desk)
on_desk held desk.Redo body = at_once held (redone held.desk)
on_desk held desk.Load body = loads held body
on_desk held desk.Commit body = commits held
on_desk held desk.Park body = parks held

-- a route of the desk: the connection has to hold one, and it has to be the caller's
abbrev pub at_desk : Connection → List ℕ → DeskRoute → List ℕ → Plan
at_desk Bare caller route body = refuses Bare message.NoDesk
at_desk (Holds held) caller route body = if bytes_eq held.who caller then on_desk held route body else refuses (Holds held) message.NotYours

-- ---- the project

-- the document whose desk a route asks for
abbrev pub desk_named : BookRoute → Option (List ℕ)
desk_named (Document document.Checkout doc) = Some doc
desk_named (Document document.TakeOver doc) = Some doc
desk_named other = None

-- what a caller asks with a body, or what is wrong with the body
abbrev pub by_body : Connection → BookRoute → List ℕ → Result Asked BodyFault → Plan
by_body c asked_at caller (Ok asked) = AsksBook (route.Book asked_at) caller asked
by_body c asked_at caller (Err body.BadBody) = refuses c message.BadBody
by_body c asked_at caller (Err body.TextTooLong) = refuses c message.TextTooLong
by_body c asked_at caller (Err body.Memory) = AtOnce no_memory c

-- a route of the project: a desk is handed out only where the connection holds none
abbrev pub at_book : Connection → List ℕ → BookRoute → List ℕ → Plan
at_book c caller asked_at body =
    if is_some (desk_named asked_at) && is_held c then refuses c message.DeskHeld else by_body c asked_at caller (asked_on asked_at body)

-- ---- a message

-- a route, asked by a caller
abbrev pub on_route : Connection → List ℕ → Route → List ℕ → Plan
on_route c caller (route.Book asked_at) body = at_book c caller asked_at body
on_route c caller (route.Desk asked_at) body = at_desk c caller asked_at body

-- who asks, where a field says so
abbrev pub caller_of : Message → Option (List ℕ)
caller_of m = option_and_then slug_read m.caller

-- a route, asked by someone or by no one
abbrev pub by_caller : Connection → Route → List ℕ → Option (List ℕ) → Plan
by_caller c asked_at body None = refuses c message.NoCaller
by_caller c asked_at body (Some caller) = on_route c caller asked_at body

-- what stands at the path of a message, by its method
abbrev pub by_found : Connection → Message → Found → Plan
by_found c m found.NoRoute = refuses c message.NoRoute
by_found c m found.NoMethod = refuses c message.NoMethod
by_found c m (found.At asked_at) = by_caller c asked_at m.body (caller_of m)

-- what a message comes to
unfoldable pub planned : Connection → Message → Plan
planned c m = by_found c m (found_by m.method m.path)

-- ---- messages as they are written (worked examples)

-- a message of a caller, or of no one
abbrev pub sent : Option (List ℕ) → (method path body : List ℕ) → Message
sent caller method path body = record { method = method; path = path; caller = caller; body = body; last = false }
