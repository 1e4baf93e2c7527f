-- What a message comes to, by the test that it fails.
use Rattle.std.proofs.Common.{◌≡◌, ◌&&◌, ℕ, true, false, List, Err, bytes_eq, refl}
use Rattle.std.specs.Prelude.{is_some}
use Rattle.http_answers.specs.declared.routes.route.BookRoute.{BookRoute}
use Rattle.http_answers.specs.declared.routes.route.DeskRoute.{DeskRoute}
use Rattle.http_answers.specs.declared.requests.body_fault.BodyFault.TheVariants as body
use Rattle.http_answers.specs.Requests.Requests.{asked_on}
use Rattle.http_answers.specs.declared.answer_bodies.message_fault.MessageFault.TheVariants as message
use Rattle.http_answers.specs.AnswerBodies.Refusals.{fault_answer}
use Rattle.annotation_http.specs.Exchanges.Connections.{Connection, Holding, Holds, is_held}
use Rattle.annotation_http.specs.Exchanges.Plans.{AtOnce, at_book, at_desk, desk_named}

pub another_desk : (held : Holding) (caller : List ℕ) (route : DeskRoute) (bytes : List ℕ) → bytes_eq held.who caller ≡ false → at_desk (Holds held) caller route bytes ≡ AtOnce (fault_answer message.NotYours) (Holds held)
another_desk held caller route bytes e = rw e refl

pub second_desk : (c : Connection) (caller : List ℕ) (asked_at : BookRoute) (bytes : List ℕ) → (is_some (desk_named asked_at) && is_held c) ≡ true → at_book c caller asked_at bytes ≡ AtOnce (fault_answer message.DeskHeld) c
second_desk c caller asked_at bytes e = rw e refl

pub bad_body : (c : Connection) (caller : List ℕ) (asked_at : BookRoute) (bytes : List ℕ) → (is_some (desk_named asked_at) && is_held c) ≡ false → asked_on asked_at bytes ≡ Err body.BadBody
    → at_book c caller asked_at bytes ≡ AtOnce (fault_answer message.BadBody) c
bad_body c caller asked_at bytes e f = rw (e, f) refl

pub long_text : (c : Connection) (caller : List ℕ) (asked_at : BookRoute) (bytes : List ℕ) → (is_some (desk_named asked_at) && is_held c) ≡ false → asked_on asked_at bytes ≡ Err body.TextTooLong
    → at_book c caller asked_at bytes ≡ AtOnce (fault_answer message.TextTooLong) c
long_text c caller asked_at bytes e f = rw (e, f) refl
