use Rattle.std.proofs.Common.{◌≡◌, ◌∙◌, ap, subst}
use Rattle.project_machine.specs.History.{after}
use Rattle.project_machine.specs.ProjectState.{ProjectState}
use Rattle.project_state.specs.Entries.Asking.{TellsRequest}
use Rattle.project_book.specs.Keeping.{BookValue}
use Rattle.project_book.specs.Replaying.{IsReading}
use Rattle.project_book.proofs.ReplayLemmas.{asking_read, none_without_entry}
use Rattle.project_book.proofs.book.Book.asking_in.Goals as goal

pub returns-in_ok-told-in-Some : goal.returns-in_ok-told-in-Some
returns-in_ok-told-in-Some g c =
    let state : c.self.inside.state.state ≡ after c.args.self.now.log = c.self.invariant.state_is ∙ ap (λ (b : BookValue _). after b.log) c.self.view_is in
    asking_read c.written_layers_are_utf8.ensures c.states_can_be_restored.ensures.kept c.entries_are_told_apart.ensures.no_two c.changes_tell_their_requests.ensures.request c.changes_tell_their_requests.ensures.next
    c.args.self.now.log c.args.bytes.now c.in-Some.entry c.in_ok-told-in-Some.told c.keeps.ensures.legal (subst (IsReading c.args.bytes.now) c.in-Some.is c.requires.read) c.requires.other
    (subst (λ (s : ProjectState). TellsRequest s c.in-Some.entry c.in_ok-told-in-Some.told) state c.in_ok-told-in-Some.ensures)

pub returns-in-None : goal.returns-in-None
returns-in-None g c =
    none_without_entry c.written_layers_are_utf8.ensures c.states_can_be_restored.ensures.kept c.args.self.now.log c.args.bytes.now c.keeps.ensures.legal (subst (IsReading c.args.bytes.now) c.in-None.is c.requires.read)
