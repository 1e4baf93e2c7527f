use Rattle.std.proofs.Common.{◌∙◌, ap}
use Rattle.project_machine.specs.ProjectState.{is_there}
use Rattle.project_state.specs.Stored.{Stored}
use Rattle.project_state.proofs.KeptLemmas.{numbered_keep}
use Rattle.project_state.proofs.state.BookState.make_room_for_document.Goals as goal

pub invariant_of-self : goal.invariant_of-self
invariant_of-self c =
    numbered_keep _ _ _ _ _ c.args.name.now c.self.invariant c.make_document_room.ensures.same (ap (λ (kept : Stored). is_there kept.state c.args.name.now) c.self.view_is ∙ c.requires.alone) c.make_document_room.ensures.others
