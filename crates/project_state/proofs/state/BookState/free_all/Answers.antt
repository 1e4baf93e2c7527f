use Rattle.std.proofs.Common.{◌≡◌, ◌∙◌, ap, length, map}
use Rattle.std.proofs.lemmas.List.{length-map}
use Rattle.project_machine.specs.History.{freed}
use Rattle.project_machine.specs.ProjectState.{Document}
use Rattle.std.specs.Prelude.{List}
use Rattle.project_state.proofs.KeptLemmas.{freed_keep}
use Rattle.project_state.proofs.FrontLemmas.{whole_replaced}
use Rattle.project_state.proofs.state.BookState.free_all.Goals as goal

pub invariant_of-self : goal.invariant_of-self
invariant_of-self c =
    let new : c.free_documents.new.documents ≡ map freed c.self.inside.documents.items = c.free_documents.ensures ∙ ap (map freed) c.as_mut_slice.ensures.value in
    let size : length c.free_documents.new.documents ≡ length c.self.inside.documents.items = ap (λ (all : List Document). length all) new ∙ length-map c.self.inside.documents.items freed in
    freed_keep _ _ _ _ c.self.invariant (whole_replaced c.self.inside.documents.len c.free_documents.new.documents c.self.inside.documents.items c.self.inside.documents.ok.0 size ∙ new)
