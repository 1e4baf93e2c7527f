use Rattle.std.proofs.Common.{◌≡◌, None, subst}
use Rattle.project_machine.specs.declared.book_refusal.BookRefusal.TheVariants as no
use Rattle.project_machine.specs.declared.book_refusal.Policy.TheVariants as policy
use Rattle.project_machine.specs.ProjectState.{is_annotator, number_of}
use Rattle.project_machine.specs.Machine.{policies}
use Rattle.project_machine.proofs.KeptLemmas.{row_kept, unmet}
use Rattle.project_state.specs.declared.request.Request.{Request}
use Rattle.project_state.specs.Values.{asked_of}
use Rattle.project_steps.proofs.steps.judging.outcome_of.Goals as goal

pub park-requires : goal.park-requires
park-requires c =
    (row_kept c.args.state.now.state (number_of c.args.state.now.state c.in-Park.doc) c.args.by.now c.unflawed_layers.ensures.unflawed c.requires.kept
    (unmet (is_annotator c.args.state.now.state c.args.by.now) (no.NotAllowed policy.Annotator) (subst (λ (r : Request). policies c.args.state.now.state c.args.by.now (asked_of r) ≡ None) c.in-Park.is c.requires.permitted))).layer.obeys.well_formed
