use Rattle.std.proofs.Common.{None, Option, Some, ap}
use Rattle.std.specs.Prelude.{codes}
use Rattle.std.specs.Fmt.{digits}
use Rattle.std.specs.Option.{option_map, option_or}
use Rattle.layer_model.specs.Annotations.{Annotations}
use Rattle.layer_model.specs.declared.rule.Rule.{Rule}
use Rattle.project_machine.specs.declared.book_refusal.BookRefusal.TheVariants as no
use Rattle.project_machine.specs.Machine.{Step, unless}
use Rattle.project_machine.specs.Requests.{Commit, Committed, LayerCommitted}
use Rattle.project_machine.specs.WorkedSteps.{of_pairs}
use Rattle.project_machine.proofs.worked_steps.examples_of_broken_layers.Goals as goal

-- a commit of a layer, by the rule that forbids it
by_rule : Annotations → Option Rule → Step
by_rule layer rule = unless of_pairs (Commit (codes "x") 3 layer) (option_or (option_map no.Broken rule) None) (Committed 1) (Some (LayerCommitted (codes "ann") 0 3 layer))

pub returns : goal.returns
unfolding by_rule digits
returns c = λ layer broken. ap (by_rule layer) broken
