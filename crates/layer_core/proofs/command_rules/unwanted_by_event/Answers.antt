use Rattle.std.proofs.Common.{not, map}
use Rattle.layer_model.specs.declared.rule.Rule.TheVariants.{WrongKind}
use Rattle.layer_rules.specs.MarkRules.{argument, trigger}
use Rattle.layer_rules.proofs.RecordLemmas.{first_split}
use Rattle.layer_core.proofs.command_rules.unwanted_by_event.Goals as goal

pub returns : goal.returns
returns c =
    rw (c.in_ok-kind.was, c.or.ensures, c.unwanted.ensures, c.is_trigger.ensures, c.unwanted_targets.ensures)
    (first_split (λ wanted. WrongKind wanted.id) (λ wanted. not wanted.fits) (trigger c.args.layer.now c.in_ok-kind.kind c.args.by) (map (λ arg. argument c.args.conf.now c.args.layer.now arg.target) c.args.args.now))
