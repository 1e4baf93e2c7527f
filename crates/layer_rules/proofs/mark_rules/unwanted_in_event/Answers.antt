use Rattle.std.proofs.Common.{not, map}
use Rattle.mark_base.specs.declared.ann_id.Kind.TheVariants.{Text}
use Rattle.layer_model.specs.declared.rule.Rule.TheVariants.{WrongKind}
use Rattle.mark_base.specs.ReadIds.{id_at}
use Rattle.layer_rules.specs.MarkRules.{argument, trigger}
use Rattle.layer_rules.proofs.RecordLemmas.{first_split}
use Rattle.layer_rules.proofs.mark_rules.unwanted_in_event.Goals as goal

pub returns : goal.returns
returns c =
    rw (c.or.ensures, c.unwanted.ensures, c.is_trigger.ensures, c.unwanted_args.ensures, c.items.ensures, c.id_at-trigger.ensures)
    (first_split (λ wanted. WrongKind wanted.id) (λ wanted. not wanted.fits) (trigger c.args.layer.now c.args.event.now.kind (id_at Text c.args.event.now.trigger))
    (map (λ arg. argument c.args.conf.now c.args.layer.now arg.target) c.args.event.now.args))
