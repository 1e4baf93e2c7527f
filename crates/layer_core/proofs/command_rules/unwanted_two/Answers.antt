use Rattle.std.proofs.Common.{[], ◌∷◌, not}
use Rattle.layer_model.specs.declared.rule.Rule.TheVariants.{WrongKind}
use Rattle.layer_core.specs.CommandRules.{is_event_letter, of_letters}
use Rattle.layer_rules.specs.MarkRules.{argument}
use Rattle.layer_rules.proofs.RecordLemmas.{first_split}
use Rattle.layer_core.proofs.command_rules.unwanted_two.Goals as goal

pub returns : goal.returns
returns c =
    rw (c.or.ensures, c.no_event.ensures, c.unwanted.ensures, c.is_argument.ensures)
    (first_split (λ wanted. WrongKind wanted.id) (λ wanted. not wanted.fits) (of_letters is_event_letter c.args.id) (argument c.args.conf.now c.args.layer.now c.args.target ∷ []))
