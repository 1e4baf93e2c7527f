use Rattle.std.proofs.Common.{◌∙◌, ap, refl, List, [], ℕ, unwrap_or}
use Rattle.conf_model.specs.Configurations.{Configuration}
use Rattle.layer_rules.specs.CarriedByRule.{carried_by_rule}
use Rattle.project_machine.specs.declared.book_refusal.BookRefusal.TheVariants.{Broken}
use Rattle.program_inputs.specs.declared.trouble.Trouble.TheVariants.{Refused}
use Rattle.project_commands.specs.Importing.{breaks}
use Rattle.project_commands.proofs.importing.load.Goals as goal

pub returns-in_ok-named-in-Err-Rule-clause-refused : goal.returns-in_ok-named-in-Err-Rule-clause-refused
returns-in_ok-named-in-Err-Rule-clause-refused c =
    breaks c.in-Err-Rule.rule (rw c.in-Err-Rule.field-0-is at c.in-Err-Rule.ensures.refused)
    (ap (λ (named : List ℕ). Refused (Broken c.in-Err-Rule.rule) named)
    (c.in_ok-named-in-Err-Rule.ensures ∙ ap (λ (conf : Configuration). unwrap_or (carried_by_rule conf c.in-Err-Rule.rule) []) (c.deref.ensures ∙ c.args.held.now.conf_is)))
