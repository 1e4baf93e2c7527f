use Rattle.std.proofs.Common.{◌≡◌, ◌∷◌, not, map, option_and_then, ◌∙◌, ap}
use Rattle.layer_model.specs.declared.rule.Rule.TheVariants.{NoSuch}
use Rattle.layer_model.specs.Layers.{has}
use Rattle.layer_core.specs.CommandRules.{barred, event_named, roles_undeclared, undeclared}
use Rattle.layer_rules.specs.MarkRules.{argument, first_missing, first_unwanted, trigger}
use Rattle.layer_core.proofs.OwnLemmas.{six}
use Rattle.layer_rules.proofs.RecordLemmas.{first_split}
use Rattle.layer_core.proofs.command_rules.add_event.Goals as goal

pub returns : goal.returns
returns c =
    let found : c.event_named-found.result ≡ event_named c.args.conf.now c.args.kind.now = c.event_named-found.ensures in
    let there : c.or-there.result ≡ first_missing c.args.layer.now (c.args.by ∷ map (λ arg. arg.target) c.args.args.now) =
    rw (c.or-there.ensures, c.missing.ensures, c.missing_targets.ensures) (first_split NoSuch (λ id. not (has c.args.layer.now id)) c.args.by (map (λ arg. arg.target) c.args.args.now)) in
    six c.undeclared_type.result c.barred.result c.or-there.result c.unwanted_by_event-fitting.result c.role_unknown-roles.result c.used_up.result
    c.or-named.result c.or.result c.or-2.result c.or-3.result c.or-4.result c.or-named.ensures c.or.ensures c.or-2.ensures c.or-3.ensures c.or-4.ensures
    (c.undeclared_type.ensures ∙ ap undeclared found) (c.barred.ensures ∙ ap (barred c.args.conf.now) found) there
    (c.unwanted_by_event-fitting.ensures
    ∙ ap (option_and_then (λ type_. first_unwanted (trigger c.args.layer.now type_ c.args.by ∷ map (λ arg. argument c.args.conf.now c.args.layer.now arg.target) c.args.args.now))) found)
    (c.role_unknown-roles.ensures ∙ ap (λ kind. roles_undeclared c.args.conf.now kind c.args.args.now) found) c.used_up.ensures
