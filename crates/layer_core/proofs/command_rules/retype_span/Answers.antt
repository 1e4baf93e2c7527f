use Rattle.std.proofs.Common.{◌≡◌, ◌∙◌, ap}
use Rattle.type_hierarchy.specs.TypeTrees.{type_named}
use Rattle.layer_core.specs.CommandRules.{barred, undeclared}
use Rattle.layer_core.proofs.OwnLemmas.{pairs}
use Rattle.layer_core.proofs.command_rules.retype_span.Goals as goal

pub returns : goal.returns
returns c =
    let found : c.find-found.result ≡ type_named c.args.conf.now.types c.args.kind.now = c.find-found.ensures ∙ ap (λ types. type_named types c.args.kind.now) c.types.ensures in
    pairs c.undeclared_type.result c.barred.result c.missing.result c.no_span.result c.trigger_in_use.result
    c.or-named.result c.or-there.result c.or.result c.or-2.result c.or-named.ensures c.or-there.ensures c.or.ensures c.or-2.ensures
    (c.undeclared_type.ensures ∙ ap undeclared found) (c.barred.ensures ∙ ap (barred c.args.conf.now) found) c.missing.ensures c.no_span.ensures c.trigger_in_use.ensures
