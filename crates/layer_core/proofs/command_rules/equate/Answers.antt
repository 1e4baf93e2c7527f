use Rattle.std.proofs.Common.{◌∙◌, sym, refl}
use Rattle.conf_model.specs.Lookups.{relation_named}
use Rattle.layer_core.proofs.OwnLemmas.{comes_behind, pairs, stands}
use Rattle.layer_core.specs.CommandRules.{members_refused}
use Rattle.layer_core.proofs.command_rules.equate.Goals as goal

pub returns-then-is_some : goal.returns-then-is_some
returns-then-is_some c =
    let refused = members_refused c.args.conf.now c.args.layer.now (relation_named c.args.conf.now c.args.kind.now) c.args.members.now in
    pairs c.undeclared_relation.result c.no_equivalence.result c.missing_ids.result c.unwanted_members.result refused
    c.or-named.result c.or-there.result c.or-broken.result c.or-broken.result c.or-named.ensures c.or-there.ensures c.or-broken.ensures
    (stands c.or-broken.result refused (sym c.is_some.ensures ∙ c.if-is_some.true))
    c.undeclared_relation.ensures c.no_equivalence.ensures c.missing_ids.ensures c.unwanted_members.ensures refl

pub returns : goal.returns
returns c =
    pairs c.undeclared_relation.result c.no_equivalence.result c.missing_ids.result c.unwanted_members.result c.members_refused.result
    c.or-named.result c.or-there.result c.or-broken.result c.members_refused.result c.or-named.ensures c.or-there.ensures c.or-broken.ensures
    (comes_behind c.or-broken.result c.members_refused.result (sym c.is_some.ensures ∙ c.if-is_some.false))
    c.undeclared_relation.ensures c.no_equivalence.ensures c.missing_ids.ensures c.unwanted_members.ensures c.members_refused.ensures
