use Rattle.std.proofs.Common.{map, ap, ◌∙◌}
use Rattle.layer_rules.specs.MarkRules.{first_missing, first_unwanted, member}
use Rattle.layer_rules.proofs.RecordLemmas.{four}
use Rattle.layer_rules.proofs.class_rules.class_rule.Goals as goal

pub returns : goal.returns
returns c =
    four c.unknown_relation.result c.barred_class.result c.missing_ids.result c.unwanted_members.result c.or.result c.or-2.result c.or-3.result
    c.or.ensures c.or-2.ensures c.or-3.ensures
    c.unknown_relation.ensures c.barred_class.ensures (c.missing_ids.ensures ∙ ap (first_missing c.args.layer.now) c.items.ensures)
    (c.unwanted_members.ensures ∙ ap (λ ids. first_unwanted (map (member c.args.conf.now c.args.layer.now) ids)) c.items-2.ensures)
