use Rattle.layer_rules.proofs.RecordLemmas.{five}
use Rattle.layer_rules.proofs.rules_by_kind.SceneJudgeAttribute.rule.Goals as goal

pub returns : goal.returns
returns c =
    five c.unknown_attribute.result c.missing.result c.unwanted_target.result c.refused_target.result c.unknown_value.result c.or.result c.or-2.result c.or-3.result c.or-4.result
    c.or.ensures c.or-2.ensures c.or-3.ensures c.or-4.ensures
    c.unknown_attribute.ensures c.missing.ensures c.unwanted_target.ensures c.refused_target.ensures c.unknown_value.ensures
