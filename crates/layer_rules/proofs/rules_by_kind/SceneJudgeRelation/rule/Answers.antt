use Rattle.layer_rules.proofs.RecordLemmas.{five}
use Rattle.layer_rules.proofs.rules_by_kind.SceneJudgeRelation.rule.Goals as goal

pub returns : goal.returns
returns c =
    five c.unknown_relation.result c.barred_relation.result c.missing_in_relation.result c.unwanted_in_relation.result c.refused_types.result c.or.result c.or-2.result c.or-3.result c.or-4.result
    c.or.ensures c.or-2.ensures c.or-3.ensures c.or-4.ensures
    c.unknown_relation.ensures c.barred_relation.ensures c.missing_in_relation.ensures c.unwanted_in_relation.ensures c.refused_types.ensures
