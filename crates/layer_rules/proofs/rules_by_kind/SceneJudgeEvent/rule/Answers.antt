use Rattle.layer_rules.proofs.RecordLemmas.{seven}
use Rattle.layer_rules.proofs.rules_by_kind.SceneJudgeEvent.rule.Goals as goal

pub returns : goal.returns
returns c =
    seven c.unknown_event_type.result c.barred_type.result c.missing_in_event.result c.unwanted_in_event.result c.unknown_role.result c.refused_argument.result c.too_many.result c.or.result c.or-2.result c.or-3.result c.or-4.result c.or-5.result c.or-6.result
    c.or.ensures c.or-2.ensures c.or-3.ensures c.or-4.ensures c.or-5.ensures c.or-6.ensures
    c.unknown_event_type.ensures c.barred_type.ensures c.missing_in_event.ensures c.unwanted_in_event.ensures c.unknown_role.ensures c.refused_argument.ensures c.too_many.ensures
