use Rattle.layer_rules.proofs.RecordLemmas.{five}
use Rattle.layer_rules.proofs.rules_by_kind.SceneJudgeSpan.rule.Goals as goal

pub returns : goal.returns
returns c =
    five c.unknown_type.result c.barred_type.result c.bad_fragments.result c.out_of_text.result c.span_too_long.result c.or.result c.or-2.result c.or-3.result c.or-4.result
    c.or.ensures c.or-2.ensures c.or-3.ensures c.or-4.ensures
    c.unknown_type.ensures c.barred_type.ensures c.bad_fragments.ensures c.out_of_text.ensures c.span_too_long.ensures
