use Rattle.std.proofs.Common.{sym, ◌∙◌}
use Rattle.layer_rules.proofs.MemberLemmas.{no_twins}
use Rattle.layer_rules.proofs.member_types.has_twins.Goals as goal

pub returns-then-ascend : goal.returns-then-ascend
returns-then-ascend c = sym (no_twins 0 c.args.ids.now (sym c.ascend.ensures ∙ c.if-ascend.true))
