use Rattle.std.proofs.Common.{refl, sym, ◌∙◌}
use Rattle.demo_project.proofs.SessionLemmas.{unable_more}
use Rattle.demo_project.proofs.serving.says_unable.Goals as goal

pub loop-at-init : goal.loop-at-init
loop-at-init c = refl

pub loop-at-preserved : goal.loop-at-preserved
loop-at-preserved c = unable_more _ _ c.loop-at-test.true (sym c.begins_unable.ensures ∙ c.if-begins_unable.false) ∙ c.loop-at.invariant
