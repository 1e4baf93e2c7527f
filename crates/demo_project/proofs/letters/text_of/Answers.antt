use Rattle.std.proofs.Common.{◌∙◌, sym}
use Rattle.demo_project.proofs.JoinedLemmas.{grown_bare, joined_none}
use Rattle.demo_project.proofs.letters.text_of.Goals as goal

pub loop-word-init : goal.loop-word-init
loop-word-init c = c.new-text.ensures.items ∙ sym (joined_none _)

pub loop-word-preserved : goal.loop-word-preserved
loop-word-preserved c = grown_bare _ _ _ _ c.loop-word.invariant c.in_ok-push_word.ensures
