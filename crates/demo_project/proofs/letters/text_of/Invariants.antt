use Rattle.std.proofs.Common.{◌≡◌}
use Rattle.demo_project.specs.Joined.{joined}
use Rattle.demo_project.specs.Texts.{word_of}
use Rattle.demo_project.proofs.letters.text_of.Given as goal

abbrev pub invariant-loop-word : goal.invariant-loop-word
invariant-loop-word l = l.text.items ≡ joined (word_of l.number l.doc) l.word
